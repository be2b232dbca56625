-- Specification 10: the proved sample runs. Assumes nothing.
use Rattle.definitions.specs.Refusals.{Outcome, accepted, refused}
use Rattle.std.specs.Prelude.{◌≡◌, List, [], ◌∷◌, ◌++◌, ℕ, ◌-◌, ℤ, pos, neg_ℤ, length, replicate}
use Rattle.definitions.specs.declared.Run.{Run}
use Rattle.definitions.specs.Lent.{Order, order_of}
use Rattle.definitions.specs.Window.{Chain, Room, WindowEnd, window_call}

-- a line of the table: an order, what the sampler sends, the sizes of the areas, and the end
pub record WindowSample : Type 0 where
  pub order : Order
  pub chain : Chain
  pub room : Room
  pub end : WindowEnd

unfoldable pub window_called : WindowSample → WindowEnd
window_called sample = window_call sample.order sample.chain sample.room

infix 80 +◌
infix 80 −◌
abbrev +◌ : ℕ → ℤ
+ k = pos k

abbrev −◌ : ℕ → ℤ
− k = neg_ℤ (pos k)

abbrev chain_of : (start : List ℤ) (width cell : ℕ) (records : List ℤ) → Chain
chain_of start width cell records = record { start = start; width = width; cell = cell; records = records }

abbrev room_of : (list group answers : ℕ) → Room
room_of list group answers = record { list = list; group = group; answers = answers }

-- the line of an order: the answer, and in its areas the numbers of the list, the table and the answer rows, with zeros
-- behind them
line : Order → Chain → Room → Outcome Run → (list : List ℤ) (table : List ℕ) (answers : List ℤ) → WindowSample
line order chain room answer list table answers =
    record {
      order = order;
      chain = chain;
      room = room;
      end = record {
        answer = answer;
        list = list ++ replicate (room.list - length list) (pos 0);
        group = table ++ replicate (room.group - length table) 0;
        answers = answers ++ replicate (room.answers - length answers) (pos 0);
      };
    }

-- (1,−1), without exchanges and with the exchange of its two cells; the differences of three cells
abbrev pair : (exchanges : List ℕ) → Order
pair exchanges = order_of 2 (+ 1 ∷ − 1 ∷ []) exchanges []

abbrev three : Order
three = order_of 3 (+ 1 ∷ − 1 ∷ + 0 ∷ + 0 ∷ + 1 ∷ − 1 ∷ []) [] []

unfoldable pub window_samples : List WindowSample
unfolding line
window_samples =
    -- P46: four records, a window of two, and room for an answer row more
    line three
    (chain_of (+ 5 ∷ + 5 ∷ + 5 ∷ []) 2 1
    (+ 0 ∷ + 0 ∷ + 1 ∷ + 0 ∷ + 0 ∷ + 1 ∷ + 1 ∷ + 0 ∷ − 1 ∷ + 2 ∷ + 0 ∷ + 1 ∷ []))
    (room_of 15 6 30)
    (accepted (record { records = 4; rows = 3; members = 1; stored = 3; sums = 12 }))
    (+ 1 ∷ + 0 ∷ − 1 ∷ + 1 ∷ − 1 ∷ + 0 ∷ + 0 ∷ + 1 ∷ − 1 ∷ [])
    (1 ∷ 2 ∷ 3 ∷ [])
    (+ 6 ∷ + 5 ∷ + 4 ∷ + 6 ∷ + 6 ∷ + 1
    ∷ + 7 ∷ + 5 ∷ + 3 ∷ + 6 ∷ + 7 ∷ + 1
    ∷ + 6 ∷ + 6 ∷ + 3 ∷ + 6 ∷ + 7 ∷ + 2
    ∷ + 6 ∷ + 7 ∷ + 2 ∷ + 6 ∷ + 6 ∷ + 2
    ∷ [])
    -- P47: one row by three of its images; the fourth record makes an entry negative
    ∷ line (pair (2 ∷ 1 ∷ []))
    (chain_of (+ 0 ∷ + 3 ∷ []) 256 2
    (+ 0 ∷ + 0 ∷ + 1 ∷ + 0 ∷ + 1 ∷ − 1 ∷ + 0 ∷ + 0 ∷ + 1 ∷ + 0 ∷ + 0 ∷ + 1 ∷ + 0 ∷ + 1 ∷ + 1 ∷ []))
    (room_of 8 4 25)
    (refused 25 3)
    []
    []
    (+ 1 ∷ + 2 ∷ + 2 ∷ + 2 ∷ + 1
    ∷ + 2 ∷ + 1 ∷ + 1 ∷ + 2 ∷ + 1
    ∷ + 3 ∷ + 0 ∷ + 0 ∷ + 2 ∷ + 1
    ∷ [])
    -- P48: an entry of 1,000,000, and one past it
    ∷ line (pair [])
    (chain_of (+ 999_999 ∷ + 2 ∷ []) 1 1 (+ 0 ∷ + 0 ∷ + 1 ∷ + 0 ∷ + 0 ∷ + 1 ∷ []))
    (room_of 2 2 10)
    (refused 25 1)
    []
    []
    (+ 1_000_000 ∷ + 1 ∷ + 1_000_000 ∷ + 1_000_000 ∷ + 1 ∷ [])
    -- P49: a sign that is none
    ∷ line (pair []) (chain_of (+ 1 ∷ + 1 ∷ []) 1 1 (+ 0 ∷ + 0 ∷ + 2 ∷ [])) (room_of 2 2 5)
    (refused 25 0) [] [] []
    -- P50: no records
    ∷ line (pair []) (chain_of (+ 1_000_000 ∷ + 0 ∷ []) 256 2 []) (room_of 2 2 5)
    (accepted (record { records = 0; rows = 1; members = 1; stored = 1; sums = 2 }))
    (+ 1 ∷ − 1 ∷ [])
    (1 ∷ 2 ∷ [])
    []
    -- P51: a starting entry below 0
    ∷ line (pair []) (chain_of (+ 1 ∷ − 1 ∷ []) 1 1 (+ 0 ∷ + 0 ∷ + 2 ∷ [])) (room_of 2 2 5)
    (refused 14 1) [] [] []
    -- P52: a starting entry below 0, and a window of 257 records
    ∷ line (pair []) (chain_of (+ 1 ∷ − 1 ∷ []) 257 1 []) (room_of 2 2 5)
    (refused 6 0) [] [] []
    -- P53: more records than answer rows
    ∷ line (pair []) (chain_of (+ 1 ∷ + 1 ∷ []) 1 1 (+ 0 ∷ + 0 ∷ + 1 ∷ + 0 ∷ + 0 ∷ − 1 ∷ [])) (room_of 2 2 5)
    (refused 6 0) [] [] []
    -- P54: no room for a row in the list area, and the cell 0
    ∷ line (pair []) (chain_of (+ 1 ∷ + 1 ∷ []) 1 0 []) (room_of 0 2 5)
    (refused 13 0) [] [] []
    ∷ []

-- each line's call ends as the line says
abbrev pub WindowHold : List WindowSample → Type 0
WindowHold [] = Unit {0}
WindowHold (sample ∷ lines) = (window_called sample ≡ sample.end) × WindowHold lines
