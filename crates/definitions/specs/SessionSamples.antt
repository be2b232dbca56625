-- Specification 10: the proved sample sessions. Assumes nothing.
use Rattle.definitions.specs.Refusals.{Outcome, accepted, refused}
use Rattle.std.specs.Prelude.{◌≡◌, List, [], ◌∷◌, ◌++◌, ℕ, ◌*◌, ◌-◌, ℤ, pos, neg_ℤ, length, replicate}
use Rattle.definitions.specs.declared.Ending.{Ending}
use Rattle.definitions.specs.declared.Ending.TheVariants.{Moves, Unfinished}
use Rattle.definitions.specs.Limits.{session_rows}
use Rattle.definitions.specs.Lent.{Order, order_of}
use Rattle.definitions.specs.Session.{SessionEnd, session_call}

-- a line of the table: two orders, the sizes of the list area and the group area, the steps, and the end
pub record SessionSample : Type 0 where
  pub first : Order
  pub second : Order
  pub list_size : ℕ
  pub group_size : ℕ
  pub steps : List ℕ
  pub end : SessionEnd

unfoldable pub session_called : SessionSample → SessionEnd
session_called sample =
    session_call sample.first sample.second sample.list_size sample.group_size sample.steps

infix 80 +◌
infix 80 −◌
abbrev +◌ : ℕ → ℤ
+ k = pos k

abbrev −◌ : ℕ → ℤ
− k = neg_ℤ (pos k)

-- the line of two orders: the answers, and in their areas the numbers of the list area and of the table, with zeros
-- behind them
line : (first second : Order) (list_size group_size : ℕ) (steps : List ℕ) → Outcome Ending → Outcome Ending
    → (list : List ℤ) (table : List ℕ) → SessionSample
line first second list_size group_size steps ending other list table =
    record {
      first = first;
      second = second;
      list_size = list_size;
      group_size = group_size;
      steps = steps;
      end = record {
        first = ending;
        second = other;
        list = list ++ replicate (list_size - length list) (pos 0);
        group = table ++ replicate (group_size - length table) 0;
      };
    }

-- order 1's rows, behind those of order 0
behind : (n : ℕ) (rows numbers : List ℤ) → List ℤ
behind n rows numbers = rows ++ replicate (n * session_rows - length rows) (pos 0) ++ numbers

-- orders of one cell, and of two
abbrev one : (generators : List ℤ) → Order
one generators = order_of 1 generators [] []

abbrev two : (generators : List ℤ) (exchanges : List ℕ) → Order
two generators exchanges = order_of 2 generators exchanges []

unfoldable pub session_samples : List SessionSample
unfolding line behind
session_samples =
    -- P36: (2), (3) beside (4), (6): twelve steps and five, mixed, and bytes that name no order
    line (one (+ 2 ∷ + 3 ∷ [])) (one (+ 4 ∷ + 6 ∷ [])) 128 2
    (0 ∷ 1 ∷ 0 ∷ 0 ∷ 48 ∷ 1 ∷ 0 ∷ 0 ∷ 0 ∷ 1 ∷ 2 ∷ 0 ∷ 1 ∷ 0 ∷ 0 ∷ 0 ∷ 0 ∷ 1 ∷ 0 ∷ 0 ∷ 0 ∷ [])
    (accepted (Moves 1 1 3 12)) (accepted (Unfinished 5))
    (+ 1 ∷ [])
    (1 ∷ [])
    -- P37: a generator of order 0 is zero; (1,−1) has a step more than its four sums
    ∷ line (two (+ 1 ∷ + 0 ∷ + 0 ∷ + 0 ∷ []) (2 ∷ 1 ∷ [])) (two (+ 1 ∷ − 1 ∷ []) (2 ∷ 1 ∷ [])) 256 6
    (1 ∷ 0 ∷ 1 ∷ 1 ∷ 1 ∷ 1 ∷ [])
    (refused 8 1) (accepted (Moves 1 2 1 4))
    (behind 2 [] (+ 1 ∷ − 1 ∷ []))
    (1 ∷ 2 ∷ 2 ∷ 1 ∷ [])
    -- P38: order 0 has an exchange more
    ∷ line (two (+ 1 ∷ − 1 ∷ []) (2 ∷ 1 ∷ 1 ∷ 2 ∷ [])) (two (+ 1 ∷ − 1 ∷ []) (2 ∷ 1 ∷ [])) 256 4
    (0 ∷ 1 ∷ [])
    (refused 9 1) (refused 9 1)
    []
    []
    -- P39: the exchanges of order 1 are no whole rows, and those of order 0 differ from them
    ∷ line (two [] (2 ∷ 1 ∷ [])) (two [] (2 ∷ 1 ∷ 1 ∷ [])) 256 4
    []
    (refused 9 1) (refused 6 0)
    []
    []
    -- P40: no cells, and a list area of another size
    ∷ line (order_of 0 [] [] []) (order_of 0 [] [] []) 5 1
    []
    (refused 6 0) (refused 6 0)
    []
    []
    -- P41: no cells, and none in the list area
    ∷ line (order_of 0 [] [] []) (order_of 0 [] [] []) 0 1
    []
    (refused 5 0) (refused 5 0)
    []
    []
    -- P42: no generators; and (1,1), which no step names
    ∷ line (two [] (2 ∷ 1 ∷ [])) (two (+ 1 ∷ + 1 ∷ []) (2 ∷ 1 ∷ [])) 256 4
    (0 ∷ [])
    (accepted (Moves 0 2 0 0)) (accepted (Unfinished 0))
    []
    (1 ∷ 2 ∷ 2 ∷ 1 ∷ [])
    -- P43: P17, which is bare, and the same lattice with a third generator
    ∷ line
    (order_of 3 (+ 1 ∷ − 1 ∷ + 0 ∷ + 0 ∷ + 1 ∷ − 1 ∷ []) (2 ∷ 3 ∷ 1 ∷ []) (− 1 ∷ − 1 ∷ + 1 ∷ + 0 ∷ []))
    (order_of 3 (+ 1 ∷ − 1 ∷ + 0 ∷ + 0 ∷ + 1 ∷ − 1 ∷ + 1 ∷ + 0 ∷ − 1 ∷ []) (2 ∷ 3 ∷ 1 ∷ []) []) 384 9
    (0 ∷ 1 ∷ 1 ∷ 0 ∷ 0 ∷ 0 ∷ 1 ∷ 1 ∷ 0 ∷ 1 ∷ 0 ∷ 1 ∷ [])
    (accepted (Moves 1 3 1 6)) (accepted (Moves 1 3 1 6))
    (behind 3 (+ 1 ∷ + 0 ∷ − 1 ∷ []) (+ 1 ∷ + 0 ∷ − 1 ∷ []))
    (1 ∷ 2 ∷ 3 ∷ 2 ∷ 3 ∷ 1 ∷ 3 ∷ 1 ∷ 2 ∷ [])
    -- P44: P6 meets 12 at its seventh step; (1,0) has a sum left
    ∷ line (two (+ 4000 ∷ + 1 ∷ + 1 ∷ + 4000 ∷ []) []) (two (+ 1 ∷ + 0 ∷ []) []) 256 2
    (0 ∷ 0 ∷ 0 ∷ 0 ∷ 1 ∷ 0 ∷ 0 ∷ 0 ∷ 0 ∷ [])
    (refused 12 7) (accepted (Unfinished 1))
    []
    (1 ∷ 2 ∷ [])
    -- P45: P6 twice
    ∷ line (two (+ 4000 ∷ + 1 ∷ + 1 ∷ + 4000 ∷ []) []) (two (+ 4000 ∷ + 1 ∷ + 1 ∷ + 4000 ∷ []) []) 256 2
    (0 ∷ 1 ∷ 0 ∷ 1 ∷ 0 ∷ 1 ∷ 0 ∷ 1 ∷ 0 ∷ 1 ∷ 0 ∷ 1 ∷ 0 ∷ 1 ∷ [])
    (refused 12 7) (refused 12 7)
    []
    []
    ∷ []

-- each line's call ends as the line says
abbrev pub SessionHold : List SessionSample → Type 0
SessionHold [] = Unit {0}
SessionHold (sample ∷ lines) = (session_called sample ≡ sample.end) × SessionHold lines
