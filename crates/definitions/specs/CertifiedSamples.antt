-- Specification 10: the proved sample orders of the List with coefficients. Assumes nothing.
use Rattle.definitions.specs.Refusals.{Outcome, accepted, refused}
use Rattle.std.specs.Prelude.{◌≡◌, List, [], ◌∷◌, ◌++◌, ℕ, ◌*◌, ◌-◌, ◌/◌, ℤ, pos, neg_ℤ, length, replicate}
use Rattle.definitions.specs.declared.Answer.{Answer}
use Rattle.definitions.specs.declared.Answer.TheVariants.{Moves}
use Rattle.definitions.specs.Lent.{Order, order_of}
use Rattle.definitions.specs.Calls.{CertifiedEnd, certified_call}

-- a line of the table: an order, the list rows and group rows that are lent, and the end
pub record CertifiedSample : Type 0 where
  pub order : Order
  pub list_rows : ℕ
  pub group_rows : ℕ
  pub end : CertifiedEnd

unfoldable pub certified_called : CertifiedSample → CertifiedEnd
certified_called sample =
    let order = sample.order in
    certified_call order (order.n * sample.list_rows) (order.n * sample.group_rows)
    (sample.list_rows * (length order.generators / order.n))

infix 80 +◌
infix 80 −◌
abbrev +◌ : ℕ → ℤ
+ k = pos k

abbrev −◌ : ℕ → ℤ
− k = neg_ℤ (pos k)

-- the line of an order of m generators: the answer, and in their areas the rows, the exchanges and the coefficients,
-- with zeros behind them
line : Order → (m list_rows group_rows : ℕ) → Outcome Answer → (rows : List ℤ) (table : List ℕ) (coefficients : List ℤ)
    → CertifiedSample
line order m list_rows group_rows answer rows table coefficients =
    record {
      order = order;
      list_rows = list_rows;
      group_rows = group_rows;
      end = record {
        answer = answer;
        list = rows ++ replicate (order.n * list_rows - length rows) (pos 0);
        group = table ++ replicate (order.n * group_rows - length table) 0;
        coefficients = coefficients ++ replicate (list_rows * m - length coefficients) (pos 0);
      };
    }

-- the generators of P32 to P34: each has 1 in a cell of its own, and a factor in the cell of the one before
abbrev chain : (last : ℕ) → List ℤ
chain last =
    + 1 ∷ + 0 ∷ + 0 ∷ + 0 ∷ + 100 ∷ + 1 ∷ + 0 ∷ + 0 ∷ + 0 ∷ + 100 ∷ + 1 ∷ + 0 ∷ + 0 ∷ + 0 ∷ + last ∷ + 1 ∷ []

unfoldable pub certified_samples : List CertifiedSample
unfolding line
certified_samples =
    -- P24: P2, (2), (3)
    line (order_of 1 (+ 2 ∷ + 3 ∷ []) [] []) 2 3 1 (accepted (Moves 1 1 3 12))
    (+ 1 ∷ [])
    (1 ∷ [])
    (− 1 ∷ + 1 ∷ [])
    -- P25: P3, (1,−1,0), (0,1,−1)
    ∷ line (order_of 3 (+ 1 ∷ − 1 ∷ + 0 ∷ + 0 ∷ + 1 ∷ − 1 ∷ []) [] []) 2 3 1 (accepted (Moves 3 1 3 12))
    (+ 1 ∷ + 0 ∷ − 1 ∷ + 1 ∷ − 1 ∷ + 0 ∷ + 0 ∷ + 1 ∷ − 1 ∷ [])
    (1 ∷ 2 ∷ 3 ∷ [])
    (+ 1 ∷ + 1 ∷ + 1 ∷ + 0 ∷ + 0 ∷ + 1 ∷ [])
    -- P26: P4, the order of the sample file
    ∷ line (order_of 3 (+ 1 ∷ + 0 ∷ − 1 ∷ + 2 ∷ − 1 ∷ + 0 ∷ + 0 ∷ − 1 ∷ + 2 ∷ [])
    (3 ∷ 2 ∷ 1 ∷ []) []) 3 3 2 (accepted (Moves 3 2 3 24))
    (+ 1 ∷ + 0 ∷ − 1 ∷ + 2 ∷ − 1 ∷ + 0 ∷ + 1 ∷ − 1 ∷ + 1 ∷ [])
    (1 ∷ 2 ∷ 3 ∷ 3 ∷ 2 ∷ 1 ∷ [])
    (+ 1 ∷ + 0 ∷ + 0 ∷ + 0 ∷ + 1 ∷ + 0 ∷ − 1 ∷ + 1 ∷ + 0 ∷ [])
    -- P27: (−1), (1): a negative image has the image's coefficients, negated
    ∷ line (order_of 1 (− 1 ∷ + 1 ∷ []) [] []) 2 1 1 (accepted (Moves 1 1 1 2))
    (+ 1 ∷ [])
    (1 ∷ [])
    (− 1 ∷ + 0 ∷ [])
    -- P28: (1), (1), (−1): of equal generators the lowest counts
    ∷ line (order_of 1 (+ 1 ∷ + 1 ∷ − 1 ∷ []) [] []) 3 1 1 (accepted (Moves 1 1 1 2))
    (+ 1 ∷ [])
    (1 ∷ [])
    (+ 1 ∷ + 0 ∷ + 0 ∷ [])
    -- P29: (2,2), (−2,2), (2,−2), exchange 2 1: an equal generator counts before one whose negative is equal
    ∷ line (order_of 2 (+ 2 ∷ + 2 ∷ − 2 ∷ + 2 ∷ + 2 ∷ − 2 ∷ []) (2 ∷ 1 ∷ []) []) 3 3 2 (accepted (Moves 3 2 3 24))
    (+ 2 ∷ − 2 ∷ + 4 ∷ + 0 ∷ + 2 ∷ + 2 ∷ [])
    (1 ∷ 2 ∷ 2 ∷ 1 ∷ [])
    (+ 0 ∷ − 1 ∷ + 0 ∷ + 1 ∷ − 1 ∷ + 0 ∷ + 1 ∷ + 0 ∷ + 0 ∷ [])
    -- P30: (1,−2), (2,−1), exchange 2 1: images that are negatives of generators
    ∷ line (order_of 2 (+ 1 ∷ − 2 ∷ + 2 ∷ − 1 ∷ []) (2 ∷ 1 ∷ []) []) 2 4 2 (accepted (Moves 3 2 3 24))
    (+ 2 ∷ − 1 ∷ + 1 ∷ + 1 ∷ + 3 ∷ + 0 ∷ [])
    (1 ∷ 2 ∷ 2 ∷ 1 ∷ [])
    (+ 0 ∷ + 1 ∷ − 1 ∷ + 1 ∷ − 1 ∷ + 2 ∷ [])
    -- P31: (1,0,−1), (2,−2,−2), (−2,−2,2), (−1,0,1), exchange 3 2 1: an image that is subtracted has the coefficients
    -- of its earliest position
    ∷ line (order_of 3 (+ 1 ∷ + 0 ∷ − 1 ∷ + 2 ∷ − 2 ∷ − 2 ∷ − 2 ∷ − 2 ∷ + 2 ∷ − 1 ∷ + 0 ∷ + 1 ∷ [])
    (3 ∷ 2 ∷ 1 ∷ []) []) 4 3 2 (accepted (Moves 2 2 3 24))
    (+ 1 ∷ + 0 ∷ − 1 ∷ + 0 ∷ + 2 ∷ + 0 ∷ [])
    (1 ∷ 2 ∷ 3 ∷ 3 ∷ 2 ∷ 1 ∷ [])
    (+ 1 ∷ + 0 ∷ + 0 ∷ + 0 ∷ − 2 ∷ + 0 ∷ − 1 ∷ + 0 ∷ [])
    -- P32: (1,0,0,0), (100,1,0,0), (0,100,1,0), (0,0,100,1): a coefficient of 1,000,000 is stored
    ∷ line (order_of 4 (chain 100) [] []) 4 7 1 (accepted (Moves 4 1 7 56))
    (+ 1 ∷ + 0 ∷ + 0 ∷ + 0 ∷ + 0 ∷ + 1 ∷ + 0 ∷ + 0 ∷ + 0 ∷ + 0 ∷ + 1 ∷ + 0 ∷ + 0 ∷ + 0 ∷ + 0 ∷ + 1 ∷ [])
    (1 ∷ 2 ∷ 3 ∷ 4 ∷ [])
    (+ 1 ∷ + 0 ∷ + 0 ∷ + 0 ∷ − 100 ∷ + 1 ∷ + 0 ∷ + 0 ∷ + 10000 ∷ − 100 ∷ + 1 ∷ + 0
    ∷ − 1_000_000 ∷ + 10000 ∷ − 100 ∷ + 1 ∷ [])
    -- P33: P32 with 101 for the last 100: 1,010,000 is not
    ∷ line (order_of 4 (chain 101) [] []) 4 7 1 (refused 24 18)
    []
    []
    []
    -- P34: P33 with 6 list rows: 13 comes before it
    ∷ line (order_of 4 (chain 101) [] []) 4 6 1 (refused 13 18)
    []
    []
    []
    ∷ []

-- each line's call ends as the line says
abbrev pub CertifiedHold : List CertifiedSample → Type 0
CertifiedHold [] = Unit {0}
CertifiedHold (sample ∷ lines) = (certified_called sample ≡ sample.end) × CertifiedHold lines
