-- Orders with an entry of 5,000, whose answers are others under the entry limit before, 10,000. Assumes nothing.
use Rattle.definitions.specs.Refusals.{Outcome}
use Rattle.std.specs.Prelude.{List, [], ◌∷◌, ℕ, ℤ, pos, negsuc}
use Rattle.definitions.specs.declared.Answer.{Answer}
use Rattle.definitions.specs.Lent.{Order, order_of}
use Rattle.definitions.specs.Calls.{list_call, check_call}
use Rattle.entry_limit.specs.Calls.{list_call_within, check_call_within}

-- the entry limit before
abbrev pub limit_before : ℕ
limit_before = 10_000

-- an answer, and the one under the entry limit before
pub record Answers : Type 0 where
  pub now : Outcome Answer
  pub before : Outcome Answer

abbrev pub answers : (now before : Outcome Answer) → Answers
answers now before = record { now = now; before = before }

abbrev pub listed : Order → (list_size group_size : ℕ) → Answers
listed order list_size group_size =
    answers (list_call order list_size group_size).answer
    (list_call_within limit_before order list_size group_size).answer

abbrev pub checked : Order → (rows coefficients : List ℤ) (group_size : ℕ) → Answers
checked order rows coefficients group_size =
    answers (check_call order rows coefficients group_size).answer
    (check_call_within limit_before order rows coefficients group_size).answer

-- (5000)
abbrev pub single : Order
single = order_of 1 (pos 5000 ∷ []) [] []

-- (5000,0), with the exchange 2 1
abbrev pub turned : Order
turned = order_of 2 (pos 5000 ∷ pos 0 ∷ []) (2 ∷ 1 ∷ []) []

-- (2500,1), (2500,−1): the third sum is (5000,0)
abbrev pub halves : Order
halves = order_of 2 (pos 2500 ∷ pos 1 ∷ pos 2500 ∷ negsuc 0 ∷ []) [] []

-- its list: (0,2), (2500,−1), (2500,1), (5000,0), with coefficients 1 −1, 0 1, 1 0, 1 1
abbrev pub halves_rows : List ℤ
halves_rows =
    pos 0 ∷ pos 2 ∷ pos 2500 ∷ negsuc 0 ∷ pos 2500 ∷ pos 1 ∷ pos 5000 ∷ pos 0 ∷ []

abbrev pub halves_coefficients : List ℤ
halves_coefficients = pos 1 ∷ negsuc 0 ∷ pos 0 ∷ pos 1 ∷ pos 1 ∷ pos 0 ∷ pos 1 ∷ pos 1 ∷ []
