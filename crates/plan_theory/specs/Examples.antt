-- Specification 3.11: pairs of plan calls whose problems differ in one cost. Assumes nothing.
use Rattle.std.specs.Prelude.{◌≡◌, Bool, true, ◌&&◌, [], ◌∷◌, ℕ, ℤ, pos, negsuc}
use Rattle.definitions.specs.Lent.{Order, order_of}
use Rattle.definitions.specs.Plan.{PlanRoom, Problem, plan_call}
use Rattle.plan_theory.specs.Sensitivity.{call_total, perturbed, says_cheapest, sensitivity_bound}

-- the differences of three cells
abbrev pub three : Order
three = order_of 3 (pos 1 ∷ negsuc 0 ∷ pos 0 ∷ pos 0 ∷ pos 1 ∷ negsuc 0 ∷ []) [] []

-- a problem of theirs, with an upper bound for the last cell: P55 where it is 2
abbrev pub steep : (last : ℕ) → Problem
steep last = record {
  start = pos 3 ∷ pos 0 ∷ pos 0 ∷ [];
  upper = pos 3 ∷ pos 2 ∷ pos last ∷ [];
  costs = pos 5 ∷ pos 1 ∷ pos 3 ∷ [];
  budget = 10;
}

-- the same with the cost of a cell changed by d, and less budget
abbrev pub steep_after : (last cell : ℕ) (d : ℤ) → Problem
steep_after last cell d = record {
  start = (steep last).start;
  upper = (steep last).upper;
  costs = perturbed (steep last).costs cell d;
  budget = 4;
}

abbrev room : PlanRoom
room = record { list = 12; group = 6; plan = 3 }

-- a pair: whether both calls answer Cheapest, their totals, and the bound
pub record Pair : Type 0 where
  pub cheapest : Bool
  pub total : ℤ
  pub total' : ℤ
  pub bound : ℕ

-- both answer Cheapest
abbrev pub both_cheapest : (total total' : ℤ) (bound : ℕ) → Pair
both_cheapest total total' bound = record { cheapest = true; total = total; total' = total'; bound = bound }

abbrev pub paired : (last cell : ℕ) (d : ℤ) → Pair
paired last cell d = record {
  cheapest = says_cheapest (plan_call three (steep last) room).answer
      && says_cheapest (plan_call three (steep_after last cell d) room).answer;
  total = call_total three (steep last) room;
  total' = call_total three (steep_after last cell d) room;
  bound = sensitivity_bound (steep last) cell d;
}

abbrev pub ExamplesHold : Type 0
ExamplesHold =
    -- the totals are as far apart as the bound, with either sign of d
    (paired 2 1 (pos 1) ≡ both_cheapest (pos 5) (pos 7) 2)
    × (paired 2 1 (negsuc 0) ≡ both_cheapest (pos 5) (pos 3) 2)
    -- they are nearer, at other plans
    × (paired 2 1 (pos 3) ≡ both_cheapest (pos 5) (pos 10) 6)
    × (paired 2 0 (negsuc 4) ≡ both_cheapest (pos 5) (pos 0) 15)
    -- an upper bound of 0, and no cell at all
    × (paired 0 2 (negsuc 999) ≡ both_cheapest (pos 7) (pos 7) 0)
    × (paired 2 3 (pos 7) ≡ both_cheapest (pos 5) (pos 5) 0)
