-- Specification 3.11: two plan calls whose problems differ in one cost. Assumes nothing.
use Rattle.definitions.specs.Refusals.{Outcome, accepted}
use Rattle.std.specs.declared.result.Result.TheVariants.{Err}
use Rattle.std.specs.Prelude.{◌≡◌, Bool, true, false, List, ℕ, ◌*◌, ◌≤◌, ℤ, pos, nat_abs, ◌+ℤ◌, ◌-ℤ◌, get_or, set}
use Rattle.definitions.specs.declared.Planned.{Planned}
use Rattle.definitions.specs.declared.Planned.TheVariants.{Cheapest, Spent}
use Rattle.definitions.specs.Vector.{padded}
use Rattle.definitions.specs.Lent.{Order}
use Rattle.definitions.specs.Plan.{PlanRoom, Problem, plan_call}
use Rattle.definitions.specs.Demands.{total_cost}

-- the costs with that of one cell, counted from 0, changed by d
unfoldable pub perturbed : (costs : List ℤ) (cell : ℕ) (d : ℤ) → List ℤ
perturbed costs cell d = set costs cell (get_or costs cell (pos 0) +ℤ d)

-- the second problem has the start and the upper bounds of the first, and its costs but for one cell's, which differs
-- by d; its budget may be another
pub record IsPerturbed (problem problem' : Problem) (cell : ℕ) (d : ℤ) : Type 0 where
  pub start : problem'.start ≡ problem.start
  pub upper : problem'.upper ≡ problem.upper
  pub costs : problem'.costs ≡ perturbed problem.costs cell d

-- the answer is Cheapest
unfoldable pub says_cheapest : Outcome Planned → Bool
says_cheapest (accepted (Cheapest steps rows members stored sums)) = true
says_cheapest (accepted (Spent steps bound rows members stored sums)) = false
says_cheapest (Err r) = false

-- the total of a call: the cost, under its own costs, of the plan in its plan area
unfoldable pub call_total : Order → Problem → PlanRoom → ℤ
call_total order problem room = total_cost problem (padded (plan_call order problem room).plan)

-- |d| times the upper bound of the cell
unfoldable pub sensitivity_bound : Problem → (cell : ℕ) (d : ℤ) → ℕ
sensitivity_bound problem cell d = nat_abs d * nat_abs (get_or problem.upper cell (pos 0))

-- TWO CALLS on one order, in any areas, that both answer Cheapest: their totals differ by at most the bound
abbrev pub CostSensitivity : Type 0
CostSensitivity =
    (order : Order) (problem problem' : Problem) (room room' : PlanRoom) (cell : ℕ) (d : ℤ)
    → IsPerturbed problem problem' cell d
    → says_cheapest (plan_call order problem room).answer ≡ true
    → says_cheapest (plan_call order problem' room').answer ≡ true
    → nat_abs (call_total order problem room -ℤ call_total order problem' room') ≤ sensitivity_bound problem cell d
