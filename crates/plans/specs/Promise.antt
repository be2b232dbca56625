-- What the search for the best plan within a budget promises, for every input (Specification 1.1, 3.10, 7.4 and 11).
-- Assumes nothing.
use Rattle.std.specs.declared.result.Result.TheVariants.{Ok}
use Rattle.definitions.specs.Refusals.{Outcome, accepted, refused}
use Rattle.std.specs.Prelude.{◌≡◌, List, ℕ, ◌≤◌, ℤ, pos, length, replicate}
use Rattle.definitions.specs.declared.Planned.{Planned}
use Rattle.definitions.specs.declared.Planned.TheVariants.{Cheapest, Spent}
use Rattle.definitions.specs.Lists.{concat}
use Rattle.definitions.specs.Vector.{padded}
use Rattle.definitions.specs.Lent.{Order, filled, numbers_of}
use Rattle.definitions.specs.Calls.{Listing}
use Rattle.definitions.specs.Plan.{PlanRoom, Problem, plan_call}
use Rattle.definitions.specs.Demands.{Attainable, CheaperPlan, ListKept, NoneCheaper, NoneCheaperBy}
use Rattle.vectors.specs.Areas.{LentMut}

-- the list area holds a whole list, sorted, and the group area the table of the group; the plan area holds a plan
-- within its bounds that differs from the start by a lattice vector
pub record PlanAccepted (order : Order) (problem : Problem) (list : List ℤ) (group : List ℕ) (plan : List ℤ)
    : Type 0 where
  pub found : Listing
  pub kept : ListKept order found
  pub list_holds : list ≡ filled (pos 0) (length list) (numbers_of order.n found.rows)
  pub group_holds : group ≡ filled 0 (length group) (concat found.table)
  pub sized : length plan ≡ order.n
  pub attained : Attainable order problem (padded plan)

-- no plan within the bounds that differs from the start by a lattice vector is cheaper
pub record CheapestReached (order : Order) (problem : Problem) (answer : Outcome Planned) (list : List ℤ)
    (group : List ℕ) (plan : List ℤ) : Type 0 where
  pub accepted : PlanAccepted order problem list group plan
  pub steps : ℕ
  pub few : steps ≤ problem.budget
  pub says : answer
      ≡ Ok (Cheapest steps (length accepted.found.rows) (length accepted.found.table) accepted.found.stored
      accepted.found.sums)
  pub cheapest : NoneCheaper order problem (padded plan)

-- the budget is spent: some such plan is cheaper, and none is cheaper by more than the bound
pub record BudgetSpent (order : Order) (problem : Problem) (answer : Outcome Planned) (list : List ℤ) (group : List ℕ)
    (plan : List ℤ) : Type 0 where
  pub accepted : PlanAccepted order problem list group plan
  pub bound : ℕ
  pub says : answer
      ≡ Ok (Spent problem.budget bound (length accepted.found.rows) (length accepted.found.table)
      accepted.found.stored accepted.found.sums)
  pub left : CheaperPlan order problem (padded plan)
  pub distance : NoneCheaperBy order problem bound (padded plan)

-- demand 1: zeros in every area lent for writing
pub record PlanZero (list : List ℤ) (group : List ℕ) (plan : List ℤ) : Type 0 where
  pub list_holds : list ≡ replicate (length list) (pos 0)
  pub group_holds : group ≡ replicate (length group) 0
  pub plan_holds : plan ≡ replicate (length plan) (pos 0)

-- the answer and the three areas by the definition; and what a reader may conclude from an answer
pub record PlanPromise (order : Order) (problem : Problem) (room : PlanRoom) (answer : Outcome Planned) (list : List ℤ)
    (group : List ℕ) (plan : List ℤ) : Type 0 where
  pub answer_is : answer ≡ (plan_call order problem room).answer
  pub list_holds : list ≡ (plan_call order problem room).list
  pub group_holds : group ≡ (plan_call order problem room).group
  pub plan_holds : plan ≡ (plan_call order problem room).plan
  pub cheapest : (steps rows members stored sums : ℕ) → answer ≡ accepted (Cheapest steps rows members stored sums)
      → CheapestReached order problem answer list group plan
  pub spent : (steps bound rows members stored sums : ℕ)
      → answer ≡ accepted (Spent steps bound rows members stored sums)
      → BudgetSpent order problem answer list group plan
  pub refused : (number place : ℕ) → answer ≡ refused number place → PlanZero list group plan

-- the sizes of the areas that are lent
abbrev pub room_in : (list : LentMut ℤ) (group : LentMut ℕ) (plan : LentMut ℤ) → PlanRoom
room_in list group plan = record {
  list = length list.entry.now;
  group = length group.entry.now;
  plan = length plan.entry.now;
}

-- .. of the order and the problem that are sent, in the areas that are lent
abbrev pub KeepsPlan : Order → Problem → (list : LentMut ℤ) (group : LentMut ℕ) (plan : LentMut ℤ)
    (answer : Outcome Planned) → Type 0
KeepsPlan order problem list group plan answer =
    PlanPromise order problem (room_in list group plan) answer
    list.exit.now group.exit.now plan.exit.now
