-- What the parts of the search for the best plan find, by the definitions (Specification 3.10). Assumes nothing.
use Rattle.definitions.specs.Refusals.{Outcome}
use Rattle.definitions.specs.Refusals.{no_fault}
use Rattle.std.specs.Prelude.{◌≡◌, true, List, ℕ, ◌*◌, ◌^◌, ◌≤◌, ◌<◌, eqb, ℤ, length, if◌then◌else◌}
use Rattle.definitions.specs.declared.Planned.{Planned}
use Rattle.definitions.specs.declared.Planned.TheVariants.{Cheapest, Spent}
use Rattle.definitions.specs.declared.Terms.{Terms}
use Rattle.definitions.specs.Limits.{group_limit, list_limit}
use Rattle.definitions.specs.Refusals.{accepted}
use Rattle.definitions.specs.Calls.{Listing}
use Rattle.definitions.specs.Plan.{PlanEnd, PlanRoom, Problem, descended_end, feasible, plan_of, problem_fault, reach}
use Rattle.vectors.specs.Areas.{LentMut}
use Rattle.reduction.specs.declared.Extent.{Extent}
use Rattle.reduction.specs.Areas.{Area, Table}
use Rattle.moves.specs.declared.Numbers.{Numbers}
use Rattle.moves.specs.Found.{listing_in}
use Rattle.descents.specs.declared.Descent.{Descent}
use Rattle.plans.specs.Promise.{room_in}

-- the search ended as was due: its answer and its areas
pub record PlanEnds (due : PlanEnd) (answer : Outcome Planned) (list : List ℤ) (group : List ℕ) (plan : List ℤ)
    : Type 0 where
  pub answer_is : answer ≡ due.answer
  pub list_holds : list ≡ due.list
  pub group_holds : group ≡ due.group
  pub plan_holds : plan ≡ due.plan

-- .. in lent areas
abbrev pub PlanEndsIn : (due : PlanRoom → PlanEnd) (list : LentMut ℤ) (group : LentMut ℕ) (plan : LentMut ℤ)
    (answer : Outcome Planned) → Type 0
PlanEndsIn due list group plan answer =
    PlanEnds (due (room_in list group plan)) answer list.exit.now group.exit.now plan.exit.now

-- the first k rows of a list and the table of a group, within the limits
pub record InUse (extent : Extent) (list : List ℤ) (group : List ℕ) : Type 0 where
  pub is_table : Table extent.shape group
  pub area : Area extent.shape.n extent.k list
  pub few : extent.k ≤ list_limit
  pub small : extent.shape.g ≤ group_limit

-- a feasible plan, whose distance bound fits
pub record Measured (terms : Terms) (end : Descent) : Type 0 where
  pub plan : feasible terms.upper end.plan ≡ true
  pub fits : end.gain * reach terms.upper end.plan < 2 ^ 64

-- what is answered where a descent has ended
abbrev pub planned_in : Terms → Numbers → Descent → Outcome Planned
planned_in terms found end =
    if eqb end.gain 0 then accepted (Cheapest end.steps found.rows found.members found.stored found.sums)
    else accepted (Spent end.steps (end.gain * reach terms.upper end.plan)
    found.rows found.members found.stored found.sums)

-- the list that the areas hold
abbrev pub listed_in : (n : ℕ) → Numbers → (list : LentMut ℤ) (group : LentMut ℕ) → Listing
listed_in n found list group = listing_in n found list.entry.now group.entry.now

-- 6, 26, 27 and the descent, with a list and a table in their areas
abbrev pub tested : (n : ℕ) → Numbers → Problem → (list : LentMut ℤ) (group : LentMut ℕ) (room : PlanRoom) → PlanEnd
tested n found problem list group room = plan_of n problem room (accepted (listed_in n found list group))

-- .. the descent alone
abbrev pub descended : (n : ℕ) → Numbers → Problem → (list : LentMut ℤ) (group : LentMut ℕ) (room : PlanRoom) → PlanEnd
descended n found problem list group room = descended_end n problem room (listed_in n found list group) no_fault

-- 6, 26 and 27 are not met
abbrev pub Fitting : (n : ℕ) (start upper costs : List ℤ) (budget : ℕ) (plan : List ℤ) → Type 0
Fitting n start upper costs budget plan =
    let problem : Problem = record { start = start; upper = upper; costs = costs; budget = budget } in
    problem_fault n problem (length plan) ≡ no_fault
