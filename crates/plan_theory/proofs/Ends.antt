-- HOW A PLAN CALL ENDS (Specification 3.10): by a refusal, or where the descent by the images of its list ends.
-- Assumes nothing.
use Rattle.std.specs.declared.result.Result.TheVariants.{Err}
use Rattle.definitions.specs.Refusals.{Fault, no_fault}
use mathlib.Core.Path.{◌≡◌, refl}
use Prim.Native.Nat.{ℕ}
use Rattle.definitions.specs.Vector.{padded}
use Rattle.definitions.specs.Orbit.{orbits}
use Rattle.definitions.specs.Lent.{Order}
use Rattle.definitions.specs.Refusals.{Outcome, accepted}
use Rattle.definitions.specs.Calls.{Listing, listing}
use Rattle.definitions.specs.Plan.{PlanEnd, PlanRoom, Problem, Stage, descended_end, descent, plan_call, plan_of}
use Rattle.definitions.specs.Plan.{plan_reached, plan_refused, problem_fault, terms_of}
use Rattle.plan_theory.proofs.Problems.{Sound, problem-sound}

-- where the descent by the images of a list ends
abbrev pub last_stage : Problem → Listing → Stage
last_stage problem found =
    descent (terms_of problem) (orbits found.table found.rows) problem.budget (padded problem.start)

module _ (order : Order) (problem : Problem) (room : PlanRoom) (P : PlanEnd → Type 0)
    (at-refusal : (number place : ℕ) → P (plan_refused room number place))
    (at-descent : (found : Listing) → listing order room.list room.group ≡ accepted found
    → Sound order.n problem room.plan
    → P (plan_reached order.n room (terms_of problem) found (last_stage problem found))) where
  tested-ends : (found : Listing) → listing order room.list room.group ≡ accepted found
      → (fault : Fault) → problem_fault order.n problem room.plan ≡ fault
      → P (descended_end order.n problem room found fault)
  unfolding descended_end
  tested-ends found e no_fault f = at-descent found e (problem-sound order.n problem room.plan f)
  tested-ends found e (Err r) f = at-refusal r.number r.place

  listed-ends : (o : Outcome Listing) → listing order room.list room.group ≡ o
      → P (plan_of order.n problem room o)
  unfolding plan_of
  listed-ends (Err r) e = at-refusal r.number r.place
  listed-ends (accepted found) e = tested-ends found e (problem_fault order.n problem room.plan) refl

  -- WHAT HOLDS OF BOTH ENDS holds of the call
  pub call_ends : P (plan_call order problem room)
  unfolding plan_call
  call_ends = listed-ends (listing order room.list room.group) refl
