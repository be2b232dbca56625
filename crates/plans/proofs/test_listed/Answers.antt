-- `test_listed` meets its contract: 6, 26 and 27, and then the descent. Assumes nothing.
use mathlib.Core.Path.{sym, ◌∙◌}
use lib.ListN.{length}
use Rattle.definitions.specs.Calls.{Listing}
use Rattle.definitions.specs.Plan.{PlanRoom, Problem}
use Rattle.theory.proofs.Faults.{unmet}
use Rattle.moves.specs.Found.{listing_in}
use Rattle.plans.proofs.Endings.{ends_same, tests-met, tests-unmet}
use Rattle.plans.proofs.test_listed.Goals as goal
use Rattle.plans.proofs.test_listed.Goals.{Start}

module _ (s : Start) where
  abbrev problem : Problem
  problem = record { start = s.args.start.now; upper = s.args.upper.now; costs = s.args.costs.now; budget = s.args.budget }

  abbrev areas : PlanRoom
  areas = record { list = length s.args.list.now; group = length s.args.group.now; plan = length s.args.plan.now }

  abbrev found : Listing
  found = listing_in s.args.n s.args.found s.args.list.now s.args.group.now

pub descend_listed-requires : goal.descend_listed-requires
descend_listed-requires c = record { held = c.requires.held; room = c.requires.room; fitting = sym c.problem_fault.ensures.found ∙ unmet c.in_default.not-Err }

pub returns-in-Err : goal.returns-in-Err
returns-in-Err c =
    let s = (goal.at.returns-in-Err c).Start in
    let e = sym c.problem_fault.ensures.found ∙ c.in-Err.is in
    record { ended = ends_same (tests-met c.args.n (problem s) (areas s) (found s) e) c.refuse.ensures.refused }

pub returns : goal.returns
returns c =
    let s = (goal.at.returns c).Start in
    let e = sym c.problem_fault.ensures.found ∙ unmet c.in_default.not-Err in
    record { ended = ends_same (tests-unmet c.args.n (problem s) (areas s) (found s) e) c.descend_listed.ensures.ended }
