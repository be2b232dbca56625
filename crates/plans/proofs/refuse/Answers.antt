-- `refuse` meets its contract. Assumes nothing.
use mathlib.Core.Path.{refl}
use Rattle.definitions.specs.Plan.{plan_refused}
use Rattle.plans.proofs.refuse.Goals as goal

-- src/lib.rt:37:1
pub returns : goal.returns
unfolding plan_refused
returns c = record { refused = record { answer_is = refl; list_holds = c.clear.ensures.cleared; group_holds = c.clear-2.ensures.cleared; plan_holds = c.clear-3.ensures.cleared } }
