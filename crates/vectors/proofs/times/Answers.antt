-- `times` meets its contract: its fold is `times_up_to` from the weight. Assumes nothing.
use Rattle.std.proofs.Common.{◌∙◌, rules, tests}
use Rattle.std.proofs.lemmas.Iterator.{YieldsList-from_slice, YieldsList-from_zip}
use Rattle.std.proofs.lemmas.Iterator.Consumers.{fold_from_yields_List}
use Rattle.definitions.specs.Split.{cell_times, times}
use Rattle.vectors.proofs.Kit.{times-fold}
use Rattle.vectors.proofs.times.Goals as goal

pub returns : goal.returns
unfolding times
returns c =
    let told = fold_from_yields_List _ (λ bound p. cell_times bound p.0 p.1) _ _ c.fold.ensures.ran
    (YieldsList-from_zip (YieldsList-from_slice c.args.u cc) (YieldsList-from_slice c.args.v cc)) (λ bound x b q k. search (rules, tests)) in
    record { counted = told ∙ times-fold _ c.args.u c.args.v ∙ rw c.weight.ensures.counted }
