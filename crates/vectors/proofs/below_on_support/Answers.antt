-- `below_on_support` meets its contract: its fold keeps whether all cells so far have passed. Assumes nothing.
use Rattle.std.proofs.Common.{rules, tests, ◌∙◌, ◌&&◌, arith}
use Rattle.std.proofs.lemmas.Iterator.{YieldsList-from_slice, YieldsList-from_zip}
use Rattle.std.proofs.lemmas.Iterator.Consumers.{fold_from_yields_List}
use Rattle.vectors.specs.Support.{cell_on_support}
use Rattle.vectors.proofs.Support.{every-on-support, kept-all}
use Rattle.vectors.proofs.below_on_support.Goals as goal

pub returns : goal.returns
returns c =
    let told = fold_from_yields_List _ (λ lies p. lies && cell_on_support p.0 p.1) _ _ c.fold.ensures.ran
    (YieldsList-from_zip (YieldsList-from_slice c.args.u cc) (YieldsList-from_slice c.args.v cc)) (λ lies x b q k. search (rules, tests)) in
    record { told = told ∙ kept-all every-on-support c.args.u c.args.v (omega arith) _ }
