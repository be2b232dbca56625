-- `within_support` meets its contract: its fold keeps whether all cells so far have passed. Assumes nothing.
use Rattle.std.proofs.Common.{rules, tests, ◌∙◌, not, ◌&&◌, arith}
use Rattle.std.proofs.lemmas.Iterator.{YieldsList-from_slice, YieldsList-from_zip}
use Rattle.std.proofs.lemmas.Iterator.Consumers.{fold_from_yields_List}
use Rattle.vectors.specs.Support.{cell_outside}
use Rattle.vectors.proofs.Support.{every-within, kept-all}
use Rattle.vectors.proofs.within_support.Goals as goal

pub returns : goal.returns
returns c =
    let told = fold_from_yields_List _ (λ lies p. lies && not (cell_outside p.0 p.1)) _ _ c.fold.ensures.ran
    (YieldsList-from_zip (YieldsList-from_slice c.args.u cc) (YieldsList-from_slice c.args.v cc)) (λ lies x b q k. search (rules, tests)) in
    record { told = told ∙ kept-all every-within c.args.u c.args.v (omega arith) _ }
