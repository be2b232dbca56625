-- `within` meets its contract: std's `all` is the definition's `every`. Assumes nothing.
use Rattle.std.proofs.Common.{leb, nat_abs, rules, tests, ◌∙◌}
use Rattle.std.proofs.lemmas.Iterator.{YieldsList-from_slice}
use Rattle.std.proofs.lemmas.Iterator.Search.{all_from_yields_List}
use Rattle.definitions.specs.Vector.{within}
use Rattle.vectors.proofs.Searches.{every_is}
use Rattle.vectors.proofs.within.Goals as goal

pub returns : goal.returns
unfolding within
returns c =
    let told = all_from_yields_List (λ a. leb (nat_abs a) c.args.limit) _ _ c.all.result c.all.ensures.ran (YieldsList-from_slice c.args.v cc) (λ x b q k. search (rules, tests)) in
    record { told = told ∙ every_is _ c.args.v }
