-- `equals_row` meets its contract. Assumes nothing.
use Rattle.std.proofs.Common.{rules, tests, arith, ◌∙◌}
use Rattle.std.proofs.lemmas.Iterator.{YieldsList-from_slice, YieldsList-from_zip}
use Rattle.std.proofs.lemmas.Iterator.Search.{all_from_yields_List}
use Rattle.std.specs.Ordering.{int_eq}
use Rattle.certificates.proofs.Sums.{equal-zip}
use Rattle.certificates.proofs.equals_row.Goals as goal

pub returns : goal.returns
returns c = record {
  told =
      all_from_yields_List (λ p. int_eq p.0 p.1) c.all.new.self _ _ c.all.ensures.ran
      (YieldsList-from_zip (YieldsList-from_slice c.args.sum cc) (YieldsList-from_slice c.args.row cc)) (λ x b q k. search (rules, tests))
      ∙ equal-zip c.args.sum c.args.row (omega arith);
}
