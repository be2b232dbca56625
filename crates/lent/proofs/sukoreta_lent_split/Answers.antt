-- `sukoreta_lent_split` meets its contract: a result below zero, and only that, clears the areas. Assumes nothing.
use mathlib.Core.Path.{refl, sym, ◌∙◌, subst⁻¹}
use lib.IntN.{pos}
use lib.ListN.{length}
use mir.Syntax.{w64}
use mir.ValLaws.{to_z-of_z}
use Rattle.definitions.specs.Lent.{order_of}
use Rattle.lent.specs.Ends.{Small}
use Rattle.lent.proofs.Reporting.{reports-result}
use Rattle.lent.proofs.Calls.{split-cleared, split-kept, split-sized, split-small, zeroed}
use borrow.Author.Rules.{rules}
use Rattle.lent.proofs.sukoreta_lent_split.Goals as goal

pub report-result-requires : goal.report-result-requires
report-result-requires c =
    let a = c.args in record {
      small = subst⁻¹ Small c.split-answer.ensures.kept.answers
          (split-small (order_of a.n a.generators.now a.exchanges.now a.images.now) a.vector.now (length a.list.now) (length a.group.now)
          (length a.pieces.now) (search rules));
    }

pub returns-then-result-lt0 : goal.returns-then-result-lt0
returns-then-result-lt0 c =
    let a = c.args in
    let l = c.split-answer in
    let x = c.clear in
    let y = c.clear-then-result-lt0 in
    let z = c.clear-then-result-lt0-2 in
    let P =
    split-sized (sym (x.auto.area ∙ l.auto.basis)) (sym (y.auto.area ∙ l.auto.group))
    (sym (z.auto.area ∙ l.auto.pieces)) l.ensures.kept in
    let k = c.report-result in
    let R = reports-result (sym k.auto.area) (to_z-of_z w64 k.result (record { sfits = k.type_inv })) k.ensures.reported in record {
      kept = split-cleared (order_of a.n a.generators.now a.exchanges.now a.images.now) a.vector.now x.new.area y.new.area z.new.area k.new.area P R
          c.if-result-lt0.true
          (zeroed (pos 0) x.ensures.cleared x.auto.area) (zeroed 0 y.ensures.cleared y.auto.area)
          (zeroed (pos 0) z.ensures.cleared z.auto.area);
    }

pub returns : goal.returns
returns c =
    let a = c.args in
    let l = c.split-answer in
    let P =
    split-sized (sym l.auto.basis) (sym l.auto.group) (sym l.auto.pieces)
    l.ensures.kept in
    let k = c.report-result in
    let R = reports-result (sym k.auto.area) (to_z-of_z w64 k.result (record { sfits = k.type_inv })) k.ensures.reported in record {
      kept = split-kept (order_of a.n a.generators.now a.exchanges.now a.images.now) a.vector.now l.new.basis l.new.group
          l.new.pieces k.new.area
          P R c.if-result-lt0.false refl refl refl;
    }
