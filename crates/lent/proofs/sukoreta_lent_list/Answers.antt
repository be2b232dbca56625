-- `sukoreta_lent_list` meets its contract: a result below zero, and only that, clears the areas. Assumes nothing.
use mathlib.Core.Path.{refl, sym, ◌∙◌, subst⁻¹}
use lib.IntN.{pos}
use lib.ListN.{length}
use mir.Syntax.{w64}
use mir.ValLaws.{to_z-of_z}
use Rattle.definitions.specs.Lent.{order_of}
use Rattle.lent.specs.Ends.{Small}
use Rattle.lent.proofs.Reporting.{reports-result}
use Rattle.lent.proofs.Calls.{list-cleared, list-kept, list-sized, list-small, zeroed}
use Rattle.lent.proofs.sukoreta_lent_list.Goals as goal

pub report-result-requires : goal.report-result-requires
report-result-requires c =
    let a = c.args in record {
      small = subst⁻¹ Small c.list-answer.ensures.kept.answers
          (list-small (order_of a.n a.generators.now a.exchanges.now a.images.now) (length a.list.now) (length a.group.now));
    }

pub returns-then-result-lt0 : goal.returns-then-result-lt0
returns-then-result-lt0 c =
    let a = c.args in
    let l = c.list-answer in
    let x = c.clear in
    let y = c.clear-then-result-lt0 in
    let P =
    list-sized (sym (x.auto.area ∙ l.auto.list)) (sym (y.auto.area ∙ l.auto.group)) l.ensures.kept in
    let k = c.report-result in
    let R = reports-result (sym k.auto.area) (to_z-of_z w64 k.result (record { sfits = k.type_inv })) k.ensures.reported in record {
      kept = list-cleared (order_of a.n a.generators.now a.exchanges.now a.images.now) x.new.area y.new.area k.new.area P R
          c.if-result-lt0.true
          (zeroed (pos 0) x.ensures.cleared x.auto.area) (zeroed 0 y.ensures.cleared y.auto.area);
    }

pub returns : goal.returns
returns c =
    let a = c.args in
    let l = c.list-answer in
    let P = list-sized (sym l.auto.list) (sym l.auto.group) l.ensures.kept in
    let k = c.report-result in
    let R = reports-result (sym k.auto.area) (to_z-of_z w64 k.result (record { sfits = k.type_inv })) k.ensures.reported in record { kept = list-kept (order_of a.n a.generators.now a.exchanges.now a.images.now) l.new.list l.new.group k.new.area P R c.if-result-lt0.false refl refl }
