-- `sukoreta_lent_check` meets its contract: a result below zero, and only that, clears the areas. Assumes nothing.
use mathlib.Core.Path.{refl, sym, ◌∙◌, subst⁻¹}
use lib.ListN.{length}
use mir.Syntax.{w64}
use mir.ValLaws.{to_z-of_z}
use Rattle.definitions.specs.Lent.{order_of}
use Rattle.lent.specs.Ends.{Small}
use Rattle.lent.proofs.Reporting.{reports-result}
use Rattle.lent.proofs.Calls.{check-cleared, check-kept, check-sized, check-small, zeroed}
use Rattle.lent.proofs.sukoreta_lent_check.Goals as goal

pub report-result-requires : goal.report-result-requires
report-result-requires c =
    let a = c.args in record {
      small = subst⁻¹ Small c.check-answer.ensures.kept.answers
          (check-small (order_of a.n a.generators.now a.exchanges.now a.images.now) a.rows.now a.coefficients.now (length a.group.now));
    }

pub returns-then-result-lt0 : goal.returns-then-result-lt0
returns-then-result-lt0 c =
    let a = c.args in
    let l = c.check-answer in
    let y = c.clear in
    let P = check-sized (sym (y.auto.area ∙ l.auto.group)) l.ensures.kept in
    let k = c.report-result in
    let R = reports-result (sym k.auto.area) (to_z-of_z w64 k.result (record { sfits = k.type_inv })) k.ensures.reported in record {
      kept = check-cleared (order_of a.n a.generators.now a.exchanges.now a.images.now) a.rows.now a.coefficients.now y.new.area k.new.area P R
          c.if-result-lt0.true (zeroed 0 y.ensures.cleared y.auto.area);
    }

pub returns : goal.returns
returns c =
    let a = c.args in
    let l = c.check-answer in
    let P = check-sized (sym l.auto.group) l.ensures.kept in
    let k = c.report-result in
    let R = reports-result (sym k.auto.area) (to_z-of_z w64 k.result (record { sfits = k.type_inv })) k.ensures.reported in record {
      kept = check-kept (order_of a.n a.generators.now a.exchanges.now a.images.now) a.rows.now a.coefficients.now l.new.group k.new.area
          P R c.if-result-lt0.false refl;
    }
