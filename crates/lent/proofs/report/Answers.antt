-- `report` meets its contract: the counts of each answer. Assumes nothing.
use Rattle.std.proofs.Common.{rules, ◌≡◌, refl, ◌∙◌}
use mir.Syntax.{w64}
use mir.ValLaws.{to_z-of_z}
use Rattle.definitions.specs.declared.Answer.TheVariants.{Moves, Split, Passed}
use Rattle.definitions.specs.Refusals.{accepted}
use Rattle.lent.proofs.Reporting.{reports-as, reports-given, reports-refused, reports-result}
use Rattle.lent.proofs.report.Goals as goal

pub returns-in-Ok-Moves : goal.returns-in-Ok-Moves
returns-in-Ok-Moves c =
    let k = c.give in
    let a = c.in-Ok-Moves in
    let is : c.args.answer ≡ accepted (Moves a.rows a.members a.stored a.sums) = search rules in record {
      reported = reports-as is
          (reports-result refl (to_z-of_z w64 k.result (record { sfits = k.type_inv })) (reports-given _ refl k.ensures.given));
    }

pub returns-in-Ok-Split : goal.returns-in-Ok-Split
returns-in-Ok-Split c =
    let k = c.give-in-Ok-Split in
    let a = c.in-Ok-Split in
    let is : c.args.answer ≡ accepted (Split a.pieces a.rows a.members a.stored a.sums) = search rules in record {
      reported = reports-as is
          (reports-result refl (to_z-of_z w64 k.result (record { sfits = k.type_inv })) (reports-given _ refl k.ensures.given));
    }

pub returns-in-Ok-Passed : goal.returns-in-Ok-Passed
returns-in-Ok-Passed c =
    let k = c.give-in-Ok-Passed in
    let a = c.in-Ok-Passed in
    let is : c.args.answer ≡ accepted (Passed a.rows a.sums) = search rules in record {
      reported = reports-as is
          (reports-result refl (to_z-of_z w64 k.result (record { sfits = k.type_inv })) (reports-given _ refl k.ensures.given));
    }

pub returns-in-Err : goal.returns-in-Err
returns-in-Err c =
    let k = c.refusal in record {
      reported = reports-as c.in-Err.is
          (reports-refused (to_z-of_z w64 k.result (record { sfits = k.type_inv }) ∙ k.ensures.refused)
          c.lay_counts.ensures.laid);
    }
