-- `respond` meets its contract: a refusal, or a text. Assumes nothing.
use Rattle.definitions.specs.Refusals.{Outcome}
use mathlib.Core.Path.{sym, ap, subst}
use native.Mathlib.Omega.{arith}
use lib.ListN.{length}
use mir.Syntax.{w64}
use mir.ValLaws.{to_z-of_z}
use Rattle.definitions.specs.declared.Answer.{Answer}
use Rattle.answers.specs.Answers.{rows_text}
use Rattle.promises.specs.Services.{end_by}
use Rattle.services.specs.Answered.{Small}
use Rattle.services.proofs.Endings.{ends_as, ends_same, ends-text}
use Rattle.services.proofs.respond.Goals as goal
use Rattle.services.proofs.respond.Goals.{Start}

pub refuse-requires : goal.refuse-requires
refuse-requires c = let s = subst Small c.in-Err.is c.requires.small in record { fits = omega (arith, s.0, s.1) }

pub returns-in-Err : goal.returns-in-Err
unfolding end_by
returns-in-Err c =
    record {
      ends = ends_same
          (ap (λ (a : Outcome Answer). end_by (length c.args.area.now) a (rows_text c.args.answer c.args.width c.args.numbers.now)) (sym c.in-Err.is))
          (ends_as (to_z-of_z w64 c.refuse.result (record { sfits = c.refuse.type_inv })) c.refuse.ensures.ends);
    }

pub returns : goal.returns
returns c =
    record {
      ends = ends_same (ends-text (length c.args.area.now) c.args.answer (rows_text c.args.answer c.args.width c.args.numbers.now) c.in_default.not-Err)
          (ends_as (to_z-of_z w64 c.lay.result (record { sfits = c.lay.type_inv })) c.lay.ensures.ends);
    }
