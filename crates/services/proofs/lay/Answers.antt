-- `lay` meets its contract: the place behind the text says whether it fits. Assumes nothing.
use mathlib.Core.Path.{◌∙◌}
use native.Mathlib.Omega.{arith}
use mir.Syntax.{w64}
use mir.ValLaws.{to_z-of_z}
use Rattle.vectors.proofs.Negatives.{small}
use Rattle.services.proofs.Endings.{ends_as, ends-laid, ends-long}
use Rattle.services.proofs.lay.Goals as goal

pub returns-then-size-end : goal.returns-then-size-end
returns-then-size-end c =
    record {
      ends = ends-long c.write_answer-end.ensures.laid c.if-size-end.true
          (to_z-of_z w64 c.refusal.result (record { sfits = c.refusal.type_inv }) ∙ c.refusal.ensures.refused);
    }

pub returns : goal.returns
returns c =
    record {
      ends = ends_as (small c.write_answer-end.result (omega arith))
          (ends-laid c.write_answer-end.ensures.laid c.if-size-end.false);
    }
