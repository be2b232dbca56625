-- `give` meets its contract: all numbers, or none. Assumes nothing.
use mathlib.Core.Path.{ap, ◌∙◌}
use native.Mathlib.Omega.{arith}
use lib.ListN.{length, get_or}
use lib.Seq.{take-length}
use mir.Syntax.{w64}
use mir.ValLaws.{to_z-of_z}
use Rattle.definitions.specs.Lent.{filled}
use Rattle.vectors.proofs.Negatives.{small}
use Rattle.lent.proofs.Reporting.{gives_all, gives_none}
use Rattle.lent.proofs.give.Goals as goal

pub returns-then-area-k : goal.returns-then-area-k
returns-then-area-k c =
    let a = c.args in record {
      given = gives_none a.numbers.now (length a.area.now) (omega arith)
          (to_z-of_z w64 c.refusal.result (record { sfits = c.refusal.type_inv }) ∙ c.refusal.ensures.refused)
          c.lay_counts.ensures.laid;
    }

pub returns : goal.returns
returns c =
    let numbers = c.args.numbers.now in
    let size = length c.args.area.now in record {
      given = gives_all numbers size (omega arith) (small (get_or numbers 0 0) c.requires.small)
          (c.lay_counts-2.ensures.laid ∙ ap (filled 0 size) (take-length numbers));
    }
