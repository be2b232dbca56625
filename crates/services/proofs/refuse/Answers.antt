-- `refuse` meets its contract. Assumes nothing.
use mathlib.Core.Path.{◌∙◌}
use lib.ListN.{length}
use mir.Syntax.{w64}
use mir.ValLaws.{to_z-of_z}
use Rattle.theory.proofs.Areas.{filled-nothing}
use Rattle.services.proofs.Endings.{ends-refused}
use Rattle.services.proofs.refuse.Goals as goal

pub returns : goal.returns
returns c =
    let a = c.args in record {
      ends = ends-refused (length a.area.now) a.number a.place
          (to_z-of_z w64 c.refusal.result (record { sfits = c.refusal.type_inv }) ∙ c.refusal.ensures.refused)
          (c.clear.ensures.cleared ∙ filled-nothing 0 _);
    }
