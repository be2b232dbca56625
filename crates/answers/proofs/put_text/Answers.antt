-- `put_text` meets its contract: the text is copied where there is room, and else the area is cleared. Assumes nothing.
use mathlib.Core.Path.{sym, ◌∙◌}
use native.Mathlib.Omega.{arith}
use lib.ListN.{length}
use Rattle.theory.proofs.Areas.{filled-nothing}
use Rattle.answers.proofs.Pages.{written-yes, written-no, behind-yes, behind-no}
use Rattle.answers.proofs.put_text.Goals as goal

pub returns-then-room-m : goal.returns-then-room-m
returns-then-room-m c =
    let a = c.args in
    let n = length a.area.now in
    record {
      wrote = record {
        page =
            c.clear.ensures.cleared
            ∙ filled-nothing 0 n
            ∙ sym (written-no a.area.now a.at a.text.now (omega arith));
        place = sym (behind-no n a.at a.text.now (omega arith));
      };
    }

pub returns : goal.returns
returns c =
    let a = c.args in
    let n = length a.area.now in
    record {
      wrote = record {
        page = c.copy_at.ensures.copied ∙ sym (written-yes a.area.now a.at a.text.now (omega arith));
        place = sym (behind-yes n a.at a.text.now (omega arith));
      };
    }
