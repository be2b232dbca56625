-- `put_rows` meets its contract. The invariant: the first i rows are written. Assumes nothing.
use mathlib.Core.Path.{◌≡◌}
use Prim.Native.Nat.{◌*◌}
use Rattle.definitions.specs.Lent.{chunks}
use Rattle.answers.specs.Answers.{lines_text}
use Rattle.answers.specs.Page.{Wrote}
use Rattle.answers.proofs.put_rows.Given as goal

abbrev pub invariant-loop-i : goal.invariant-loop-i
invariant-loop-i l =
    (l.from ≡ l.i * l.width) × Wrote l.initial.area l.area l.at l.end (lines_text (chunks l.width l.i l.numbers))
