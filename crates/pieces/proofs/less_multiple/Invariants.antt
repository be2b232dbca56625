-- `less_multiple` meets its contract. The invariant: the cells up to `i` are those of the answer. Assumes nothing.
use mathlib.Core.Path.{◌≡◌}
use lib.IntN.{pos}
use lib.Seq.{paste}
use Rattle.definitions.specs.Vector.{minus, scale}
use Rattle.pieces.proofs.less_multiple.Given as goal

abbrev pub invariant-loop-i : goal.invariant-loop-i
invariant-loop-i l = l.w ≡ paste l.initial.w 0 (minus l.v (scale (pos l.count) l.u)) l.i
