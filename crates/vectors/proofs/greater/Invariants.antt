-- `greater` meets its contract. The invariant: the answer for the cells left is the answer. Assumes nothing.
use Rattle.std.proofs.Common.{◌≡◌, drop}
use Rattle.definitions.specs.Vector.{greater}
use Rattle.vectors.proofs.greater.Given as goal

abbrev pub invariant-loop-i : goal.invariant-loop-i
invariant-loop-i l = greater (drop l.i l.u) (drop l.i l.v) ≡ greater l.u l.v
