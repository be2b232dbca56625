-- `key` meets its contract. The invariant: the sum is the key of the cells from `i` on. Assumes nothing.
use mathlib.Core.Path.{◌≡◌}
use lib.ListN.{drop}
use Rattle.vectors.specs.Keys.{key}
use Rattle.vectors.proofs.key.Given as goal

abbrev pub invariant-loop-i : goal.invariant-loop-i
invariant-loop-i l = l.sum ≡ key (drop l.i l.v)
