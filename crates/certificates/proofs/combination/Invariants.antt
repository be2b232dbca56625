-- `combination` meets its contract. The invariant: the cells up to `j` are those of the combination, and the others
-- zero. Assumes nothing.
use mathlib.Core.Path.{◌≡◌}
use lib.ListN.{take}
use Rattle.definitions.specs.Vector.{padded}
use Rattle.definitions.specs.Lattice.{combination}
use Rattle.definitions.specs.Lent.{vectors_of}
use Rattle.certificates.proofs.combination.Given as goal

abbrev pub invariant-loop-j : goal.invariant-loop-j
invariant-loop-j l = l.sum ≡ padded (take l.j (combination l.coefficients (vectors_of l.n l.generators)))
