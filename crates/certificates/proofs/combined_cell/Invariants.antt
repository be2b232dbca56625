-- `combined_cell` meets its contract. The invariant: the sum and the cell of the combination of what is left are the
-- cell, and a sum of q products is small. Assumes nothing.
use mathlib.Core.Path.{◌≡◌}
use Prim.Native.Nat.{◌*◌, ◌≤◌}
use lib.IntN.{nat_abs, ◌+ℤ◌}
use lib.ListN.{drop}
use Rattle.definitions.specs.Lent.{vectors_of}
use Rattle.certificates.proofs.Sums.{combined_at, term_limit}
use Rattle.certificates.proofs.combined_cell.Given as goal

abbrev pub invariant-loop-q : goal.invariant-loop-q
invariant-loop-q l =
    let vs = vectors_of l.n l.generators in
    (nat_abs l.sum ≤ l.q * term_limit) × (l.sum +ℤ combined_at (drop l.q l.coefficients) (drop l.q vs) l.j ≡ combined_at l.coefficients vs l.j)
