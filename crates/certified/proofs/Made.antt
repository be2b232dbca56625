-- The row of the kind of a vector is one of its images (Specification 2.6). Assumes nothing.
use mathlib.Core.List.{List}
use Prim.Native.Nat.{ℕ}
use Rattle.definitions.specs.Vector.{Vector}
use Rattle.definitions.specs.Group.{Exchange}
use Rattle.definitions.specs.Orbit.{representative}
use Rattle.theory.proofs.Equal.{member_is}
use Rattle.theory.proofs.Images.{image-orbit, row-image}
use Rattle.theory.proofs.Symmetric.{Symmetric}
use Rattle.certified.specs.Noting.{RowsMade}

pub rows_made : {n : ℕ} {sent table : List Exchange} {generators : List Vector} → Symmetric n sent table generators → RowsMade table
rows_made {n} {sent} {table} O v l =
    member_is
    (image-orbit n sent O.exchanges O.fits table O.is_table v (representative table v)
    (row-image n sent O.exchanges O.fits table O.is_table v l))
