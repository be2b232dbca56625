-- Areas that are lent in part. Assumes nothing.
use mathlib.Core.Path.{◌≡◌, sym}
use Prim.Native.Nat.{ℕ, ◌*◌, ◌≤◌}
use native.Mathlib.Nat.{mul-le-mul_left}
use native.Mathlib.Omega.{arith}
use lib.ListN.{length, take, replicate, length-replicate}
use lib.Seq.{length-take-le}

-- of an area for `most` cells, the part for n
pub part-long : {A : Type 0} (rows most n : ℕ) (a : A) → n ≤ most
    → rows * n ≡ length (take (rows * n) (replicate (rows * most) a))
part-long rows most n a h =
    sym
    (length-take-le (rows * n) (replicate (rows * most) a) (omega (arith, mul-le-mul_left rows h, length-replicate (rows * most) a)))
