-- The entries of a contingency table and the numbers of a record, as code tests them. Assumes nothing.
use mathlib.Core.Path.{◌≡◌, refl}
use mathlib.Core.Bool.{true}
use Prim.Native.Nat.{ℕ, ◌≤◌, ◌<◌}
use borrow.Author.Tests.{leb-true, ltb-true}
use lib.Dec.{leb, ltb, leb-zero}
use lib.IntN.{ℤ, pos, negsuc, nat_abs}
use lib.Signed.{le_z, non_neg}
use Rattle.definitions.specs.Limits.{contingency_limit}
use Rattle.definitions.specs.Window.{is_entry, is_index}
use Rattle.theory.proofs.Tests.{and-true-right}

-- not below zero
pub sign-is : (x : ℤ) → le_z (pos 0) x ≡ non_neg x
sign-is (pos a) = leb-zero a
sign-is (negsuc a) = refl

-- the absolute value of an entry
pub entry-bound : (x : ℤ) → is_entry x ≡ true → nat_abs x ≤ contingency_limit
unfolding is_entry
entry-bound x e = leb-true (nat_abs x) contingency_limit (and-true-right (non_neg x) (leb (nat_abs x) contingency_limit) e)

-- a number that counts one of `count`
pub index_below : (count : ℕ) (x : ℤ) → is_index count x ≡ true → nat_abs x < count
unfolding is_index
index_below count x e = ltb-true (nat_abs x) count (and-true-right (non_neg x) (ltb (nat_abs x) count) e)
