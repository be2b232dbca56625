-- The rows of a group area in use, and what an admission found. Assumes nothing.
use mathlib.Core.Path.{◌≡◌, refl, sym, ap, ap₂}
use Rattle.std.specs.declared.result.Result.TheVariants.{Err}
use Rattle.definitions.specs.Refusals.{Outcome, accepted, refused, Fault, no_fault, fault_at, unless_fault}
use Rattle.theory.proofs.Faults.{accepted-refused, number_of, place_of}
use Prim.Native.Nat.{ℕ, ◌*◌, ◌/◌, ◌≤◌, min}
use native.Mathlib.Nat.{mul-le-mul_right, div-mul-le_self}
use native.Mathlib.Omega.{arith}

-- the rows of an area in use are within it
pub rows_inside : (limit n size : ℕ) → min limit (size / n) * n ≤ size
rows_inside limit n size =
    let h : min limit (size / n) ≤ size / n = omega arith in
    omega (arith, mul-le-mul_right {m = min limit (size / n)} {n = size / n} n h, div-mul-le_self size n)

-- ---- what an admission found

pub admission-refused : {number place : ℕ} (g : ℕ) (fault : Fault)
    → ◌≡◌ {A = Outcome ℕ} (refused number place) (unless_fault fault (accepted g)) → fault ≡ fault_at number place
unfolding unless_fault
admission-refused g no_fault e = accepted-refused e
admission-refused g (Err r) e = ap₂ fault_at (sym (ap number_of e)) (sym (ap place_of e))

pub admission-members : {m : ℕ} (g : ℕ) (fault : Fault)
    → ◌≡◌ {A = Outcome ℕ} (accepted m) (unless_fault fault (accepted g)) → (fault ≡ no_fault) × (m ≡ g)
unfolding unless_fault
admission-members g no_fault e = (refl, cc)
admission-members g (Err r) e = accepted-refused (sym e)
