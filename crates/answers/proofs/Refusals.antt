-- What the result of a refusal says (Specification 9.4): its number and its place, and that it is no length. Assumes
-- nothing.
use mathlib.Core.Path.{◌≡◌, refl, ap}
use Prim.Native.Nat.{ℕ, zero, suc, ◌≤◌, ◌<◌, ◌^◌}
use native.Mathlib.Omega.{arith}
use lib.IntN.{pos, neg_ℤ}
use Rattle.theory.proofs.Refused.{Reported}
use Rattle.answers.specs.Refusal.{place_factor, refusal_code, refusal_of}

-- THE NUMBER of a refusal that may be reported is below the factor of its place
pub number-low : {last number place : ℕ} → Reported last number place → number < place_factor
number-low r = omega (arith, r.low)

-- so that both can be read from the result, and the result fits
pub refusal-fits : {last number place : ℕ} → Reported last number place → refusal_code number place < 2 ^ 63
refusal-fits r = omega (arith, r.low, r.near)

-- the number below zero of a number that is not 0
below-zero : {X : Type 0} (m k : ℕ) → 1 ≤ m → neg_ℤ (pos m) ≡ pos k → X
below-zero zero k h e = absurd (omega arith)
below-zero (suc m) k h e = let z : ◌≡◌ {A = ℕ} 0 1 = cc in absurd (omega arith)

-- numbers below zero are the same only of the same number
same-below : (m n : ℕ) → neg_ℤ (pos m) ≡ neg_ℤ (pos n) → m ≡ n
same-below zero zero e = refl
same-below zero (suc n) e = let z : ◌≡◌ {A = ℕ} 0 1 = cc in absurd (omega arith)
same-below (suc m) zero e = let z : ◌≡◌ {A = ℕ} 0 1 = cc in absurd (omega arith)
same-below (suc m) (suc n) e = let p : m ≡ n = cc in ap suc p

-- it is no length
pub refusal-negative : {X : Type 0} (number place k : ℕ) → 1 ≤ number → refusal_of number place ≡ pos k → X
unfolding refusal_of
refusal-negative number place k h e = below-zero (refusal_code number place) k (omega arith) e

-- it says the number and the place
pub refusal-says : (number place number' place' : ℕ) → number < place_factor → number' < place_factor
    → refusal_of number place ≡ refusal_of number' place' → (number ≡ number') × (place ≡ place')
unfolding refusal_of
refusal-says number place number' place' h k e =
    let same = same-below (refusal_code number place) (refusal_code number' place') e in
    (omega arith, omega arith)
