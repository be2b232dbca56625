-- The negative of a number, as the code makes it at 64 bits. Assumes nothing.
use mathlib.Core.Path.{◌≡◌, ◌∙◌, ap, subst⁻¹}
use Prim.Native.Nat.{ℕ, zero, suc, ◌<◌, ◌^◌}
use native.Mathlib.Omega.{arith}
use lib.Dec.{lit<}
use lib.IntN.{ℤ, pos, neg_ℤ, ◌-ℤ◌, +ℤ_idl}
use mir.Syntax.{w64}
use mir.Val.{SFits, to_z}
use mir.ValLaws.{to_z-of_z}

-- a number that 64 bits hold
pub small : (n : ℕ) → n < 2 ^ 63 → to_z w64 n ≡ pos n
small n h = to_z-of_z w64 (pos n) (record { sfits = h })

-- its negative fits
pub negative_fits : (n : ℕ) → n < 2 ^ 63 → SFits w64 (neg_ℤ (pos n))
negative_fits zero h = record { sfits = lit< tt }
negative_fits (suc n) h = record { sfits = omega arith }

module _ (n : ℕ) (h : n < 2 ^ 63) where
  -- and is what the code makes
  pub negated : pos 0 -ℤ to_z w64 n ≡ neg_ℤ (pos n)
  negated = ap (λ (z : ℤ). pos 0 -ℤ z) (small n h) ∙ +ℤ_idl (neg_ℤ (pos n))

  pub negated_fits : SFits w64 (pos 0 -ℤ to_z w64 n)
  negated_fits = subst⁻¹ (SFits w64) negated (negative_fits n h)
