-- One signed cell: its parts, what lies below it, equality, and the absolute values of sums and negatives. Assumes
-- nothing.
use Rattle.std.proofs.Common.{◌≡◌, refl, sym, ap, ◌∙◌, arith, true, false, ℕ, ◌+◌, ◌≤◌, ◌<◌, ◌^◌, ℤ, pos, negsuc, nat_abs, neg_ℤ, ◌+ℤ◌, to_z-of_z, w32, w64, SFits}
use mathlib.Core.Bool.{Bool, ◌&&◌, ◌||◌, and-true, and-false, or-true, or-false}
use Prim.Native.Nat.{zero, suc, ◌*◌}
use native.Mathlib.Nat.{mul-zero, zero-mul, mul-suc, add-suc}
use lib.Dec.{leb, leb-zero, leb-suc-zero, leb-suc-suc}
use mir.Val.{to_z, of_z, hbits}
use Rattle.std.specs.Int.Signed.{non_neg, le_z}
use lib.IntN.{◌*ℤ◌}
use lib.Signed.{mag}
use Rattle.std.specs.Ordering.{int_eq}
use Rattle.std.proofs.lemmas.Bool.{false≢true, false_from_ne_true}
use Rattle.std.proofs.lemmas.Bool.Decides.{Decides-int_eq, nat_tests}
use Rattle.std.proofs.lemmas.Int.{ints}
use Rattle.definitions.specs.Vector.{cell_below, equal_cell}
use Rattle.theory.proofs.Cell.{down, up}
use Rattle.vectors.specs.Bounds.{headroom}

-- ---- absurd tests

pub false-true {ℓ} : {X : Type ℓ} → false ≡ true → X
false-true h = absurd (false≢true h)

pub none_below {ℓ} : {X : Type ℓ} {n : ℕ} → n < 0 → X
none_below h = absurd (omega arith)

-- ---- the parts of a cell

pub positive-part : (a : ℤ) → le_z (pos 0) a ≡ true → (up a ≡ nat_abs a) × (down a ≡ 0)
positive-part (pos n) h = (refl, refl)
positive-part (negsuc n) h = false-true h

pub negative-part : (a : ℤ) → le_z (pos 0) a ≡ false → (up a ≡ 0) × (down a ≡ nat_abs a)
negative-part (pos n) h = grind (arith, nat_tests)
negative-part (negsuc n) h = (refl, refl)

-- ---- below

product-negative : (a b : ℕ) → non_neg (neg_ℤ (pos (suc a * suc b))) ≡ false
product-negative a b = rw (mul-suc (suc a) b, add-suc (suc a * b) a)

-- `cell_below` by cases
abbrev cell_below' : ℤ → ℤ → Bool
cell_below' (pos a) (pos b) = leb a b
cell_below' (pos zero) (negsuc b) = true
cell_below' (pos (suc a)) (negsuc b) = false
cell_below' (negsuc a) (pos b) = false
cell_below' (negsuc a) (negsuc b) = leb a b

cell-below-is : (a b : ℤ) → cell_below a b ≡ cell_below' a b
unfolding cell_below
cell-below-is (pos a) (pos b) = refl
cell-below-is (pos zero) (negsuc b) = rw (zero-mul (suc b), leb-zero (suc b))
cell-below-is (pos (suc a)) (negsuc b) = rw (product-negative a b)
cell-below-is (negsuc a) (pos zero) = rw (mul-zero (suc a), leb-suc-zero a)
cell-below-is (negsuc a) (pos (suc b)) = rw (product-negative a b)
cell-below-is (negsuc a) (negsuc b) = rw (leb-suc-suc a b)

-- a lies below b where it lies between zero and b
pub below-between : (a b : ℤ) → (le_z b a && le_z a (pos 0)) || (le_z (pos 0) a && le_z a b) ≡ cell_below a b
below-between (pos zero) (pos b) = rw (leb-zero b, or-true (leb b 0 && true)) (sym (cell-below-is (pos zero) (pos b) ∙ leb-zero b))
below-between (pos (suc a)) (pos b) = rw (leb-suc-zero a, and-false (leb b (suc a)), leb-zero (suc a)) (sym (cell-below-is (pos (suc a)) (pos b)))
below-between (pos zero) (negsuc b) = sym (cell-below-is (pos zero) (negsuc b))
below-between (pos (suc a)) (negsuc b) = rw (leb-suc-zero a, leb-zero (suc a)) (sym (cell-below-is (pos (suc a)) (negsuc b)))
below-between (negsuc a) (pos b) = sym (cell-below-is (negsuc a) (pos b))
below-between (negsuc a) (negsuc b) = rw (and-true (leb a b), or-false (leb a b)) (sym (cell-below-is (negsuc a) (negsuc b)))

-- ---- the same number has the same bits

-- std's test
pub equal-cell : (a b : ℤ) → int_eq a b ≡ equal_cell a b
unfolding equal_cell
equal-cell (pos a) (pos b) = grind (arith, nat_tests)
equal-cell (pos a) (negsuc b) = refl
equal-cell (negsuc a) (pos b) = refl
equal-cell (negsuc a) (negsuc b) = grind (arith, nat_tests)

module _ (a b : ℤ) where
  pub equal-yes : to_z w32 (of_z w32 a) ≡ a → to_z w32 (of_z w32 b) ≡ b → of_z w32 a ≡ of_z w32 b → equal_cell a b ≡ true
  equal-yes ra rb h = let e : a ≡ b = sym ra ∙ ap (to_z w32) h ∙ rb in rw (← equal-cell a b) ((Decides-int_eq a b).1 e)

  pub equal-no : (of_z w32 a ≡ of_z w32 b → ⊥) → equal_cell a b ≡ false
  equal-no h = false_from_ne_true (equal_cell a b) (λ e. h (ap (of_z w32) ((Decides-int_eq a b).0 (equal-cell a b ∙ e))))

-- ---- what the machine reads and makes

-- a signed number is read back from its bits
pub read_back : (z : ℤ) → mag z < 2 ^ hbits w32 → to_z w32 (of_z w32 z) ≡ z
read_back z h = to_z-of_z {w = w32} (record { sfits = h })

pub abs-sum : (a b : ℤ) → nat_abs (a +ℤ b) ≤ nat_abs a + nat_abs b
abs-sum a b = omega (arith, ints)

pub abs_neg : (a : ℤ) → nat_abs (neg_ℤ a) ≡ nat_abs a
abs_neg a = omega (arith, ints)

pub small-fits : (a : ℤ) → nat_abs a ≤ headroom + headroom → SFits w32 a
small-fits (pos a) h = record { sfits = omega arith }
small-fits (negsuc a) h = record { sfits = omega arith }

-- ---- at 64 bits

pub wide_fits : (a : ℤ) → SFits w32 a → SFits w64 a
wide_fits a h = let k = h.sfits in record { sfits = omega arith }

-- what the machine reads of `a as i64`
pub wide_read : (a : ℤ) → SFits w32 a → to_z w64 (of_z w64 (to_z w32 (of_z w32 a))) ≡ a
wide_read a h = rw (to_z-of_z h) (to_z-of_z (wide_fits a h))
