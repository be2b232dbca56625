-- `times u v` is the greatest number for which that multiple of u lies below v, for u not zero. Assumes nothing.
use mathlib.Core.Path.{◌≡◌, refl, sym, ◌∙◌, ap, subst}
use mathlib.Core.Logic.{◌↔◌}
use mathlib.Core.Bool.{true, false}
use mathlib.Core.List.{[], ◌∷◌}
use Prim.Native.Nat.{ℕ, zero, suc, ◌*◌, ◌≤◌, ◌<◌}
use native.Mathlib.Nat.{mul-zero, mul-suc, zero-mul, suc-mul, mul-add, le-div_iff_mul-le}
use native.Mathlib.Omega.{arith}
use borrow.Author.Tests.{eqb-true, eqb-false}
use lib.Dec.{T, eqb}
use lib.IntN.{ℤ, pos, negsuc, nat_abs, ◌*ℤ◌}
use lib.Signed.{non_neg}
use lib.ListN.{length}
use Rattle.definitions.specs.Vector.{Vector, below, cell_below, scale, weight}
use Rattle.definitions.specs.Split.{cell_times, times, times_up_to}
use Rattle.theory.proofs.Cell.{and_left, and_right, both, cell-complete, cell-sound, down, down-neg, non_neg-neg, size, up, up_neg}
use Rattle.theory.proofs.Counting.{if-cases}

-- ---- one cell

-- that multiple of x lies below y
record Fits (c : ℕ) (x y : ℤ) : Type 0 where
  rise : c * up x ≤ up y
  fall : c * down x ≤ down y

pub up-times : (c : ℕ) (x : ℤ) → up (pos c *ℤ x) ≡ c * up x
up-times c (pos a) = refl
up-times c (negsuc a) = up_neg (pos (c * suc a)) ∙ sym (mul-zero c)

pub down-times : (c : ℕ) (x : ℤ) → down (pos c *ℤ x) ≡ c * down x
down-times c (pos a) = sym (mul-zero c)
down-times c (negsuc a) = down-neg (pos (c * suc a))

-- the absolute value of a multiple
pub abs-times : (c : ℕ) (x : ℤ) → nat_abs (pos c *ℤ x) ≡ c * nat_abs x
abs-times c x = omega (arith, size (pos c *ℤ x), up-times c x, down-times c x, ap (λ (m : ℕ). c * m) (size x), mul-add c (up x) (down x))

to-fits : (c : ℕ) (x y : ℤ) → T (cell_below (pos c *ℤ x) y) → Fits c x y
to-fits c x y t = let h = cell-sound (pos c *ℤ x) y t in omega (arith, up-times c x, down-times c x)

from-fits : (c : ℕ) (x y : ℤ) → Fits c x y → T (cell_below (pos c *ℤ x) y)
from-fits c x y h = cell-complete (pos c *ℤ x) y (omega (arith, up-times c x, down-times c x))

fits-size : (c : ℕ) (x y : ℤ) → Fits c x y → c * nat_abs x ≤ nat_abs y
fits-size c x y h = omega (arith, ap (λ (m : ℕ). c * m) (size x), mul-add c (up x) (down x), size y)

-- a positive multiple of a positive number is positive
no-multiple : (c a : ℕ) → 0 < a → c * a ≤ 0 → c ≤ 0
no-multiple zero a h k = omega arith
no-multiple (suc c) a h k = omega (arith, suc-mul c a)

opposed : (c : ℕ) (x y : ℤ) → non_neg (x *ℤ y) ≡ false → (nat_abs x ≡ 0 → ⊥) → Fits c x y → c ≤ 0
opposed c (pos a) (pos b) e z h = absurd (subst T e tt)
opposed c (pos a) (negsuc b) e z h = no-multiple c a (omega (arith, z)) h.rise
opposed c (negsuc a) (pos b) e z h = no-multiple c (suc a) (omega arith) h.fall
opposed c (negsuc a) (negsuc b) e z h = absurd (subst T e tt)

positive-product : (a b : ℕ) → (a ≡ 0 → ⊥) → a * suc b ≡ 0 → ⊥
positive-product zero b z e = z refl
positive-product (suc a) b z e = omega (arith, suc-mul a (suc b))

zero-factor : (a b : ℕ) → suc a * b ≡ 0 → b ≡ 0
zero-factor a b e = omega (arith, suc-mul a b)

agreeing : (c : ℕ) (x y : ℤ) → non_neg (x *ℤ y) ≡ true → (nat_abs x ≡ 0 → ⊥) → c * nat_abs x ≤ nat_abs y → Fits c x y
agreeing c (pos a) (pos b) e z h = omega (arith, mul-zero c)
agreeing c (pos a) (negsuc b) e z h = absurd (positive-product a b z (non_neg-neg (a * suc b) (subst T (sym e) tt)))
agreeing c (negsuc a) (pos b) e z h = omega (arith, mul-zero c, zero-factor a b (non_neg-neg (suc a * b) (subst T (sym e) tt)))
agreeing c (negsuc a) (negsuc b) e z h = omega (arith, mul-zero c)

fits-none : (c : ℕ) (x y : ℤ) → c ≤ 0 → Fits c x y
fits-none zero x y h = omega (arith, zero-mul (up x), zero-mul (down x))
fits-none (suc c) x y h = absurd (omega arith)

fits-zero : (c : ℕ) (x y : ℤ) → nat_abs x ≡ 0 → Fits c x y
fits-zero c x y e = omega (arith, mul-zero c, ap (λ (m : ℕ). c * m) up_is, ap (λ (m : ℕ). c * m) down_is)
  where
    up_is : up x ≡ 0
    up_is = omega (arith, size x)

    down_is : down x ≡ 0
    down_is = omega (arith, size x)

positive : (n : ℕ) → (n ≡ 0 → ⊥) → 0 < n
positive zero z = absurd (z refl)
positive (suc n) z = omega arith

cell-most : (bound : ℕ) (x y : ℤ) (c : ℕ) → c ≤ bound → Fits c x y → c ≤ cell_times bound x y
unfolding cell_times
cell-most bound x y c h f =
    if-cases (λ (m : ℕ). c ≤ m) (eqb (nat_abs x) 0) (λ e. h)
    (λ e. if-cases (λ (m : ℕ). c ≤ m) (non_neg (x *ℤ y))
    (λ s. let q = (le-div_iff_mul-le (positive (nat_abs x) (eqb-false (nat_abs x) 0 e))).1 (fits-size c x y f) in omega (arith, q))
    (λ s. opposed c x y s (eqb-false (nat_abs x) 0 e) f))

record UpTo (bound c : ℕ) (x y : ℤ) : Type 0 where
  most : c ≤ bound
  fits : Fits c x y

cell-least : (bound : ℕ) (x y : ℤ) (c : ℕ) → c ≤ cell_times bound x y → UpTo bound c x y
unfolding cell_times
cell-least bound x y c =
    if-cases (λ (m : ℕ). c ≤ m → UpTo bound c x y) (eqb (nat_abs x) 0)
    (λ e h. record { most = h; fits = fits-zero c x y (eqb-true (nat_abs x) 0 e) })
    (λ e. if-cases (λ (m : ℕ). c ≤ m → UpTo bound c x y) (non_neg (x *ℤ y))
    (λ s h. record {
      most = omega arith;
      fits = agreeing c x y s (eqb-false (nat_abs x) 0 e) ((le-div_iff_mul-le (positive (nat_abs x) (eqb-false (nat_abs x) 0 e))).0 (omega arith));
    })
    (λ s h. record { most = omega arith; fits = fits-none c x y h }))

-- ---- vectors

times-most : (bound : ℕ) (u v : Vector) (c : ℕ) → c ≤ bound → T (below (scale (pos c) u) v) → c ≤ times_up_to bound u v
unfolding times_up_to scale below
times-most bound [] v c h t = h
times-most bound (x ∷ u) [] c h t = h
times-most bound (x ∷ u) (y ∷ v) c h t =
    times-most (cell_times bound x y) u v c
    (cell-most bound x y c h (to-fits c x y (and_left (cell_below (pos c *ℤ x) y) (below (scale (pos c) u) v) t)))
    (and_right (cell_below (pos c *ℤ x) y) (below (scale (pos c) u) v) t)

-- that multiple of u lies below v, and c is at most the bound
pub record Multiple (bound c : ℕ) (u v : Vector) : Type 0 where
  pub most : c ≤ bound
  pub lies : T (below (scale (pos c) u) v)

pub times-least : (bound : ℕ) (u v : Vector) (c : ℕ) → length u ≡ length v → c ≤ times_up_to bound u v → Multiple bound c u v
unfolding times_up_to scale below
times-least bound [] [] c l h = record { most = h; lies = tt }
times-least bound [] (y ∷ v) c l h = absurd (omega arith)
times-least bound (x ∷ u) [] c l h = absurd (omega arith)
times-least bound (x ∷ u) (y ∷ v) c l h =
    let rest = times-least (cell_times bound x y) u v c (omega arith) h in
    let first = cell-least bound x y c rest.most in
    record { most = first.most; lies = both (cell_below (pos c *ℤ x) y) (below (scale (pos c) u) v) (from-fits c x y first.fits) rest.lies }

-- a multiple that lies below v is no larger than the weight of v
below-weight : (c : ℕ) (u v : Vector) → T (below (scale (pos c) u) v) → c * weight u ≤ weight v
unfolding scale below weight
below-weight c [] [] t = omega (arith, mul-zero c)
below-weight c [] (y ∷ v) t = absurd t
below-weight c (x ∷ u) [] t = absurd t
below-weight c (x ∷ u) (y ∷ v) t =
    omega (
      arith,
      mul-add c (nat_abs x) (weight u),
      fits-size c x y (to-fits c x y (and_left (cell_below (pos c *ℤ x) y) (below (scale (pos c) u) v) t)),
      below-weight c u v (and_right (cell_below (pos c *ℤ x) y) (below (scale (pos c) u) v) t),
    )

pub no_more : (c w : ℕ) → 0 < w → c ≤ c * w
no_more c (suc w) h = omega (arith, mul-suc c w)
no_more c zero h = absurd (omega arith)

-- 4.1: `times` is a multiple below v, and no larger multiple is
pub times-greatest : (u v : Vector) (c : ℕ) → length u ≡ length v → 0 < weight u → T (below (scale (pos c) u) v) ↔ (c ≤ times u v)
unfolding times
times-greatest u v c l h = (
  λ t. times-most (weight v) u v c (omega (arith, no_more c (weight u) h, below-weight c u v t)) t,
  λ k. (times-least (weight v) u v c l k).lies,
)
