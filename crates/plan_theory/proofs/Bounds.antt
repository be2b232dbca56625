-- Feasible vectors: what lies below a change from one to another keeps the bounds, and its weight is at most the reach. Assumes nothing.
use mathlib.Core.Path.{◌≡◌, refl, ◌∙◌, ap}
use mathlib.Core.Bool.{Bool, true, ◌&&◌}
use mathlib.Core.List.{[], ◌∷◌}
use Prim.Native.Nat.{suc, ◌+◌, ◌≤◌, max}
use native.Mathlib.Omega.{arith}
use borrow.Author.Tests.{le-leb, leb-true}
use lib.ListN.{length}
use lib.IntN.{ℤ, pos, negsuc, nat_abs, neg_ℤ, ◌+ℤ◌, ◌-ℤ◌}
use Rattle.definitions.specs.Vector.{Vector, below, minus, negative, plus, weight}
use Rattle.definitions.specs.Plan.{feasible, is_bounded, reach}
use Rattle.theory.proofs.Below.{◌⊑◌, head-below, tail-below}
use Rattle.theory.proofs.Cell.{CellBelow, apart, balance, down, down-neg, size, up, up_neg}
use Rattle.theory.proofs.Tests.{and-true-left, and-true-right, clash}

-- ---- one cell
-- x lies from 0 to a bound
pub record CellBounded (bound x : ℤ) : Type 0 where
  pub low : down x ≡ 0
  pub high : up x + down bound ≤ up bound

cell-bounded : (bound x : ℤ) → is_bounded bound x ≡ true → CellBounded bound x
unfolding is_bounded
cell-bounded (pos b) (pos a) e = omega (arith, leb-true a b e)
cell-bounded (negsuc b) (pos a) e = clash e refl
cell-bounded (pos b) (negsuc a) e = clash e refl
cell-bounded (negsuc b) (negsuc a) e = clash e refl

cell-passes : (bound x : ℤ) → CellBounded bound x → is_bounded bound x ≡ true
unfolding is_bounded
cell-passes (pos b) (pos a) c = le-leb a b (omega arith)
cell-passes (negsuc b) (pos a) c = absurd (omega arith)
cell-passes bound (negsuc a) c = absurd (omega arith)

-- a part p of the change from x to y, taken alone
cell-part : {bound x y p : ℤ} → CellBounded bound x → CellBounded bound y → CellBelow p (y +ℤ neg_ℤ x)
    → CellBounded bound (x +ℤ p)
cell-part {bound} {x} {y} {p} a b h =
    omega (arith, balance x p, apart (x +ℤ p), balance y (neg_ℤ x), apart (y +ℤ neg_ℤ x), up_neg x, down-neg x, apart p)

cell-reach : {bound x y : ℤ} → CellBounded bound x → CellBounded bound y
    → nat_abs (y +ℤ neg_ℤ x) ≤ max (nat_abs x) (nat_abs (bound -ℤ x))
cell-reach {bound} {x} {y} a b =
    omega (
      arith,
      size x,
      size (y +ℤ neg_ℤ x),
      balance y (neg_ℤ x),
      apart (y +ℤ neg_ℤ x),
      size (bound -ℤ x),
      balance bound (neg_ℤ x),
      apart bound,
      up_neg x,
      down-neg x,
    )

-- ---- all cells
pub data Bounded : (upper v : Vector) → Type 0 where
  bounded-nil : Bounded [] []
  bounded-cons : {bound x : ℤ} {upper v : Vector} → CellBounded bound x → Bounded upper v
      → Bounded (bound ∷ upper) (x ∷ v)

pub feasible-bounded : (upper v : Vector) → feasible upper v ≡ true → Bounded upper v
unfolding feasible
feasible-bounded [] [] e = bounded-nil
feasible-bounded [] (x ∷ v) e = clash e refl
feasible-bounded (bound ∷ upper) [] e = clash e refl
feasible-bounded (bound ∷ upper) (x ∷ v) e =
    bounded-cons (cell-bounded bound x (and-true-left (is_bounded bound x) (feasible upper v) e))
    (feasible-bounded upper v (and-true-right (is_bounded bound x) (feasible upper v) e))

pub bounded-feasible : {upper v : Vector} → Bounded upper v → feasible upper v ≡ true
unfolding feasible
bounded-feasible bounded-nil = refl
bounded-feasible (bounded-cons {bound = bound} {x = x} {upper = upper} {v = v} c h) =
    ap (λ (b : Bool). b && feasible upper v) (cell-passes bound x c) ∙ bounded-feasible h

bounded-length : {upper v : Vector} → Bounded upper v → length v ≡ length upper
bounded-length bounded-nil = refl
bounded-length (bounded-cons c h) = ap suc (bounded-length h)

bounded-part : {upper x y : Vector} (v : Vector) → Bounded upper x → Bounded upper y → v ⊑ minus y x
    → Bounded upper (plus x v)
unfolding plus negative minus below
bounded-part v bounded-nil bounded-nil h = bounded-nil
bounded-part [] (bounded-cons a s) (bounded-cons b t) h = absurd h.test
bounded-part (p ∷ v) (bounded-cons a s) (bounded-cons b t) h =
    bounded-cons (cell-part a b (head-below h)) (bounded-part v s t (tail-below h))

bounded-reach : {upper x y : Vector} → Bounded upper x → Bounded upper y → weight (minus y x) ≤ reach upper x
unfolding plus negative minus weight reach
bounded-reach bounded-nil bounded-nil = omega arith
bounded-reach (bounded-cons a s) (bounded-cons b t) = omega (arith, cell-reach a b, bounded-reach s t)

-- ---- feasible vectors
pub feasible-length : (upper x : Vector) → feasible upper x ≡ true → length x ≡ length upper
feasible-length upper x e = bounded-length (feasible-bounded upper x e)

-- WHAT LIES BELOW A CHANGE that keeps the bounds keeps them
pub part-feasible : (upper x y v : Vector) → feasible upper x ≡ true → feasible upper y ≡ true → v ⊑ minus y x
    → feasible upper (plus x v) ≡ true
part-feasible upper x y v e f h =
    bounded-feasible (bounded-part v (feasible-bounded upper x e) (feasible-bounded upper y f) h)

-- THE WEIGHT OF A CHANGE is at most the reach
pub weight-reach : (upper x y : Vector) → feasible upper x ≡ true → feasible upper y ≡ true
    → weight (minus y x) ≤ reach upper x
weight-reach upper x y e f = bounded-reach (feasible-bounded upper x e) (feasible-bounded upper y f)
