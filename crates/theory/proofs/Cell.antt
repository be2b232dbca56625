-- One cell, by its positive part `up` and its negative part `down`: every fact on a sum or on `below` is then linear arithmetic.
-- Assumes nothing.
use mathlib.Core.Path.{◌≡◌, refl, sym, ap}
use mathlib.Core.Bool.{Bool, true, false, not, cond, ◌&&◌}
use Prim.Native.Nat.{ℕ, zero, suc, ◌+◌, ◌*◌, ◌-◌, ◌≤◌, ◌<◌, min}
use native.Mathlib.Omega.{arith}
use native.Mathlib.Nat as NatL
use lib.Dec.{T, ltb, leb, ltb→lt, nltb→le, leb→le, le→leb}
use lib.IntN.{ℤ, pos, negsuc, ◌+ℤ◌, neg_ℤ, nat_abs, sub_ℕ}
use lib.Signed.{non_neg}
use Rattle.definitions.specs.Vector.{cell_below}

abbrev pub up : ℤ → ℕ
up (pos a) = a
up (negsuc a) = zero

abbrev pub down : ℤ → ℕ
down (pos a) = zero
down (negsuc a) = suc a

-- ---- what omega needs of one cell
pub apart : (x : ℤ) → min (up x) (down x) ≡ zero
apart (pos a) = NatL.min-zero a
apart (negsuc a) = NatL.zero-min (suc a)

pub size : (x : ℤ) → nat_abs x ≡ up x + down x
size (pos a) = sym (NatL.add-zero a)
size (negsuc a) = sym (NatL.zero-add (suc a))

pub same : (x y : ℤ) → up x ≡ up y → down x ≡ down y → x ≡ y
same (pos a) (pos b) p q = ap pos p
same (pos a) (negsuc b) p q = absurd (omega arith)
same (negsuc a) (pos b) p q = absurd (omega arith)
same (negsuc a) (negsuc b) p q = ap negsuc (omega arith)

pub up_neg : (x : ℤ) → up (neg_ℤ x) ≡ down x
up_neg (pos zero) = refl
up_neg (pos (suc a)) = refl
up_neg (negsuc a) = refl

pub down-neg : (x : ℤ) → down (neg_ℤ x) ≡ up x
down-neg (pos zero) = refl
down-neg (pos (suc a)) = refl
down-neg (negsuc a) = refl

-- a difference of two naturals
balance-sub : (a b : ℕ) → up (sub_ℕ a b) + b ≡ down (sub_ℕ a b) + a
balance-sub a b = go (ltb a b) (ltb→lt a b) (nltb→le a b)
  where
    go : (c : Bool) → (T c → a < b) → (T (not c) → b ≤ a) → up (cond c (negsuc (b - suc a)) (pos (a - b))) + b ≡ down (cond c (negsuc (b - suc a)) (pos (a - b))) + a
    go true f g = let h : a < b = f tt in omega arith
    go false f g = let h : b ≤ a = g tt in omega arith

pub balance : (x y : ℤ) → up (x +ℤ y) + (down x + down y) ≡ down (x +ℤ y) + (up x + up y)
balance (pos a) (pos b) = omega arith
balance (pos a) (negsuc b) = omega (arith, balance-sub a (suc b))
balance (negsuc a) (pos b) = omega (arith, balance-sub b (suc a))
balance (negsuc a) (negsuc b) = omega arith

-- ---- below, for one cell
pub record CellBelow (x y : ℤ) : Type 0 where
  pub rise : up x ≤ up y
  pub fall : down x ≤ down y

pub non_neg-neg : (n : ℕ) → T (non_neg (neg_ℤ (pos n))) → n ≡ zero
non_neg-neg zero t = refl
non_neg-neg (suc n) t = absurd t

pub and_left : (a b : Bool) → T (a && b) → T a
and_left true b t = tt
and_left false b t = t

pub and_right : (a b : Bool) → T (a && b) → T b
and_right true b t = t
and_right false b t = absurd t

pub both : (a b : Bool) → T a → T b → T (a && b)
both true b s t = t
both false b s t = s

pub non_neg-zero : (n : ℕ) → n ≡ zero → T (non_neg (neg_ℤ (pos n)))
non_neg-zero zero e = tt
non_neg-zero (suc n) e = absurd (omega arith)

pub cell-sound : (x y : ℤ) → T (cell_below x y) → CellBelow x y
unfolding cell_below
cell-sound (pos a) (pos b) t = let h = leb→le a b t in record { rise = h; fall = omega arith }
cell-sound (pos a) (negsuc b) t =
    let e = non_neg-neg (a * suc b) (and_left (non_neg (neg_ℤ (pos (a * suc b)))) (leb a (suc b)) t) in
    record { rise = omega arith; fall = omega arith }
cell-sound (negsuc a) (pos b) t =
    let e = non_neg-neg (suc a * b) (and_left (non_neg (neg_ℤ (pos (suc a * b)))) (leb (suc a) b) t) in
    let h = leb→le (suc a) b (and_right (non_neg (neg_ℤ (pos (suc a * b)))) (leb (suc a) b) t) in
    absurd (omega arith)
cell-sound (negsuc a) (negsuc b) t = let h = leb→le (suc a) (suc b) t in record { rise = omega arith; fall = h }

pub cell-complete : (x y : ℤ) → CellBelow x y → T (cell_below x y)
unfolding cell_below
cell-complete (pos a) (pos b) h = le→leb a b h.rise
cell-complete (pos a) (negsuc b) h =
    both (non_neg (neg_ℤ (pos (a * suc b)))) (leb a (suc b)) (non_neg-zero (a * suc b) (zero-times a b h.rise)) (le→leb a (suc b) (omega arith))
  where
    zero-times : (a b : ℕ) → a ≤ zero → a * suc b ≡ zero
    zero-times zero b h = NatL.zero-mul (suc b)
    zero-times (suc a) b h = absurd (omega arith)
cell-complete (negsuc a) (pos b) h = absurd (omega arith)
cell-complete (negsuc a) (negsuc b) h = le→leb (suc a) (suc b) h.fall

-- ---- below is reflexive, transitive and antisymmetric
pub cell-refl : (x : ℤ) → CellBelow x x
cell-refl x = omega arith

pub cell-trans : {x y z : ℤ} → CellBelow x y → CellBelow y z → CellBelow x z
cell-trans h k = omega arith

pub cell-antisym : {x y : ℤ} → CellBelow x y → CellBelow y x → x ≡ y
cell-antisym {x} {y} h k = same x y (omega arith) (omega arith)

pub cell-zero : (x : ℤ) → CellBelow (pos zero) x
cell-zero x = omega arith

pub cell-neg : {x y : ℤ} → CellBelow x y → CellBelow (neg_ℤ x) (neg_ℤ y)
cell-neg {x} {y} h = omega (arith, up_neg x, up_neg y, down-neg x, down-neg y)

pub abs_neg : (x : ℤ) → nat_abs (neg_ℤ x) ≡ nat_abs x
abs_neg x = omega (arith, size x, size (neg_ℤ x), up_neg x, down-neg x)

pub abs-zero : (x : ℤ) → nat_abs x ≡ zero → x ≡ pos zero
abs-zero x h = same x (pos zero) (omega (arith, size x)) (omega (arith, size x))

pub abs-below : {x y : ℤ} → CellBelow x y → nat_abs x ≤ nat_abs y
abs-below {x} {y} h = omega (arith, size x, size y)

-- what is left of y after a cell below it
pub cell-rest : {x y : ℤ} → CellBelow x y → CellBelow (y +ℤ neg_ℤ x) y
cell-rest {x} {y} h = omega (arith, balance y (neg_ℤ x), apart (y +ℤ neg_ℤ x), apart y, up_neg x, down-neg x)

pub abs-rest : {x y : ℤ} → CellBelow x y → nat_abs y ≡ nat_abs x + nat_abs (y +ℤ neg_ℤ x)
abs-rest {x} {y} h = omega (arith, size x, size y, size (y +ℤ neg_ℤ x), balance y (neg_ℤ x), apart (y +ℤ neg_ℤ x), apart y, up_neg x, down-neg x)

pub abs-plus : (x y : ℤ) → nat_abs (x +ℤ y) ≤ nat_abs x + nat_abs y
abs-plus x y = omega (arith, size x, size y, size (x +ℤ y), balance x y, apart (x +ℤ y))

-- ---- two cells that do not oppose: |x + y| = |x| + |y|
record CellAgree (x y : ℤ) : Type 0 where
  left : min (up x) (down y) ≡ zero
  right : min (down x) (up y) ≡ zero

agree-of-abs : (x y : ℤ) → nat_abs (x +ℤ y) ≡ nat_abs x + nat_abs y → CellAgree x y
agree-of-abs x y h = omega (arith, size x, size y, size (x +ℤ y), balance x y, apart (x +ℤ y))

abs-of-agree : (x y : ℤ) → CellAgree x y → nat_abs (x +ℤ y) ≡ nat_abs x + nat_abs y
abs-of-agree x y h = omega (arith, size x, size y, size (x +ℤ y), balance x y, apart (x +ℤ y), apart x, apart y)

agree-plus : (x y z : ℤ) → CellAgree x y → CellAgree x z → CellAgree x (y +ℤ z)
agree-plus x y z h k = omega (arith, balance y z, apart (y +ℤ z))

pub abs-agree-plus : (x y z : ℤ) → nat_abs (x +ℤ y) ≡ nat_abs x + nat_abs y → nat_abs (x +ℤ z) ≡ nat_abs x + nat_abs z
    → nat_abs (x +ℤ (y +ℤ z)) ≡ nat_abs x + nat_abs (y +ℤ z)
abs-agree-plus x y z h k = abs-of-agree x (y +ℤ z) (agree-plus x y z (agree-of-abs x y h) (agree-of-abs x z k))

pub cell_agree : (x y : ℤ) → nat_abs (x +ℤ y) ≡ nat_abs x + nat_abs y → CellBelow x (x +ℤ y)
cell_agree x y h = let a = agree-of-abs x y h in omega (arith, balance x y, apart (x +ℤ y), apart x, apart y)

pub abs-common : {x y z : ℤ} → CellBelow x z → CellBelow y z → nat_abs (x +ℤ y) ≡ nat_abs x + nat_abs y
abs-common {x} {y} {z} h k = abs-of-agree x y (omega (arith, apart z))
