-- The cost of a sum, of a negative, and of vectors that lower it. Assumes nothing.
use mathlib.Core.Path.{◌≡◌, refl, sym, ◌∙◌, ap, ap₂}
use mathlib.Core.List.{List, [], ◌∷◌}
use Prim.Native.Nat.{ℕ, zero, suc, ◌+◌, ◌*◌, ◌≤◌, ◌<◌}
use native.Mathlib.Omega.{arith}
use lib.Dec.{T, le→leb, leb→le, lt→ltb}
use lib.ListN.{length}
use lib.IntN.{ℤ, pos, negsuc, ◌+ℤ◌, ◌*ℤ◌, neg_ℤ, +ℤ_assoc, +ℤ_comm, *ℤ_comm, *ℤ-zero, neg_ℤ-+ℤ}
use lib.Signed.{le_z, lt_z, ◌≤ℤ◌, ◌<ℤ◌}
use Rattle.definitions.specs.Limits.{cells}
use Rattle.definitions.specs.Vector.{Vector, negative, plus, total, zero_vector, zeros}
use Rattle.definitions.specs.Plan.{cost, fall}
use Rattle.theory.proofs.Cell.{apart, balance, down, up}
use Rattle.theory.proofs.Conformal.{length-total}
use Rattle.theory.proofs.Lattice.{neg-times, plus_times}
use Rattle.theory.proofs.Members.{Each, each-cons, each_nil}

-- ---- the order of whole numbers, for linear arithmetic
le-complete : (x y : ℤ) → up x + down y ≤ up y + down x → T (le_z x y)
le-complete (pos a) (pos b) h = le→leb a b (omega arith)
le-complete (pos a) (negsuc b) h = absurd (omega arith)
le-complete (negsuc a) (pos b) h = tt
le-complete (negsuc a) (negsuc b) h = le→leb b a (omega arith)

pub to-≤ℤ : (x y : ℤ) → up x + down y ≤ up y + down x → x ≤ℤ y
to-≤ℤ x y h = record { le = le-complete x y h }

le-sound : (x y : ℤ) → T (le_z x y) → up x + down y ≤ up y + down x
le-sound (pos a) (pos b) t = omega (arith, leb→le a b t)
le-sound (pos a) (negsuc b) t = absurd t
le-sound (negsuc a) (pos b) t = omega arith
le-sound (negsuc a) (negsuc b) t = omega (arith, leb→le b a t)

pub from-≤ℤ : (x y : ℤ) → x ≤ℤ y → up x + down y ≤ up y + down x
from-≤ℤ x y h = le-sound x y h.le

lt-complete : (x y : ℤ) → up x + down y < up y + down x → T (lt_z x y)
lt-complete (pos a) (pos b) h = lt→ltb a b (omega arith)
lt-complete (pos a) (negsuc b) h = absurd (omega arith)
lt-complete (negsuc a) (pos b) h = tt
lt-complete (negsuc a) (negsuc b) h = lt→ltb b a (omega arith)

to-<ℤ : (x y : ℤ) → up x + down y < up y + down x → x <ℤ y
to-<ℤ x y h = record { lt = lt-complete x y h }

pub fall-down : (z : ℤ) → fall z ≡ down z
unfolding fall
fall-down (pos a) = refl
fall-down (negsuc a) = refl

-- ---- sums
swap_inner : (a b c d : ℤ) → (a +ℤ b) +ℤ (c +ℤ d) ≡ (a +ℤ c) +ℤ (b +ℤ d)
swap_inner a b c d =
    +ℤ_assoc a b (c +ℤ d)
    ∙ ap (a +ℤ◌) (sym (+ℤ_assoc b c d) ∙ ap (λ (z : ℤ). z +ℤ d) (+ℤ_comm b c) ∙ +ℤ_assoc c b d)
    ∙ sym (+ℤ_assoc a c (b +ℤ d))

times-plus : (c x y : ℤ) → c *ℤ (x +ℤ y) ≡ c *ℤ x +ℤ c *ℤ y
times-plus c x y = *ℤ_comm c (x +ℤ y) ∙ plus_times x y c ∙ ap₂ ◌+ℤ◌ (*ℤ_comm x c) (*ℤ_comm y c)

pub cost-plus : (costs u v : Vector) → length u ≡ length v → cost costs (plus u v) ≡ cost costs u +ℤ cost costs v
unfolding cost plus
cost-plus [] u v p = refl
cost-plus (c ∷ costs) [] [] p = refl
cost-plus (c ∷ costs) [] (y ∷ v) p = absurd (omega arith)
cost-plus (c ∷ costs) (x ∷ u) [] p = absurd (omega arith)
cost-plus (c ∷ costs) (x ∷ u) (y ∷ v) p =
    ap₂ ◌+ℤ◌ (times-plus c x y) (cost-plus costs u v (omega arith))
    ∙ swap_inner (c *ℤ x) (c *ℤ y) (cost costs u) (cost costs v)

times-negative : (c x : ℤ) → c *ℤ neg_ℤ x ≡ neg_ℤ (c *ℤ x)
times-negative c x = *ℤ_comm c (neg_ℤ x) ∙ neg-times x c ∙ ap neg_ℤ (*ℤ_comm x c)

pub cost-negative : (costs v : Vector) → cost costs (negative v) ≡ neg_ℤ (cost costs v)
unfolding cost negative
cost-negative [] v = refl
cost-negative (c ∷ costs) [] = refl
cost-negative (c ∷ costs) (x ∷ v) =
    ap₂ ◌+ℤ◌ (times-negative c x) (cost-negative costs v) ∙ sym (neg_ℤ-+ℤ (c *ℤ x) (cost costs v))

cost-zeros : (costs : Vector) (n : ℕ) → cost costs (zeros n) ≡ pos 0
unfolding cost zeros
cost-zeros [] n = refl
cost-zeros (c ∷ costs) zero = refl
cost-zeros (c ∷ costs) (suc n) = ap₂ ◌+ℤ◌ (*ℤ-zero c) (cost-zeros costs n)

pub cost-zero : (costs : Vector) → cost costs zero_vector ≡ pos 0
unfolding zero_vector
cost-zero costs = cost-zeros costs cells

-- a vector that lowers the cost leads to a cheaper plan
pub cost-lower : (costs x v : Vector) → length x ≡ length v → 0 < fall (cost costs v)
    → cost costs (plus x v) <ℤ cost costs x
cost-lower costs x v p h =
    let e = cost-plus costs x v p in
    to-<ℤ (cost costs (plus x v)) (cost costs x)
    (omega (
      arith,
      ap up e,
      ap down e,
      balance (cost costs x) (cost costs v),
      apart (cost costs v),
      fall-down (cost costs v),
      h,
    ))

-- vectors that each lower the cost by at most d lower it together by at most d for each
pub floor-total : (costs : Vector) (d : ℕ) {vs : List Vector} → Each (λ v. length v ≡ cells) vs
    → Each (λ v. down (cost costs v) ≤ d) vs
    → down (cost costs (total vs)) ≤ length vs * d + up (cost costs (total vs))
unfolding total
floor-total costs d each_nil each_nil = omega (arith, ap down (cost-zero costs))
floor-total costs d (each-cons {x = v} {xs = vs} p h) (each-cons q k) =
    let e = cost-plus costs v (total vs) (p ∙ sym (length-total h)) in
    omega (arith, ap up e, ap down e, balance (cost costs v) (cost costs (total vs)), floor-total costs d h k)
