-- The degree (Specification 2.1): all images of a vector have one degree, and it is half the weight where the positive and
-- the negative entries have one sum. Assumes nothing.
use mathlib.Core.Path.{◌≡◌, refl, sym, ◌∙◌, ap, ap₂}
use mathlib.Core.Bool.{Bool, true, false, ◌&&◌, ◌||◌}
use mathlib.Core.List.{List, [], ◌∷◌, ◌++◌, map, map-append}
use Prim.Native.Nat.{ℕ, zero, suc, ◌+◌, ◌-◌, ◌≤◌, ◌<◌, max}
use native.Mathlib.Nat.{zero-add}
use native.Mathlib.Omega.{arith}
use native.Mathlib.Decide.{dec_lt, ℕ_discrete}
use borrow.Author.Tests.{eq-eqb, le-ltb, lt-ltb, ne_eqb}
use lib.Dec.{ltb, eqb}
use lib.ListN.{length, get_or, drop, length-map, get_or-map}
use lib.IntN.{ℤ, pos, negsuc, neg_ℤ}
use Rattle.definitions.specs.Limits.{cells}
use Rattle.definitions.specs.Vector.{Vector, degree, greater, negative, positive_sum, weight}
use Rattle.definitions.specs.Group.{Exchange, InGroup, exchanged}
use Rattle.definitions.specs.Orbit.{IsImage, precedes, rank, signed}
use Rattle.theory.proofs.Cell.{down, size, up, up_neg}
use Rattle.theory.proofs.Vector.{length-negative, negative-negative}
use Rattle.theory.proofs.Exchanges.{AllExchanges}
use Rattle.theory.proofs.Action.{exchanged-negative}
use Rattle.theory.proofs.Images.{member-weight}

-- ---- doubled numbers are compared alike
twice-less : (a b : ℕ) → ltb (a + a) (b + b) ≡ ltb a b
twice-less a b = go (dec_lt a b)
  where
    go : Dec (a < b) → ltb (a + a) (b + b) ≡ ltb a b
    go (yes h) = lt-ltb (a + a) (b + b) (omega arith) ∙ sym (lt-ltb a b h)
    go (no h) = le-ltb (a + a) (b + b) (omega arith) ∙ sym (le-ltb a b (omega arith))

twice-equal : (a b : ℕ) → eqb (a + a) (b + b) ≡ eqb a b
twice-equal a b = go (ℕ_discrete a b)
  where
    go : Dec (a ≡ b) → eqb (a + a) (b + b) ≡ eqb a b
    go (yes h) = eq-eqb (a + a) (b + b) (omega arith) ∙ sym (eq-eqb a b h)
    go (no h) = ne_eqb (a + a) (b + b) (λ e. h (omega arith)) ∙ sym (ne_eqb a b h)

-- ---- the two sums of the degree, by the cell
pub positive-cons : (x : ℤ) (v : Vector) → positive_sum (x ∷ v) ≡ up x + positive_sum v
unfolding positive_sum
positive-cons (pos a) v = refl
positive-cons (negsuc a) v = sym (zero-add (positive_sum v))

pub negative-cons : (x : ℤ) (v : Vector) → positive_sum (negative (x ∷ v)) ≡ down x + positive_sum (negative v)
unfolding negative
negative-cons x v = positive-cons (neg_ℤ x) (negative v) ∙ ap (λ (k : ℕ). k + positive_sum (negative v)) (up_neg x)

-- together they are the weight
weight-sums : (v : Vector) → weight v ≡ positive_sum v + positive_sum (negative v)
unfolding weight positive_sum negative
weight-sums [] = refl
weight-sums (x ∷ v) = omega (arith, weight-sums v, size x, positive-cons x v, negative-cons x v)

-- WHERE THEY ARE EQUAL, THE DEGREE IS HALF THE WEIGHT: the entries add up to zero
pub weight-level : (v : Vector) → positive_sum v ≡ positive_sum (negative v) → weight v ≡ degree v + degree v
unfolding degree
weight-level v e = omega (arith, weight-sums v)

-- SUCH VECTORS ARE SORTED AS BY WEIGHT
pub precedes-level : (u v : Vector) → positive_sum u ≡ positive_sum (negative u) → positive_sum v ≡ positive_sum (negative v)
    → precedes u v ≡ (ltb (weight u) (weight v) || (eqb (weight u) (weight v) && greater u v))
unfolding precedes rank
precedes-level u v p q = rw (weight-level u p, weight-level v q, twice-less (degree u) (degree v), twice-equal (degree u) (degree v))

-- the positive part of v: its negative entries are replaced by zero
abbrev positive_part : Vector → Vector
positive_part v = map (λ x. pos (up x)) v

sum-weight : (v : Vector) → positive_sum v ≡ weight (positive_part v)
unfolding weight positive_sum
sum-weight [] = refl
sum-weight (x ∷ v) = omega (arith, positive-cons x v, sum-weight v)

-- ---- exchanges

part-drop : (k : ℕ) (v : Vector) → drop k (positive_part v) ≡ positive_part (drop k v)
part-drop zero v = refl
part-drop (suc k) [] = refl
part-drop (suc k) (x ∷ v) = part-drop k v

part-named : (v : Vector) (s : Exchange) → map (λ j. get_or (positive_part v) (j - 1) (pos 0)) s ≡ positive_part (map (λ j. get_or v (j - 1) (pos 0)) s)
part-named v [] = refl
part-named v (j ∷ s) = ap₂ ◌∷◌ (get_or-map (λ x. pos (up x)) v (j - 1) (pos 0)) (part-named v s)

part-exchanged : (s : Exchange) (v : Vector) → exchanged s (positive_part v) ≡ positive_part (exchanged s v)
unfolding exchanged
part-exchanged s v =
    ap₂ ◌++◌ (part-named v s) (part-drop (length s) v)
    ∙ sym (map-append (λ x. pos (up x)) (map (λ j. get_or v (j - 1) (pos 0)) s) (drop (length s) v))

-- ---- images

degree-negative : (v : Vector) → degree (negative v) ≡ degree v
unfolding degree
degree-negative v = omega (arith, ap positive_sum (negative-negative v))

degree-signed : (b : Bool) (v : Vector) → degree (signed b v) ≡ degree v
unfolding signed
degree-signed true v = refl
degree-signed false v = degree-negative v

module _ (n : ℕ) (sent : List Exchange) (all : AllExchanges n sent) (fits : n ≤ cells) where
  member-sum : (s : Exchange) → InGroup n sent s → (v : Vector) → length v ≡ cells → positive_sum (exchanged s v) ≡ positive_sum v
  member-sum s m v p =
      sum-weight (exchanged s v)
      ∙ ap weight (sym (part-exchanged s v))
      ∙ member-weight n sent all fits s m (positive_part v) (length-map v (λ x. pos (up x)) ∙ p)
      ∙ sym (sum-weight v)

  member-degree : (s : Exchange) → InGroup n sent s → (v : Vector) → length v ≡ cells → degree (exchanged s v) ≡ degree v
  unfolding degree
  member-degree s m v p =
      ap₂ max (member-sum s m v p)
      (ap positive_sum (sym (exchanged-negative s v)) ∙ member-sum s m (negative v) (length-negative v ∙ p))

  -- ALL IMAGES OF A VECTOR HAVE ONE DEGREE
  pub image-degree : {u r : Vector} → length r ≡ cells → IsImage n sent u r → degree u ≡ degree r
  image-degree {u} {r} p x =
      sym (ap degree x.equation)
      ∙ degree-signed x.positive (exchanged x.exchange r)
      ∙ member-degree x.exchange x.in_group r p
