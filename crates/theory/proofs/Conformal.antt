-- Sums of lists of vectors, and conformal sums.
-- Assumes nothing.
use mathlib.Core.Path.{◌≡◌, sym, ◌∙◌, ap, subst}
use mathlib.Core.List.{List, [], ◌∷◌, ◌++◌, map}
use Prim.Native.Nat.{ℕ, zero, ◌+◌}
use native.Mathlib.Omega.{arith}
use lib.ListN.{length}
use Rattle.definitions.specs.Limits.{cells}
use Rattle.definitions.specs.Vector.{Vector, negative, plus, total, weight}
use Rattle.theory.proofs.Vector.{length-plus, length-zero, negative-plus, negative-zero, plus_assoc, plus_comm, plus-zero, weight-zero-vector, zero-plus}
use Rattle.theory.proofs.Below.{◌⊑◌, agree-below, agree-plus, common-agree, ⊑-length, ⊑_trans}
use Rattle.theory.proofs.Members.{Each, each-cons, each_map, each_nil}

-- ---- sums of lists
pub length-total : {vs : List Vector} → Each (λ v. length v ≡ cells) vs → length (total vs) ≡ cells
unfolding total
length-total each_nil = length-zero
length-total (each-cons {x = v} {xs = vs} h t) = length-plus cells v (total vs) h (length-total t)

pub total-append : {us vs : List Vector} → Each (λ v. length v ≡ cells) us → Each (λ v. length v ≡ cells) vs → total (us ++ vs) ≡ plus (total us) (total vs)
unfolding plus total
total-append {vs = vs} each_nil k = sym (zero-plus (total vs) (length-total k))
total-append {vs = vs} (each-cons {x = u} {xs = us} h t) k = ap (plus u) (total-append t k) ∙ sym (plus_assoc u (total us) (total vs))

pub total-negative : (vs : List Vector) → total (map negative vs) ≡ negative (total vs)
unfolding plus negative total
total-negative [] = sym negative-zero
total-negative (v ∷ vs) = ap (plus (negative v)) (total-negative vs) ∙ sym (negative-plus v (total vs))

-- the sum of the weights
abbrev pub weights : List Vector → ℕ
weights [] = zero
weights (v ∷ vs) = weight v + weights vs

pub weights-append : (us vs : List Vector) → weights (us ++ vs) ≡ weights us + weights vs
weights-append [] vs = omega arith
weights-append (u ∷ us) vs = omega (arith, weights-append us vs)

-- ---- lists in which any two agree
pub data Agreeing : List Vector → Type 0 where
  alone : Agreeing []
  joined : {f : Vector} {vs : List Vector} → Each (λ g. weight (plus f g) ≡ weight f + weight g) vs → Agreeing vs → Agreeing (f ∷ vs)

agree-total : (f : Vector) → length f ≡ cells → {vs : List Vector} → Each (λ v. length v ≡ cells) vs → Each (λ g. weight (plus f g) ≡ weight f + weight g) vs
    → weight (plus f (total vs)) ≡ weight f + weight (total vs)
unfolding plus weight total
agree-total f p each_nil each_nil = omega (arith, ap weight (plus-zero f p), weight-zero-vector)
agree-total f p (each-cons {x = g} {xs = vs} q t) (each-cons h k) =
    agree-plus f g (total vs) (p ∙ sym q) (p ∙ sym (length-total t)) h (agree-total f p t k)

-- each of them is below their sum, and their weights add up
pub agreeing-below : {vs : List Vector} → Each (λ v. length v ≡ cells) vs → Agreeing vs → Each (λ v. v ⊑ total vs) vs
unfolding plus weight total
agreeing-below each_nil alone = each_nil
agreeing-below (each-cons {x = f} {xs = vs} p t) (joined h k) =
    let s : Vector = total vs in
    let e : length f ≡ length s = p ∙ sym (length-total t) in
    let a = agree-total f p t h in
    let first : f ⊑ plus f s = agree-below f s e a in
    let rest : s ⊑ plus f s = subst (λ (w : Vector). s ⊑ w) (plus_comm s f) (agree-below s f (sym e) (omega (arith, a, ap weight (plus_comm s f)))) in
    each-cons first (each_map (λ v (b : v ⊑ s). ⊑_trans b rest) (agreeing-below t k))

pub agreeing-weights : {vs : List Vector} → Each (λ v. length v ≡ cells) vs → Agreeing vs → weights vs ≡ weight (total vs)
unfolding weight total
agreeing-weights each_nil alone = sym weight-zero-vector
agreeing-weights (each-cons {x = f} {xs = vs} p t) (joined h k) = omega (arith, agree-total f p t h, agreeing-weights t k)

-- vectors below one vector agree
pub common-agreeing : {z : Vector} {vs : List Vector} → Each (λ v. v ⊑ z) vs → Agreeing vs
common-agreeing each_nil = alone
common-agreeing {z} (each-cons {x = f} h t) = joined (each_map (λ g (k : g ⊑ z). common-agree h k) t) (common-agreeing t)

-- ---- conformal sums
-- z is a conformal sum over G: a sum of members of G, each of which lies below z
pub record Conformal (G : Vector → Type 0) (z : Vector) : Type 0 where
  pub parts : List Vector
  pub members : Each G parts
  pub conform : Each (λ p. p ⊑ z) parts
  pub adds-up : total parts ≡ z

pub conformal-over : {G H : Vector → Type 0} {z : Vector} → ((v : Vector) → G v → H v) → Conformal G z → Conformal H z
conformal-over f c = record { parts = c.parts; members = each_map f c.members; conform = c.conform; adds-up = c.adds-up }

pub below-sized : {z : Vector} → length z ≡ cells → {vs : List Vector} → Each (λ v. v ⊑ z) vs → Each (λ v. length v ≡ cells) vs
below-sized {z} p h = each_map (λ v (b : v ⊑ z). ⊑-length b ∙ p) h

pub conformal-weights : (z : Vector) → length z ≡ cells → {vs : List Vector} → Each (λ v. v ⊑ z) vs → total vs ≡ z → weights vs ≡ weight z
unfolding weight total
conformal-weights z p h e = agreeing-weights (below-sized p h) (common-agreeing h) ∙ ap weight e
