-- Bounds on entries, and what keeps them (Specification 3.4 and 6). Assumes nothing.
use mathlib.Core.Path.{◌≡◌, refl, sym, ◌∙◌, ap, subst}
use mathlib.Core.Logic.{◌⊎◌, inl, inr}
use mathlib.Core.Bool.{Bool, true, false}
use mathlib.Core.List.Memᴰ
use mathlib.Core.List.{List, [], ◌∷◌, ◌++◌, map, Memᴰ}
use Prim.Native.Nat.{ℕ, zero, suc, ◌+◌, ◌-◌, ◌≤◌}
use native.Mathlib.Omega.{arith}
use borrow.Author.Tests.{leb-true, le-leb}
use lib.Dec.{leb}
use lib.ListN.{length, get_or, drop}
use lib.IntN.{pos, ◌+ℤ◌, neg_ℤ, nat_abs}
use Rattle.definitions.specs.Limits.{cells}
use Rattle.definitions.specs.Vector.{Vector, below, is_zero, minus, negative, plus, weight, within, zero_vector}
use Rattle.definitions.specs.Group.{Exchange, exchanged}
use Rattle.definitions.specs.Orbit.{orbit, representative, signed}
use Rattle.theory.proofs.Tests.{clash}
use Rattle.theory.proofs.Members.{Each, each-cons, each-every, each_map, each_nil, every-each}
use Rattle.theory.proofs.Cell.{abs-below, abs_neg, abs-plus}
use Rattle.theory.proofs.Vector.{weight-zero-vector, weightless}
use Rattle.theory.proofs.Below.{◌⊑◌, head-below, tail-below}
use Rattle.theory.proofs.Lex.{greatest-member}
use Rattle.theory.proofs.Images.{of-orbit}

-- no entry is past the limit
abbrev pub Within : ℕ → Vector → Type 0
Within limit v = Each (λ x. nat_abs x ≤ limit) v

pub within-each : (limit : ℕ) (v : Vector) → within limit v ≡ true → Within limit v
unfolding within
within-each limit v e = each_map (λ x q. leb-true (nat_abs x) limit q) (every-each (λ x. leb (nat_abs x) limit) v e)

pub each_within : (limit : ℕ) {v : Vector} → Within limit v → within limit v ≡ true
unfolding within
each_within limit h = each-every (λ x. leb (nat_abs x) limit) (each_map (λ x q. le-leb (nat_abs x) limit q) h)

pub within_more : {a b : ℕ} → a ≤ b → {v : Vector} → Within a v → Within b v
within_more {a} {b} h = each_map (λ x (k : nat_abs x ≤ a). omega arith)

pub within-cell : (limit : ℕ) (v : Vector) → Within limit v → (i : ℕ) → nat_abs (get_or v i (pos 0)) ≤ limit
within-cell limit [] h i = omega arith
within-cell limit (x ∷ v) (each-cons k h) zero = k
within-cell limit (x ∷ v) (each-cons k h) (suc i) = within-cell limit v h i

pub within-negative : {limit : ℕ} {v : Vector} → Within limit v → Within limit (negative v)
unfolding negative
within-negative each_nil = each_nil
within-negative {limit} (each-cons {x = x} k h) = let e : nat_abs (neg_ℤ x) ≤ limit = omega (arith, abs_neg x) in each-cons e (within-negative h)

pub within-plus : {a b : ℕ} {u v : Vector} → Within a u → Within b v → Within (a + b) (plus u v)
unfolding plus
within-plus each_nil k = each_nil
within-plus (each-cons p h) each_nil = each_nil
within-plus {a} {b} (each-cons {x = x} p h) (each-cons {x = y} q k) = let e : nat_abs (x +ℤ y) ≤ a + b = omega (arith, abs-plus x y) in each-cons e (within-plus h k)

pub within-minus : {a b : ℕ} {u v : Vector} → Within a u → Within b v → Within (a + b) (minus u v)
unfolding minus
within-minus h k = within-plus h (within-negative k)

pub within-below : {limit : ℕ} (u v : Vector) → u ⊑ v → Within limit v → Within limit u
unfolding below
within-below [] v h t = each_nil
within-below (x ∷ u) [] h t = absurd h.test
within-below {limit} (x ∷ u) (y ∷ v) h (each-cons k t) = let e : nat_abs x ≤ limit = omega (arith, abs-below (head-below h)) in each-cons e (within-below u v (tail-below h) t)

within-drop : {limit : ℕ} (k : ℕ) {v : Vector} → Within limit v → Within limit (drop k v)
within-drop zero h = h
within-drop (suc k) each_nil = each_nil
within-drop (suc k) (each-cons p h) = within-drop k h

within-select : {limit : ℕ} (v a : Vector) → Within limit v → Within limit a → (s : Exchange) → Within limit (map (λ cell. get_or v (cell - 1) (pos 0)) s ++ a)
within-select v a t r [] = r
within-select {limit} v a t r (j ∷ s) = each-cons (within-cell limit v t (j - 1)) (within-select v a t r s)

pub within-exchanged : {limit : ℕ} (s : Exchange) {v : Vector} → Within limit v → Within limit (exchanged s v)
unfolding exchanged
within-exchanged s {v} t = within-select v (drop (length s) v) t (within-drop (length s) t) s

pub within_signed : {limit : ℕ} (b : Bool) {v : Vector} → Within limit v → Within limit (signed b v)
unfolding signed
within_signed true h = h
within_signed false h = within-negative h

pub within-orbit : {limit : ℕ} (table : List Exchange) (r v : Vector) → Within limit r → Memᴰ v (orbit table r) → Within limit v
within-orbit table r v h k = let x = of-orbit table r v k in subst (Within _) x.2.1 (within_signed x.2.0 (within-exchanged x.0 h))

pub within-row : {limit : ℕ} (table : List Exchange) (v : Vector) → Within limit v → Within limit (representative table v)
unfolding representative
within-row {limit} table v h = go (Memᴰ.cases_cons (greatest-member v (orbit table v)))
  where
    go : (representative table v ≡ v) ⊎ Memᴰ (representative table v) (orbit table v) → Within limit (representative table v)
    go (inl e) = subst (Within limit) (sym e) h
    go (inr k) = within-orbit table v (representative table v) h k

-- ---- the zero test
zero-weight : (v : Vector) → Within 0 v → weight v ≡ 0
unfolding weight
zero-weight [] h = refl
zero-weight (x ∷ v) (each-cons k h) = omega (arith, zero-weight v h)

weight-within : (v : Vector) → weight v ≡ 0 → Within 0 v
unfolding weight
weight-within [] e = each_nil
weight-within (x ∷ v) e = let k : nat_abs x ≤ 0 = omega arith in each-cons k (weight-within v (omega arith))

pub is-weightless : (v : Vector) → is_zero v ≡ true → weight v ≡ 0
unfolding is_zero
is-weightless v e = zero-weight v (within-each 0 v e)

pub is-zero : (v : Vector) → length v ≡ cells → is_zero v ≡ true → v ≡ zero_vector
is-zero v p e = weightless v p (is-weightless v e)

pub zero_is : {v : Vector} → v ≡ zero_vector → is_zero v ≡ true
unfolding is_zero
zero_is {v} e = each_within 0 (weight-within v (ap weight e ∙ weight-zero-vector))

pub not-zero : {v : Vector} → is_zero v ≡ false → ¬ (v ≡ zero_vector)
not-zero e f = clash (zero_is f) e

pub nonzero-not : {v : Vector} → length v ≡ cells → ¬ (v ≡ zero_vector) → is_zero v ≡ false
nonzero-not {v} p f = go (is_zero v) refl
  where
    go : (b : Bool) → is_zero v ≡ b → b ≡ false
    go true e = absurd (f (is-zero v p e))
    go false e = refl
