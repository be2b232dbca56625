-- The sum of vectors: laws of a commutative group on the vectors of one length.
-- Assumes nothing.
use mathlib.Core.Path.{◌≡◌, refl, sym, ◌∙◌, ap}
use mathlib.Core.Logic.{◌≢◌}
use mathlib.Core.List.{[], ◌∷◌}
use Prim.Native.Nat.{ℕ, zero, suc, ◌+◌, ◌≤◌, ◌<◌}
use native.Mathlib.Omega.{arith}
use lib.ListN.{length}
use lib.IntN.{ℤ, +ℤ_idl, +ℤ_assoc, +ℤ_comm, +ℤ_invr, neg_ℤ-+ℤ, neg_ℤ-neg_ℤ}
use Rattle.definitions.specs.Limits.{cells}
use Rattle.definitions.specs.Vector.{Vector, minus, negative, plus, weight, zero_vector, zeros}
use Rattle.theory.proofs.Cell.{abs_neg, abs-plus, abs-zero}

pub cons_same : {x y : ℤ} {u v : Vector} → x ≡ y → u ≡ v → ◌≡◌ {A = Vector} (x ∷ u) (y ∷ v)
cons_same p q = λ i. p i ∷ q i

-- ---- lengths
pub length-zeros : (n : ℕ) → length (zeros n) ≡ n
unfolding zeros
length-zeros zero = refl
length-zeros (suc n) = ap suc (length-zeros n)

pub length-negative : (v : Vector) → length (negative v) ≡ length v
unfolding negative
length-negative [] = refl
length-negative (x ∷ v) = ap suc (length-negative v)

pub length-plus : (n : ℕ) (u v : Vector) → length u ≡ n → length v ≡ n → length (plus u v) ≡ n
unfolding plus
length-plus n [] v p q = p
length-plus n (x ∷ u) [] p q = q
length-plus zero (x ∷ u) (y ∷ v) p q = absurd (omega arith)
length-plus (suc n) (x ∷ u) (y ∷ v) p q = ap suc (length-plus n u v (omega arith) (omega arith))

pub length-minus : (n : ℕ) (u v : Vector) → length u ≡ n → length v ≡ n → length (minus u v) ≡ n
unfolding negative plus minus
length-minus n u v p q = length-plus n u (negative v) p (length-negative v ∙ q)

-- ---- the group laws
pub plus_comm : (u v : Vector) → plus u v ≡ plus v u
unfolding plus
plus_comm [] [] = refl
plus_comm [] (y ∷ v) = refl
plus_comm (x ∷ u) [] = refl
plus_comm (x ∷ u) (y ∷ v) = cons_same (+ℤ_comm x y) (plus_comm u v)

pub plus_assoc : (u v w : Vector) → plus (plus u v) w ≡ plus u (plus v w)
unfolding plus
plus_assoc [] v w = refl
plus_assoc (x ∷ u) [] w = refl
plus_assoc (x ∷ u) (y ∷ v) [] = refl
plus_assoc (x ∷ u) (y ∷ v) (z ∷ w) = cons_same (+ℤ_assoc x y z) (plus_assoc u v w)

-- a sum of three, the second brought to the front
pub plus-swap : (u v w : Vector) → plus u (plus v w) ≡ plus v (plus u w)
unfolding plus
plus-swap u v w = sym (plus_assoc u v w) ∙ ap (λ (t : Vector). plus t w) (plus_comm u v) ∙ plus_assoc v u w

pub zeros-plus : (n : ℕ) (v : Vector) → length v ≡ n → plus (zeros n) v ≡ v
unfolding zeros plus
zeros-plus zero [] p = refl
zeros-plus zero (x ∷ v) p = absurd (omega arith)
zeros-plus (suc n) [] p = absurd (omega arith)
zeros-plus (suc n) (x ∷ v) p = cons_same (+ℤ_idl x) (zeros-plus n v (omega arith))

pub plus-zeros : (n : ℕ) (v : Vector) → length v ≡ n → plus v (zeros n) ≡ v
unfolding zeros plus
plus-zeros n v p = plus_comm v (zeros n) ∙ zeros-plus n v p

pub minus-self : (n : ℕ) (v : Vector) → length v ≡ n → minus v v ≡ zeros n
unfolding zeros plus negative minus
minus-self zero [] p = refl
minus-self zero (x ∷ v) p = absurd (omega arith)
minus-self (suc n) [] p = absurd (omega arith)
minus-self (suc n) (x ∷ v) p = cons_same (+ℤ_invr x) (minus-self n v (omega arith))

-- v and what is left of u
pub plus-minus : (n : ℕ) (u v : Vector) → length u ≡ n → length v ≡ n → plus v (minus u v) ≡ u
unfolding plus negative minus
plus-minus n u v p q = plus-swap v u (negative v) ∙ ap (plus u) (minus-self n v q) ∙ plus-zeros n u p

pub minus_plus : (n : ℕ) (u v : Vector) → length u ≡ n → length v ≡ n → minus (plus u v) v ≡ u
unfolding plus negative minus
minus_plus n u v p q = plus_assoc u v (negative v) ∙ ap (plus u) (minus-self n v q) ∙ plus-zeros n u p

pub negative-negative : (v : Vector) → negative (negative v) ≡ v
unfolding negative
negative-negative [] = refl
negative-negative (x ∷ v) = cons_same (neg_ℤ-neg_ℤ x) (negative-negative v)

pub negative-plus : (u v : Vector) → negative (plus u v) ≡ plus (negative u) (negative v)
unfolding plus negative
negative-plus [] v = refl
negative-plus (x ∷ u) [] = refl
negative-plus (x ∷ u) (y ∷ v) = cons_same (neg_ℤ-+ℤ x y) (negative-plus u v)

pub negative-zeros : (n : ℕ) → negative (zeros n) ≡ zeros n
unfolding zeros negative
negative-zeros zero = refl
negative-zeros (suc n) = cons_same refl (negative-zeros n)

-- ---- the weight
pub weight-zeros : (n : ℕ) → weight (zeros n) ≡ zero
unfolding zeros weight
weight-zeros zero = refl
weight-zeros (suc n) = omega (arith, weight-zeros n)

pub weight-zero : (n : ℕ) (v : Vector) → length v ≡ n → weight v ≡ zero → v ≡ zeros n
unfolding zeros weight
weight-zero zero [] p h = refl
weight-zero zero (x ∷ v) p h = absurd (omega arith)
weight-zero (suc n) [] p h = absurd (omega arith)
weight-zero (suc n) (x ∷ v) p h = cons_same (abs-zero x (omega arith)) (weight-zero n v (omega arith) (omega arith))

pub weight-negative : (v : Vector) → weight (negative v) ≡ weight v
unfolding negative weight
weight-negative [] = refl
weight-negative (x ∷ v) = omega (arith, abs_neg x, weight-negative v)

-- the triangle inequality
pub weight-plus : (u v : Vector) → weight (plus u v) ≤ weight u + weight v
unfolding plus weight
weight-plus [] v = omega arith
weight-plus (x ∷ u) [] = omega arith
weight-plus (x ∷ u) (y ∷ v) = omega (arith, abs-plus x y, weight-plus u v)

-- ---- the zero vector of `cells` cells
pub length-zero : length zero_vector ≡ cells
unfolding zero_vector
length-zero = length-zeros cells

pub zero-plus : (v : Vector) → length v ≡ cells → plus zero_vector v ≡ v
unfolding zero_vector
zero-plus v p = zeros-plus cells v p

pub plus-zero : (v : Vector) → length v ≡ cells → plus v zero_vector ≡ v
unfolding zero_vector
plus-zero v p = plus-zeros cells v p

pub minus-itself : (v : Vector) → length v ≡ cells → minus v v ≡ zero_vector
unfolding zero_vector
minus-itself v p = minus-self cells v p

pub negative-zero : negative zero_vector ≡ zero_vector
unfolding zero_vector
negative-zero = negative-zeros cells

pub weight-zero-vector : weight zero_vector ≡ zero
unfolding zero_vector
weight-zero-vector = weight-zeros cells

-- a vector of weight 0 is the zero vector
pub weightless : (v : Vector) → length v ≡ cells → weight v ≡ zero → v ≡ zero_vector
unfolding zero_vector
weightless v p h = weight-zero cells v p h

-- a nonzero vector has a weight
pub weight-positive : (v : Vector) → length v ≡ cells → v ≢ zero_vector → zero < weight v
weight-positive v p h = go (weight v) refl
  where
    go : (w : ℕ) → weight v ≡ w → zero < w
    go zero e = absurd (h (weightless v p e))
    go (suc w) e = omega arith
