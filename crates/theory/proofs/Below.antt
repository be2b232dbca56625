-- The relation "below" on vectors, and sums whose summands oppose one another in no cell.
-- Assumes nothing.
use mathlib.Core.Path.{◌≡◌, refl, sym, ◌∙◌, ap, subst}
use mathlib.Core.Bool.{Bool, true, false, not, ◌&&◌, ◌||◌}
use mathlib.Core.List.{[], ◌∷◌}
use Prim.Native.Nat.{ℕ, zero, suc, ◌+◌, ◌≤◌}
use native.Mathlib.Omega.{arith}
use lib.Dec.{T, leb, eqb, leb→le, eqb→eq}
use lib.Signed.{non_neg}
use lib.ListN.{length}
use lib.IntN.{ℤ, ◌*ℤ◌, nat_abs}
use Rattle.definitions.specs.Limits.{cells}
use Rattle.definitions.specs.Vector.{Vector, below, cell_below, cell_opposes, minus, negative, opposes, plus, weight, zero_vector, zeros}
use Rattle.theory.proofs.Cell.{CellBelow, abs-agree-plus, abs-below, abs-common, abs-plus, abs-rest, and_left, and_right, both, cell_agree, cell-antisym, cell-complete, cell-neg, cell-refl, cell-rest, cell-sound, cell-trans, cell-zero}
use Rattle.theory.proofs.Vector.{cons_same, length-minus, plus-minus, plus-zeros, weight-plus, weight-zero}

-- u lies below v
infix 4 ◌⊑◌
pub record ◌⊑◌ (u v : Vector) : Type 0 where
  pub test : T (below u v)

pub cons-below : {x y : ℤ} {u v : Vector} → CellBelow x y → u ⊑ v → (x ∷ u) ⊑ (y ∷ v)
unfolding cell_below below
cons-below {x} {y} {u} {v} c h = record { test = both (cell_below x y) (below u v) (cell-complete x y c) h.test }

pub head-below : {x y : ℤ} {u v : Vector} → (x ∷ u) ⊑ (y ∷ v) → CellBelow x y
unfolding cell_below below
head-below {x} {y} {u} {v} h = cell-sound x y (and_left (cell_below x y) (below u v) h.test)

pub tail-below : {x y : ℤ} {u v : Vector} → (x ∷ u) ⊑ (y ∷ v) → u ⊑ v
unfolding cell_below below
tail-below {x} {y} {u} {v} h = record { test = and_right (cell_below x y) (below u v) h.test }

pub ⊑-length : {u v : Vector} → u ⊑ v → length u ≡ length v
unfolding below
⊑-length {u = []} {v = []} h = refl
⊑-length {u = []} {v = y ∷ v} h = absurd h.test
⊑-length {u = x ∷ u} {v = []} h = absurd h.test
⊑-length {u = x ∷ u} {v = y ∷ v} h = ap suc (⊑-length (tail-below h))

pub ⊑_refl : (v : Vector) → v ⊑ v
unfolding below
⊑_refl [] = record { test = tt }
⊑_refl (x ∷ v) = cons-below (cell-refl x) (⊑_refl v)

pub ⊑_trans : {u v w : Vector} → u ⊑ v → v ⊑ w → u ⊑ w
unfolding below
⊑_trans {u = []} {v = []} {w} h k = k
⊑_trans {u = []} {v = y ∷ v} {w} h k = absurd h.test
⊑_trans {u = x ∷ u} {v = []} {w} h k = absurd h.test
⊑_trans {u = x ∷ u} {v = y ∷ v} {w = []} h k = absurd k.test
⊑_trans {u = x ∷ u} {v = y ∷ v} {w = z ∷ w} h k = cons-below (cell-trans (head-below h) (head-below k)) (⊑_trans (tail-below h) (tail-below k))

pub ⊑-antisym : {u v : Vector} → u ⊑ v → v ⊑ u → u ≡ v
unfolding below
⊑-antisym {u = []} {v = []} h k = refl
⊑-antisym {u = []} {v = y ∷ v} h k = absurd h.test
⊑-antisym {u = x ∷ u} {v = []} h k = absurd h.test
⊑-antisym {u = x ∷ u} {v = y ∷ v} h k = cons_same (cell-antisym (head-below h) (head-below k)) (⊑-antisym (tail-below h) (tail-below k))

pub ⊑-zeros : (n : ℕ) (v : Vector) → length v ≡ n → zeros n ⊑ v
unfolding zeros below
⊑-zeros zero [] p = record { test = tt }
⊑-zeros zero (x ∷ v) p = absurd (omega arith)
⊑-zeros (suc n) [] p = absurd (omega arith)
⊑-zeros (suc n) (x ∷ v) p = cons-below (cell-zero x) (⊑-zeros n v (omega arith))

pub ⊑-negative : {u v : Vector} → u ⊑ v → negative u ⊑ negative v
unfolding negative below
⊑-negative {u = []} {v = []} h = h
⊑-negative {u = []} {v = y ∷ v} h = absurd h.test
⊑-negative {u = x ∷ u} {v = []} h = absurd h.test
⊑-negative {u = x ∷ u} {v = y ∷ v} h = cons-below (cell-neg (head-below h)) (⊑-negative (tail-below h))

pub ⊑-weight : {u v : Vector} → u ⊑ v → weight u ≤ weight v
unfolding weight below
⊑-weight {u = []} {v = []} h = omega arith
⊑-weight {u = []} {v = y ∷ v} h = absurd h.test
⊑-weight {u = x ∷ u} {v = []} h = absurd h.test
⊑-weight {u = x ∷ u} {v = y ∷ v} h = omega (arith, abs-below (head-below h), ⊑-weight (tail-below h))

-- what is left of v after a vector below it is below v too, and the two weights add up
pub ⊑-rest : {u v : Vector} → u ⊑ v → minus v u ⊑ v
unfolding plus negative minus below
⊑-rest {u = []} {v = []} h = h
⊑-rest {u = []} {v = y ∷ v} h = absurd h.test
⊑-rest {u = x ∷ u} {v = []} h = absurd h.test
⊑-rest {u = x ∷ u} {v = y ∷ v} h = cons-below (cell-rest (head-below h)) (⊑-rest (tail-below h))

pub weight-rest : {u v : Vector} → u ⊑ v → weight v ≡ weight u + weight (minus v u)
unfolding plus negative minus weight below
weight-rest {u = []} {v = []} h = refl
weight-rest {u = []} {v = y ∷ v} h = absurd h.test
weight-rest {u = x ∷ u} {v = []} h = absurd h.test
weight-rest {u = x ∷ u} {v = y ∷ v} h = omega (arith, abs-rest (head-below h), weight-rest (tail-below h))

-- below, and of one weight: the same
pub ⊑-same-weight : {u v : Vector} → u ⊑ v → weight u ≡ weight v → u ≡ v
unfolding plus negative minus weight
⊑-same-weight {u} {v} h e =
    let p = ⊑-length h in
    let z = weight-zero (length v) (minus v u) (length-minus (length v) v u refl p) (omega (arith, weight-rest h)) in
    sym (plus-zeros (length v) u p) ∙ ap (plus u) (sym z) ∙ plus-minus (length v) v u refl p

-- ---- Two vectors agree where their weights add up: they oppose one another in no cell (see Opposed).
pub agree-below : (u v : Vector) → length u ≡ length v → weight (plus u v) ≡ weight u + weight v → u ⊑ plus u v
unfolding plus weight below
agree-below [] v p h = record { test = tt }
agree-below (x ∷ u) [] p h = absurd (omega arith)
agree-below (x ∷ u) (y ∷ v) p h =
    cons-below (cell_agree x y (omega (arith, abs-plus x y, weight-plus u v))) (agree-below u v (omega arith) (omega (arith, abs-plus x y, weight-plus u v)))

pub agree-plus : (u v w : Vector) → length u ≡ length v → length u ≡ length w
    → weight (plus u v) ≡ weight u + weight v → weight (plus u w) ≡ weight u + weight w → weight (plus u (plus v w)) ≡ weight u + weight (plus v w)
unfolding plus weight
agree-plus [] [] w p q h k = refl
agree-plus [] (y ∷ v) w p q h k = absurd (omega arith)
agree-plus (x ∷ u) [] w p q h k = absurd (omega arith)
agree-plus (x ∷ u) (y ∷ v) [] p q h k = absurd (omega arith)
agree-plus (x ∷ u) (y ∷ v) (z ∷ w) p q h k =
    omega (
      arith,
      abs-agree-plus x y z (omega (arith, abs-plus x y, weight-plus u v)) (omega (arith, abs-plus x z, weight-plus u w)),
      agree-plus u v w (omega arith) (omega arith) (omega (arith, abs-plus x y, weight-plus u v)) (omega (arith, abs-plus x z, weight-plus u w)),
    )

-- two vectors below a third agree
pub common-agree : {u v w : Vector} → u ⊑ w → v ⊑ w → weight (plus u v) ≡ weight u + weight v
unfolding plus weight below
common-agree {u = []} {v = []} {w} h k = refl
common-agree {u = []} {v = y ∷ v} {w} h k = absurd (omega (arith, ⊑-length h, ⊑-length k))
common-agree {u = x ∷ u} {v = []} {w} h k = absurd (omega (arith, ⊑-length h, ⊑-length k))
common-agree {u = x ∷ u} {v = y ∷ v} {w = []} h k = absurd h.test
common-agree {u = x ∷ u} {v = y ∷ v} {w = z ∷ w} h k =
    omega (arith, abs-common (head-below h) (head-below k), common-agree (tail-below h) (tail-below k))

pub ⊑-zero : (v : Vector) → length v ≡ cells → zero_vector ⊑ v
unfolding zero_vector
⊑-zero v p = ⊑-zeros cells v p

-- the test decides the relation
pub ⊑-decide : (u v : Vector) → Dec (u ⊑ v)
⊑-decide u v = go (below u v) refl
  where
    go : (b : Bool) → below u v ≡ b → Dec (u ⊑ v)
    go true e = yes (record { test = subst T (sym e) tt })
    go false e = no (λ h. subst T e h.test)

pub yes-below : {u v : Vector} → u ⊑ v → below u v ≡ true
yes-below {u} {v} h = go (below u v) h.test
  where
    go : (b : Bool) → T b → b ≡ true
    go true t = refl
    go false t = absurd t

pub not-below : {u v : Vector} → ¬ (u ⊑ v) → below u v ≡ false
not-below {u} {v} h = go (below u v) refl
  where
    go : (b : Bool) → below u v ≡ b → b ≡ false
    go true e = absurd (h (record { test = subst T (sym e) tt }))
    go false e = refl

-- a vector below v opposes it in no cell (Specification 2.3)
cell-unopposed : (x y : ℤ) → T (cell_below x y) → cell_opposes x y ≡ false
unfolding cell_below cell_opposes
cell-unopposed x y t = go (non_neg (x *ℤ y)) (leb (nat_abs x) (nat_abs y)) t (leb→le (nat_abs x) (nat_abs y))
  where
    none : nat_abs x ≤ nat_abs y → (eqb (nat_abs y) 0 && not (eqb (nat_abs x) 0)) ≡ false
    none h = last (eqb (nat_abs y) 0) (eqb→eq (nat_abs y) 0)
      where
        last : (b : Bool) → (T b → nat_abs y ≡ 0) → (b && not (eqb (nat_abs x) 0)) ≡ false
        last true f = let e : nat_abs x ≡ 0 = (let z = f tt in omega arith) in ap (λ (k : ℕ). not (eqb k 0)) e
        last false f = refl

    go : (a b : Bool) → T (a && b) → (T b → nat_abs x ≤ nat_abs y) → (not a || (eqb (nat_abs y) 0 && not (eqb (nat_abs x) 0))) ≡ false
    go true true t f = none (f tt)
    go true false t f = absurd t
    go false b t f = absurd t

pub unopposed : {u v : Vector} → u ⊑ v → opposes u v ≡ false
unfolding below opposes
unopposed {u = []} {v = []} h = refl
unopposed {u = []} {v = y ∷ v} h = absurd h.test
unopposed {u = x ∷ u} {v = []} h = absurd h.test
unopposed {u = x ∷ u} {v = y ∷ v} h =
    ap (λ (b : Bool). b || opposes u v) (cell-unopposed x y (and_left (cell_below x y) (below u v) h.test)) ∙ unopposed (tail-below h)
