-- The tests of equality and membership say what they should. Assumes nothing.
use mathlib.Core.Path.{◌≡◌, refl, sym, ◌∙◌, ap}
use mathlib.Core.Bool.{Bool, true, false, ◌&&◌, ◌||◌, true≢false}
use mathlib.Core.List.{List, [], ◌∷◌, Memᴰ}
use borrow.Author.Tests.{eqb-true, eq-eqb}
use lib.IntN.{ℤ, pos, negsuc}
use Rattle.definitions.specs.Lists.{any}
use Rattle.definitions.specs.Vector.{Vector, equal, equal_cell, is_member}
use Rattle.theory.proofs.Tests.{and-true-left, and-true-right, clash}
use Rattle.theory.proofs.Members.{any_none, each_member}
use Rattle.theory.proofs.Vector.{cons_same}

equal-cell : (x y : ℤ) → equal_cell x y ≡ true → x ≡ y
unfolding equal_cell
equal-cell (pos a) (pos b) e = ap pos (eqb-true a b e)
equal-cell (pos a) (negsuc b) e = absurd (true≢false (sym e))
equal-cell (negsuc a) (pos b) e = absurd (true≢false (sym e))
equal-cell (negsuc a) (negsuc b) e = ap negsuc (eqb-true a b e)

cell-equal : (x : ℤ) → equal_cell x x ≡ true
unfolding equal_cell
cell-equal (pos a) = eq-eqb a a refl
cell-equal (negsuc a) = eq-eqb a a refl

pub equal-same : (u v : Vector) → equal u v ≡ true → u ≡ v
unfolding equal
equal-same [] [] e = refl
equal-same [] (y ∷ v) e = absurd (true≢false (sym e))
equal-same (x ∷ u) [] e = absurd (true≢false (sym e))
equal-same (x ∷ u) (y ∷ v) e =
    cons_same (equal-cell x y (and-true-left (equal_cell x y) (equal u v) e)) (equal-same u v (and-true-right (equal_cell x y) (equal u v) e))

pub same-equal : (v : Vector) → equal v v ≡ true
unfolding equal
same-equal [] = refl
same-equal (x ∷ v) = ap (λ (b : Bool). b && equal v v) (cell-equal x) ∙ same-equal v

pub is_member_lem : (v : Vector) (vs : List Vector) → is_member v vs ≡ true → Memᴰ v vs
unfolding is_member any
is_member_lem v [] e = absurd (true≢false (sym e))
is_member_lem v (u ∷ vs) e = go (equal u v) refl e (λ f. is_member_lem v vs f)
  where
    go : (b : Bool) → equal u v ≡ b → (b || any (λ w. equal w v) vs) ≡ true → (any (λ w. equal w v) vs ≡ true → Memᴰ v vs) → Memᴰ v (u ∷ vs)
    go true q f again = Memᴰ.head (sym (equal-same u v q))
    go false q f again = Memᴰ.tail (again f)

pub not-member : (v : Vector) (vs : List Vector) → is_member v vs ≡ false → ¬ (Memᴰ v vs)
unfolding is_member
not-member v vs e k = clash (same-equal v) (each_member (any_none (λ w. equal w v) vs e) k)

pub member_is : {v : Vector} {vs : List Vector} → Memᴰ v vs → is_member v vs ≡ true
member_is {v} {vs} k = go (is_member v vs) refl
  where
    go : (b : Bool) → is_member v vs ≡ b → b ≡ true
    go true e = refl
    go false e = absurd (not-member v vs e k)

pub member-not : {v : Vector} {vs : List Vector} → ¬ (Memᴰ v vs) → is_member v vs ≡ false
member-not {v} {vs} f = go (is_member v vs) refl
  where
    go : (b : Bool) → is_member v vs ≡ b → b ≡ false
    go true e = absurd (f (is_member_lem v vs e))
    go false e = refl
