-- The first difference of two sequences, place by place; and a list area of two halves. Assumes nothing.
use Rattle.definitions.specs.Refusals.{no_fault, fault_at}
use mathlib.Core.Path.{◌≡◌, refl, sym, ◌∙◌, ap, ap₂}
use mathlib.Core.Bool.{Bool, true, false, cond, ◌&&◌}
use mathlib.Core.List.{List, [], ◌∷◌}
use Prim.Native.Nat.{ℕ, suc, ◌+◌, ◌*◌, ◌/◌, ◌%◌, ◌≤◌, ◌<◌}
use native.Mathlib.Nat.{div-add-mod, mul-div_left, mul-mod_left}
use native.Mathlib.Numerals.{add-one}
use native.Mathlib.Omega.{arith}
use borrow.Author.Tests.{eq-eqb, eqb-false, eqb-true, ne_eqb}
use lib.Dec.{eqb}
use lib.ListN.{length, get_or, drop, length-drop}
use lib.Seq.{drop-cons}
use Rattle.definitions.specs.Session.{difference_from, half}

-- a list of no elements
pub nothing : {A : Type 0} (list : List A) → length list ≡ 0 → list ≡ []
nothing [] e = refl
nothing (x ∷ list) e = absurd (omega arith)

gone : (xs : List ℕ) (p : ℕ) → length xs ≤ p → drop p xs ≡ []
gone xs p h = nothing (drop p xs) (omega (arith, length-drop p xs))

module _ (n p : ℕ) (xs ys : List ℕ) where
  -- the second is at its end
  pub differ-short : p < length xs → length ys ≤ p → difference_from n p (drop p xs) (drop p ys) ≡ fault_at 9 (p / n)
  unfolding difference_from
  differ-short h k = ap₂ (difference_from n p) (drop-cons xs p 0 h) (gone ys p k)

  -- the first is
  pub differ-long : length xs ≤ p → p < length ys → difference_from n p (drop p xs) (drop p ys) ≡ fault_at 9 (p / n)
  unfolding difference_from
  differ-long h k = ap₂ (difference_from n p) (gone xs p h) (drop-cons ys p 0 k)

  -- both are
  pub differ-end : length xs ≤ p → length ys ≤ p → difference_from n p (drop p xs) (drop p ys) ≡ no_fault
  unfolding difference_from
  differ-end h k = ap₂ (difference_from n p) (gone xs p h) (gone ys p k)

  module _ (h : p < length xs) (k : p < length ys) where
    pub differ-here : (get_or xs p 0 ≡ get_or ys p 0 → ⊥) → difference_from n p (drop p xs) (drop p ys) ≡ fault_at 9 (p / n)
    unfolding difference_from
    differ-here e =
        ap₂ (difference_from n p) (drop-cons xs p 0 h) (drop-cons ys p 0 k)
        ∙ ap (λ (b : Bool). cond b (difference_from n (suc p) (drop (suc p) xs) (drop (suc p) ys)) (fault_at 9 (p / n)))
        (ne_eqb (get_or xs p 0) (get_or ys p 0) e)

    pub differ-next : get_or xs p 0 ≡ get_or ys p 0
        → difference_from n (p + 1) (drop (p + 1) xs) (drop (p + 1) ys) ≡ difference_from n p (drop p xs) (drop p ys)
    unfolding difference_from
    differ-next e =
        ap (λ (m : ℕ). difference_from n m (drop m xs) (drop m ys)) (add-one p)
        ∙ sym (ap (λ (b : Bool). cond b (difference_from n (suc p) (drop (suc p) xs) (drop (suc p) ys)) (fault_at 9 (p / n)))
        (eq-eqb (get_or xs p 0) (get_or ys p 0) e))
        ∙ sym (ap₂ (difference_from n p) (drop-cons xs p 0 h) (drop-cons ys p 0 k))

-- ---- a list area of two halves, without a product that may not fit
pub size-test : (n list : ℕ) → (eqb (list % 128) 0 && eqb (list / 128) n) ≡ eqb list (half n + half n)
unfolding half
size-test n list = go (eqb list (half n + half n)) refl
  where
    twice : half n + half n ≡ n * 128
    twice = omega arith

    other : eqb list (half n + half n) ≡ false → (a b : Bool) → eqb (list % 128) 0 ≡ a → eqb (list / 128) n ≡ b
        → (a && b) ≡ false
    other e true true p q =
        let x = eqb-true (list % 128) 0 p in
        let y = eqb-true (list / 128) n q in
        absurd (eqb-false list (half n + half n) e (omega (arith, div-add-mod list 128, x, y)))
    other e true false p q = refl
    other e false b p q = refl

    go : (b : Bool) → eqb list (half n + half n) ≡ b
        → (eqb (list % 128) 0 && eqb (list / 128) n) ≡ eqb list (half n + half n)
    go true e =
        let z = eqb-true list (half n + half n) e ∙ twice in
        ap₂ ◌&&◌ (eq-eqb (list % 128) 0 (ap (λ (k : ℕ). k % 128) z ∙ mul-mod_left n 128))
        (eq-eqb (list / 128) n (ap (λ (k : ℕ). k / 128) z ∙ mul-div_left n (omega arith)))
        ∙ sym e
    go false e = other e (eqb (list % 128) 0) (eqb (list / 128) n) refl refl ∙ sym e
