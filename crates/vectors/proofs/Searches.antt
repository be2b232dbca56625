-- A search of a list, place by place: in a loop the invariant is that the search of what is left is the whole search.
-- Assumes nothing.
use mathlib.Core.Path.{◌≡◌, refl, sym, ap, ◌∙◌}
use mathlib.Core.Bool.{Bool, true, false, ◌&&◌, ◌||◌}
use mathlib.Core.List.{List, [], ◌∷◌}
use Prim.Native.Nat.{ℕ, suc, ◌+◌, ◌≤◌, ◌<◌}
use native.Mathlib.Omega.{arith}
use native.Mathlib.Numerals.{add-one}
use lib.ListN.{length, get_or, drop, drop_of_length-le}
use lib.Seq.{drop-cons}
use Rattle.definitions.specs.Lists.{any, every}
use Rattle.std.specs.List.{list_all, list_any, range_with_len}
use Rattle.std.proofs.lemmas.List.Recursion.{same_from_clauses}

module _ {A : Type 0} (test : A → Bool) (d : A) (xs : List A) (i : ℕ) where
  -- one turn
  any-turn : i < length xs → any test (drop i xs) ≡ (test (get_or xs i d) || any test (drop (i + 1) xs))
  unfolding any
  any-turn h = rw (add-one i, drop-cons xs i d h)

  module _ {w : Bool} (left : any test (drop i xs) ≡ w) where
    -- the test holds at place i
    pub any_here : i < length xs → test (get_or xs i d) ≡ true → true ≡ w
    any_here h e = ap (λ (b : Bool). b || any test (drop (i + 1) xs)) (sym e) ∙ sym (any-turn h) ∙ left

    -- it does not: on to the next
    pub any_next : i < length xs → test (get_or xs i d) ≡ false → any test (drop (i + 1) xs) ≡ w
    any_next h e = ap (λ (b : Bool). b || any test (drop (i + 1) xs)) (sym e) ∙ sym (any-turn h) ∙ left

    -- no place is left
    pub any-end : length xs ≤ i → false ≡ w
    unfolding any
    any-end h = ap (any test) (sym (drop_of_length-le xs h)) ∙ left

-- std's `list_all` is the definitions' `every`
pub every_is : {A : Type 0} (test : A → Bool) (xs : List A) → list_all test xs ≡ every test xs
unfolding every
every_is test xs = same_from_clauses (list_all test) (every test) (λ x rest. test x && rest) refl (λ _ _. refl) (λ _ _. refl) xs

-- a search over the places of a list is one over its elements
module _ {A : Type 0} (test : A → Bool) (d : A) (at : ℕ → A) where
  any-from : (start : ℕ) (xs : List A) → ((p k : ℕ) → k < length xs → p ≡ start + k → at p ≡ get_or xs k d)
      → list_any (λ p. test (at p)) (range_with_len start (length xs)) ≡ any test xs
  unfolding any
  any-from start [] h = refl
  any-from start (x ∷ xs) h =
      rw (h start 0 (omega arith) (omega arith), any-from (start + 1) xs (λ p k l e. h p (suc k) (omega arith) (omega arith)))

pub any-places : {A : Type 0} (test : A → Bool) (d : A) (xs : List A) → list_any (λ p. test (get_or xs p d)) (range_with_len 0 (length xs)) ≡ any test xs
any-places test d xs = any-from test d (λ p. get_or xs p d) 0 xs (λ p k l e. ap (λ i. get_or xs i d) (omega arith))
