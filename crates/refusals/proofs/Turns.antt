-- Laws of loops over places: at place i the loop's invariant is that what is left of a test is the whole of it. And of
-- searches of places. Assumes nothing.
use Rattle.definitions.specs.Refusals.{Fault, no_fault, fault_at}
use Rattle.std.proofs.Common.{◌≡◌, refl, sym, ap, ◌∙◌, Bool, true, false, not, ℕ, suc, ◌+◌, ◌-◌, ◌≤◌, ◌<◌, List, [], ◌∷◌, length, get_or, add-zero, zero-add, arith}
use borrow.Author.Tests.{le-leb, lt-leb}
use lib.IntN.{ℤ, nat_abs}
use Rattle.std.specs.List.{list_any, range_with_len}
use Rattle.definitions.specs.Lists.{any}
use Rattle.definitions.specs.Refusals.{fault_from, is_past}
use Rattle.theory.proofs.Faults.{fault-next, fault-here, fault-end}

-- ---- a test of places (Specification 7.1)
module _ (number count : ℕ) (met : ℕ → Bool) (i : ℕ) {w : Fault} (left : fault_from number i (count - i) met ≡ w) where
  -- it is met at place i
  pub met-here : i < count → met i ≡ true → fault_at number i ≡ w
  met-here h e = sym (fault-here number i count met h e) ∙ left

  -- it is not: on to the next
  pub met_next : i < count → met i ≡ false → fault_from number (i + 1) (count - (i + 1)) met ≡ w
  met_next h e = sym (fault-next number i count met h e) ∙ left

  -- no place is left
  pub met-end : count ≤ i → no_fault ≡ w
  met-end h = sym (fault-end number i count met h) ∙ left

-- ---- a search of places is the search of the list
module _ {A : Type 0} (test : A → Bool) (d : A) where
  places-from : (due : ℕ → Bool) (a : ℕ) (xs : List A) → ((i : ℕ) → i < length xs → due (a + i) ≡ test (get_or xs i d)) → list_any due (range_with_len a (length xs)) ≡ any test xs
  unfolding any
  places-from due a [] h = refl
  places-from due a (x ∷ xs) h =
      let first : due a ≡ test x = ap due (sym (add-zero a)) ∙ h 0 (omega arith) in
      let rest = places-from due (a + 1) xs (λ i l. ap due (sum a i) ∙ h (suc i) (omega arith)) in
      cc
    where
      sum : (a i : ℕ) → a + 1 + i ≡ a + suc i
      sum a i = omega arith

  pub any-places : (xs : List A) → list_any (λ p. test (get_or xs p d)) (range_with_len 0 (length xs)) ≡ any test xs
  any-places xs = places-from (λ p. test (get_or xs p d)) 0 xs (λ i l. ap (λ (k : ℕ). test (get_or xs k d)) (zero-add i))

-- ---- a number

-- it is past its limit
pub is-past : (limit : ℕ) (x : ℤ) → limit < nat_abs x → is_past limit x ≡ true
unfolding is_past
is-past limit x h = ap not (lt-leb (nat_abs x) limit h)

-- it is not
pub not-past : (limit : ℕ) (x : ℤ) → nat_abs x ≤ limit → is_past limit x ≡ false
unfolding is_past
not-past limit x h = ap not (le-leb (nat_abs x) limit h)
