-- Laws of the tests, as a loop over places uses them: at place i the loop's invariant is that what is left, `fault_from number i (count - i) met`, is the whole test.
-- Assumes nothing.
use Rattle.definitions.specs.declared.Refusal.{Refusal}
use Rattle.std.specs.declared.result.Result.TheVariants.{Err}
use Rattle.definitions.specs.Refusals.{Fault, no_fault, fault_at}
use mathlib.Core.Path.{◌≡◌, refl, sym, ◌∙◌, ap, subst}
use mathlib.Core.Logic.{◌↔◌, ◌⊎◌, inl, inr}
use mathlib.Core.Bool.{Bool, true, false, cond}
use mathlib.Core.List.{List, ◌∷◌, [], ◌++◌}
use Prim.Native.Nat.{ℕ, zero, suc, ◌+◌, ◌-◌, ◌≤◌, ◌<◌}
use native.Mathlib.Decide.{ℕ_discrete}
use native.Mathlib.Numerals.{add-one}
use native.Mathlib.Omega.{arith}
use Rattle.definitions.specs.Refusals.{Outcome, accepted, fault_from, fault_if, fault_where, first_fault, refused, unless_fault}
use Rattle.theory.proofs.Cell.{same}

-- one more place is left
left-more : {i count : ℕ} → i < count → count - i ≡ suc (count - (i + 1))
left-more h = omega arith

-- the test is not met at place i: on to the next
pub fault-next : (number i count : ℕ) (met : ℕ → Bool) → i < count → met i ≡ false → fault_from number i (count - i) met ≡ fault_from number (i + 1) (count - (i + 1)) met
unfolding fault_from
fault-next number i count met h e =
    ap (λ (k : ℕ). fault_from number i k met) (left-more h) ∙ ap (λ (b : Bool). cond b (fault_at number i) (fault_from number (suc i) (count - (i + 1)) met)) e
    ∙ ap (λ (k : ℕ). fault_from number k (count - (i + 1)) met) (sym (add-one i))

-- it is met
pub fault-here : (number i count : ℕ) (met : ℕ → Bool) → i < count → met i ≡ true → fault_from number i (count - i) met ≡ fault_at number i
unfolding fault_from
fault-here number i count met h e =
    ap (λ (k : ℕ). fault_from number i k met) (left-more h) ∙ ap (λ (b : Bool). cond b (fault_at number i) (fault_from number (suc i) (count - (i + 1)) met)) e

-- no place is left
pub fault-end : (number i count : ℕ) (met : ℕ → Bool) → count ≤ i → fault_from number i (count - i) met ≡ no_fault
unfolding fault_from
fault-end number i count met h = ap (λ (k : ℕ). fault_from number i k met) (none_left h)
  where
    none_left : count ≤ i → count - i ≡ 0
    none_left h = omega arith

-- the whole test, at the start of the loop
pub fault-start : (number count : ℕ) (met : ℕ → Bool) → fault_from number 0 (count - 0) met ≡ fault_where number count met
unfolding fault_where
fault-start number count met = ap (λ (k : ℕ). fault_from number 0 k met) (all count)
  where
    all : (count : ℕ) → count - 0 ≡ count
    all count = omega arith

-- a list of tests: the first is not met, or it is
pub first_next : (faults : List Fault) → first_fault (no_fault ∷ faults) ≡ first_fault faults
unfolding first_fault
first_next faults = refl

pub first-here : (number place : ℕ) (faults : List Fault) → first_fault (fault_at number place ∷ faults) ≡ fault_at number place
unfolding first_fault
first-here number place faults = refl

-- ---- tests one after the other
first_one : (fault : Fault) → first_fault (fault ∷ []) ≡ fault
unfolding first_fault
first_one no_fault = refl
first_one (Err r) = refl

pub first-append : (fs gs : List Fault) → first_fault (fs ++ gs) ≡ first_fault (first_fault fs ∷ gs)
unfolding first_fault
first-append [] gs = refl
first-append (no_fault ∷ fs) gs = first-append fs gs
first-append (Err r ∷ fs) gs = refl

pub first-nested : (fault : Fault) (fs : List Fault) → first_fault (fault ∷ fs) ≡ first_fault (fault ∷ first_fault fs ∷ [])
unfolding first_fault
first-nested no_fault fs = sym (first_one (first_fault fs))
first-nested (Err r) fs = refl

-- the first test is met
pub met-first : {fault : Fault} (number place : ℕ) (fs : List Fault) → fault ≡ fault_at number place → fault_at number place ≡ first_fault (fault ∷ fs)
met-first number place fs e = sym (ap (λ (f : Fault). first_fault (f ∷ fs)) e ∙ first-here number place fs)

-- it is not met, and then it is the other tests that count
pub unmet-first : {fault : Fault} (fs : List Fault) → fault ≡ no_fault → first_fault fs ≡ first_fault (fault ∷ fs)
unmet-first fs e = sym (ap (λ (f : Fault). first_fault (f ∷ fs)) e ∙ first_next fs)

pub unmet-second : {fault : Fault} (second : Fault) → fault ≡ no_fault → second ≡ first_fault (fault ∷ second ∷ [])
unmet-second second e = sym (first_one second) ∙ unmet-first (second ∷ []) e

-- ---- a test that is not met

IsAt : Fault → Type 0
IsAt no_fault = ⊥
IsAt (Err r) = Unit {0}

from-none : (number place count : ℕ) (met : ℕ → Bool) → fault_from number place count met ≡ no_fault → (p : ℕ) → place ≤ p → p < place + count → met p ≡ false
unfolding fault_from IsAt
from-none number place zero met e p h k = absurd (omega arith)
from-none number place (suc count) met e p h k = go (met place) refl e (λ n x. from-none number (suc place) count met n p x (omega arith)) (ℕ_discrete p place)
  where
    go : (b : Bool) → met place ≡ b → cond b (fault_at number place) (fault_from number (suc place) count met) ≡ no_fault → (fault_from number (suc place) count met ≡ no_fault → suc place ≤ p → met p ≡ false) → Dec (p ≡ place) → met p ≡ false
    go true q n ih d = absurd (subst IsAt n tt)
    go false q n ih (yes same) = ap met same ∙ q
    go false q n ih (no other) = ih n (omega (arith, other))

none_from : (number place count : ℕ) (met : ℕ → Bool) → ((p : ℕ) → place ≤ p → p < place + count → met p ≡ false) → fault_from number place count met ≡ no_fault
unfolding fault_from
none_from number place zero met f = refl
none_from number place (suc count) met f =
    ap (λ (b : Bool). cond b (fault_at number place) (fault_from number (suc place) count met)) (f place (omega arith) (omega arith))
    ∙ none_from number (suc place) count met (λ p h k. f p (omega arith) (omega arith))

-- a test is passed exactly when it is met at no place
pub where-none : (number count : ℕ) (met : ℕ → Bool) → (fault_where number count met ≡ no_fault) ↔ ((p : ℕ) → p < count → met p ≡ false)
unfolding fault_where
where-none number count met = (
  λ e p h. from-none number 0 count met e p (omega arith) (omega arith),
  λ f. none_from number 0 count met (λ p h k. f p (omega arith)),
)

-- ---- the first of some tests
pub tests-none : (fault : Fault) (faults : List Fault) → first_fault (fault ∷ faults) ≡ no_fault → (fault ≡ no_fault) × (first_fault faults ≡ no_fault)
unfolding first_fault IsAt
tests-none no_fault faults e = (refl, e)
tests-none (Err r) faults e = absurd (subst IsAt e tt)

pub none_end : first_fault [] ≡ no_fault
unfolding first_fault
none_end = refl

pub none-all : {fault : Fault} (faults : List Fault) → fault ≡ no_fault → first_fault faults ≡ no_fault → first_fault (fault ∷ faults) ≡ no_fault
unfolding first_fault
none-all {fault} faults e f = ap (λ (x : Fault). first_fault (x ∷ faults)) e ∙ f

pub if_none : (number : ℕ) (met : Bool) → fault_if number met ≡ no_fault → met ≡ false
unfolding fault_if IsAt
if_none number true e = absurd (subst IsAt e tt)
if_none number false e = refl

pub none-if : (number : ℕ) {met : Bool} → met ≡ false → fault_if number met ≡ no_fault
unfolding fault_if
none-if number e = ap (λ (b : Bool). cond b (fault_at number 0) no_fault) e

-- ---- what a refusal says
abbrev SaidIs : (P : (number place : ℕ) → Type 0) → Fault → Type 0
SaidIs P no_fault = Unit {0}
SaidIs P (Err r) = P r.number r.place

-- the number and the place, if there are any, satisfy P
pub record Said (P : (number place : ℕ) → Type 0) (fault : Fault) : Type 0 where
  pub said : SaidIs P fault

-- of no refusal there is nothing to say
pub said-none : (P : (number place : ℕ) → Type 0) → Said P no_fault
said-none P = record { said = tt }

pub said-end : (P : (number place : ℕ) → Type 0) → Said P (first_fault [])
unfolding first_fault
said-end P = said-none P

-- the other tests count only where the first is not met
pub said-first : {P : (number place : ℕ) → Type 0} {fault : Fault} (faults : List Fault) → Said P fault → (fault ≡ no_fault → Said P (first_fault faults)) → Said P (first_fault (fault ∷ faults))
unfolding first_fault
said-first {fault = no_fault} faults h k = k refl
said-first {fault = Err r} faults h k = record { said = h.said }

-- a test whose place is 0
pub said-if : {P : (number place : ℕ) → Type 0} (number : ℕ) (met : Bool) → P number 0 → Said P (fault_if number met)
unfolding fault_if
said-if number true h = record { said = h }
said-if {P} number false h = said-none P

said-from : {P : (number place : ℕ) → Type 0} (number place count : ℕ) (met : ℕ → Bool) → ((p : ℕ) → p < place + count → P number p) → Said P (fault_from number place count met)
unfolding fault_from
said-from {P} number place zero met h = said-none P
said-from {P} number place (suc count) met h = go (met place) (said-from number (suc place) count met (λ p l. h p (omega arith)))
  where
    go : (b : Bool) → Said P (fault_from number (suc place) count met) → Said P (cond b (fault_at number place) (fault_from number (suc place) count met))
    go true rest = record { said = h place (omega arith) }
    go false rest = rest

-- a test at each of some places
pub said-where : {P : (number place : ℕ) → Type 0} (number count : ℕ) (met : ℕ → Bool) → ((p : ℕ) → p < count → P number p) → Said P (fault_where number count met)
unfolding fault_where
said-where number count met h = said-from number 0 count met (λ p l. h p (omega arith))

-- what is found has the test's number
pub where-at : (number count : ℕ) (met : ℕ → Bool) (m p : ℕ) → fault_where number count met ≡ fault_at m p → m ≡ number
where-at number count met m p e = (subst (Said (λ k place. k ≡ number)) e (said-where number count met (λ p l. refl))).said

-- a test that finds no refusal finds nothing
pub unmet : {fault : Fault} → ((r : Refusal) → fault ≡ Err r → ⊥) → fault ≡ no_fault
unmet {fault = no_fault} n = refl
unmet {fault = Err r} n = absurd (n r refl)

-- the number of a refusal, and its place
abbrev pub number_of : {A : Type 0} → Outcome A → ℕ
number_of (accepted found) = 0
number_of (Err r) = r.number

abbrev pub place_of : {A : Type 0} → Outcome A → ℕ
place_of (accepted found) = 0
place_of (Err r) = r.place

-- ---- an outcome after tests
pub accepted-refused : {A : Type 0} {X : Type 0} {found : A} {number place : ℕ} → ◌≡◌ {A = Outcome A} (refused number place) (accepted found) → X
accepted-refused e = let z : ◌≡◌ {A = ℕ} 0 1 = cc in absurd (omega arith)

-- an accepted outcome met no test before it
pub unless-none : {A : Type 0} (fault : Fault) (outcome : Outcome A) {found : A} → unless_fault fault outcome ≡ accepted found → (fault ≡ no_fault) × (outcome ≡ accepted found)
unfolding unless_fault
unless-none no_fault outcome e = (refl, e)
unless-none (Err r) outcome e = accepted-refused e

-- a refusal was met before, or after
pub unless-refused : {A : Type 0} (fault : Fault) (outcome : Outcome A) {number place : ℕ} → unless_fault fault outcome ≡ refused number place → (fault ≡ fault_at number place) ⊎ ((fault ≡ no_fault) × (outcome ≡ refused number place))
unfolding unless_fault
unless-refused no_fault outcome e = inr (refl, e)
unless-refused (Err r) outcome {number} {place} e = let p : r.number ≡ number = cc in let q : r.place ≡ place = cc in inl (λ i. fault_at (p i) (q i))

-- a fault with another number
pub other-number : {X : Type 0} {number place : ℕ} (fault : Fault) → Said (λ m p. ¬ (m ≡ number)) fault → fault ≡ fault_at number place → X
other-number {number = number} fault h e = absurd ((subst (Said (λ m p. ¬ (m ≡ number))) e h).said refl)
