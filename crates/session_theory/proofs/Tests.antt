-- What the tests of a session say: shared ones, differing exchanges, and an order's own. Assumes nothing.
use Rattle.std.specs.declared.result.Result.TheVariants.{Err}
use Rattle.definitions.specs.Refusals.{Fault, no_fault, fault_at}
use mathlib.Core.Path.{◌≡◌, refl, sym, ◌∙◌, ap, ap₂, subst}
use mathlib.Core.Bool.{Bool, true, false, not, cond}
use mathlib.Core.List.{List, [], ◌∷◌}
use Prim.Native.Nat.{ℕ, suc, ◌+◌, ◌/◌}
use native.Mathlib.Omega.{arith}
use borrow.Author.Tests.{eqb-true, eq-eqb, not-false}
use lib.Dec.{eqb}
use Rattle.definitions.specs.Group.{group_table}
use Rattle.definitions.specs.Lent.{Order, exchanges_of, group_rows, rows_of, table_of}
use Rattle.definitions.specs.Refusals.{admission_fault, cells_fault, fault_if, first_fault, numbers_fault, order_fault}
use Rattle.definitions.specs.Refusals.{size_fault, symmetry_fault}
use Rattle.definitions.specs.Session.{difference_fault, difference_from, half, own_fault, session_fault, shared_fault}
use Rattle.theory.proofs.Faults.{first-append, first-nested, if_none, tests-none}
use Rattle.theory.proofs.Tests.{clash}

-- ---- the shared tests
pub record Shared (order other : Order) (list_size : ℕ) : Type 0 where
  pub cells : order.n ≡ other.n
  pub size : list_size ≡ half order.n + half order.n

pub shared-none : (order other : Order) (list_size : ℕ) → shared_fault order other list_size ≡ no_fault → Shared order other list_size
unfolding shared_fault
shared-none order other list_size e =
    let a = tests-none (fault_if 5 (not (eqb order.n other.n))) _ e in
    let b = tests-none (fault_if 6 (not (eqb list_size (half order.n + half order.n)))) _ a.1 in
    record {
      cells = eqb-true order.n other.n (not-false _ (if_none 5 _ a.0));
      size = eqb-true list_size (half order.n + half order.n) (not-false _ (if_none 6 _ b.0));
    }

eqb-sym : (x y : ℕ) → (b : Bool) → eqb x y ≡ b → eqb y x ≡ b
eqb-sym x y true e = eq-eqb y x (sym (eqb-true x y e))
eqb-sym x y false e = go (eqb y x) refl
  where
    go : (b : Bool) → eqb y x ≡ b → eqb y x ≡ false
    go true f = clash (eq-eqb x y (sym (eqb-true y x f))) e
    go false f = f

unequal : (x y : ℕ) (faults : List Fault) → eqb x y ≡ false → first_fault (fault_if 5 (not (eqb x y)) ∷ faults) ≡ fault_at 5 0
unfolding first_fault fault_if
unequal x y faults e = ap (λ (b : Bool). first_fault (cond (not b) (fault_at 5 0) no_fault ∷ faults)) e

-- both orders meet the same
pub shared_same : (order other : Order) (list_size : ℕ) → shared_fault order other list_size ≡ shared_fault other order list_size
unfolding shared_fault
shared_same order other list_size = go (eqb order.n other.n) refl
  where
    go : (b : Bool) → eqb order.n other.n ≡ b → shared_fault order other list_size ≡ shared_fault other order list_size
    go true e =
        ap₂ (λ (a b : Bool). first_fault (fault_if 5 (not a) ∷ fault_if 6 (not b) ∷ []))
        (e ∙ sym (eqb-sym order.n other.n true e))
        (ap (λ (n : ℕ). eqb list_size (half n + half n)) (eqb-true order.n other.n e))
    go false e =
        unequal order.n other.n _ e ∙ sym (unequal other.n order.n _ (eqb-sym order.n other.n false e))

-- ---- differing exchanges
none-at : {X : Type 0} {number place : ℕ} → fault_at number place ≡ no_fault → X
none-at e = let z : ◌≡◌ {A = ℕ} 0 1 = cc in absurd (omega (arith, z))

-- none differs where all numbers are the same, and nowhere else
pub difference-none : (n place : ℕ) (sent other : List ℕ) → difference_from n place sent other ≡ no_fault → sent ≡ other
unfolding difference_from
difference-none n place [] [] e = refl
difference-none n place [] (y ∷ other) e = none-at e
difference-none n place (x ∷ sent) [] e = none-at e
difference-none n place (x ∷ sent) (y ∷ other) e = go (eqb x y) refl e (difference-none n (suc place) sent other)
  where
    go : (b : Bool) → eqb x y ≡ b → cond b (difference_from n (suc place) sent other) (fault_at 9 (place / n)) ≡ no_fault
        → (difference_from n (suc place) sent other ≡ no_fault → sent ≡ other) → ◌≡◌ {A = List ℕ} (x ∷ sent) (y ∷ other)
    go true p q again = ap₂ ◌∷◌ (eqb-true x y p) (again q)
    go false p q again = none-at q

none-difference : (n place : ℕ) (sent : List ℕ) → difference_from n place sent sent ≡ no_fault
unfolding difference_from
none-difference n place [] = refl
none-difference n place (x ∷ sent) =
    ap (λ (b : Bool). cond b (difference_from n (suc place) sent sent) (fault_at 9 (place / n))) (eq-eqb x x refl)
    ∙ none-difference n (suc place) sent

-- a difference is one from either side
pub difference-same : (order other : Order) → difference_fault order other ≡ no_fault → difference_fault other order ≡ no_fault
unfolding difference_fault
difference-same order other e =
    subst (λ (x : List ℕ). difference_from other.n 0 x order.exchanges ≡ no_fault)
    (difference-none order.n 0 order.exchanges other.exchanges e)
    (none-difference other.n 0 order.exchanges)

-- ONE TABLE: where cells and exchanges are the same, so is the table
pub tables_agree : (order other : Order) (list_size group_size : ℕ) → shared_fault order other list_size ≡ no_fault
    → difference_fault order other ≡ no_fault → table_of order group_size ≡ table_of other group_size
unfolding difference_fault table_of exchanges_of
tables_agree order other list_size group_size e f =
    ap₂ (λ (n : ℕ) (sent : List ℕ). group_table n (rows_of n sent) (group_rows n group_size))
    (shared-none order other list_size e).cells
    (difference-none order.n 0 order.exchanges other.exchanges f)

-- ---- an order's tests

-- 5 to 11 in two parts
pub admission-parts : (order : Order) (group_size : ℕ)
    → admission_fault order group_size true ≡ first_fault (own_fault order group_size ∷ symmetry_fault order group_size ∷ [])
unfolding admission_fault order_fault own_fault
admission-parts order group_size =
    let early = cells_fault order.n ∷ size_fault order group_size true ∷ [] in
    let late = numbers_fault order ∷ symmetry_fault order group_size ∷ [] in
    first-append early (first_fault late ∷ [])
    ∙ sym (first-append early late ∙ first-nested (first_fault early) late)
    ∙ first-append (_ ∷ _ ∷ _ ∷ []) (symmetry_fault order group_size ∷ [])

between : (a d : Fault) → first_fault (a ∷ no_fault ∷ d ∷ []) ≡ first_fault (a ∷ d ∷ [])
unfolding first_fault
between no_fault d = refl
between (Err r) d = refl

module _ (order other : Order) (list_size group_size : ℕ) where
  abbrev fault : Fault
  fault = session_fault order other list_size group_size

  abbrev own : Fault
  own = own_fault order group_size

  -- with both of the tests that another order brings
  abbrev tested : (shared difference : Fault) → Fault
  tested shared difference = first_fault (shared ∷ own ∷ difference ∷ symmetry_fault order group_size ∷ [])

  -- but for these its tests are those of a call on its own
  pub own-tests : shared_fault order other list_size ≡ no_fault → difference_fault order other ≡ no_fault
      → fault ≡ admission_fault order group_size true
  unfolding session_fault first_fault
  own-tests e f = ap₂ tested e f ∙ between own (symmetry_fault order group_size) ∙ sym (admission-parts order group_size)

  -- an order that meets none meets neither
  pub fault-none : fault ≡ no_fault → (shared_fault order other list_size ≡ no_fault) × (difference_fault order other ≡ no_fault)
  unfolding session_fault
  fault-none e =
      let a = tests-none (shared_fault order other list_size) _ e in
      let b = tests-none own _ a.1 in
      (a.0, (tests-none (difference_fault order other) _ b.1).0)

  -- the shared ones come first
  pub fault-shared : {number place : ℕ} → shared_fault order other list_size ≡ fault_at number place → fault ≡ fault_at number place
  unfolding session_fault first_fault
  fault-shared e = ap (λ (a : Fault). tested a (difference_fault order other)) e

  -- what is met up to 9 is met by a call on its own too
  pub fault-early : {number place : ℕ} → shared_fault order other list_size ≡ no_fault → own ≡ fault_at number place
      → (fault ≡ fault_at number place) × (admission_fault order group_size true ≡ fault_at number place)
  unfolding session_fault first_fault
  fault-early e f = (
    ap₂ (λ (a b : Fault). first_fault (a ∷ b ∷ difference_fault order other ∷ symmetry_fault order group_size ∷ [])) e f,
    admission-parts order group_size ∙ ap (λ (a : Fault). first_fault (a ∷ symmetry_fault order group_size ∷ [])) f,
  )
