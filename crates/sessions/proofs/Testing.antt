-- The tests of a session's orders, one after the other, and what holds of an order that is left. Assumes nothing.
use Rattle.std.specs.declared.result.Result.TheVariants.{Err}
use Rattle.definitions.specs.Refusals.{Fault, no_fault, fault_at}
use mathlib.Core.Path.{◌≡◌, refl, sym, ◌∙◌, ap, ap₂, subst}
use mathlib.Core.Logic.{◌⊎◌, inl, inr}
use mathlib.Core.Bool.{Bool, true, not}
use mathlib.Core.List.{List, [], ◌∷◌}
use Prim.Native.Nat.{ℕ, ◌<◌}
use native.Mathlib.Decide.{dec_lt}
use native.Mathlib.Omega.{arith}
use borrow.Author.Tests.{eq-eqb, eqb-false, le-leb, lt-leb, ne_eqb}
use lib.Dec.{eqb, leb}
use lib.IntN.{ℤ}
use lib.ListN.{length}
use Rattle.definitions.specs.Lent.{Order, exchanges_of, group_rows, order_of, table_of}
use Rattle.definitions.specs.Refusals.{cells_fault, fault_if, first_fault, lattice_fault, numbers_fault, size_fault, symmetry_fault}
use Rattle.definitions.specs.Session.{difference_fault, own_fault, session_fault, shared_fault}
use Rattle.theory.proofs.Accepted.{cells-none, numbers-none}
use Rattle.theory.proofs.Faults.{first-append, first-nested, if_none, met-first, tests-none}
use Rattle.theory.proofs.Sizes.{sizes-of-order}
use Rattle.theory.proofs.Tests.{clash}
use Rattle.session_theory.proofs.Tests.{difference-none, shared-none, tables_agree}
use Rattle.admission.specs.Admission.{Numbered}
use Rattle.sessions.specs.declared.Tests.{Tests}
use Rattle.sessions.specs.Found.{Exchangeable, Finds, Tabled, any_left, late_fault}

-- ---- an order beside another, up to 9
module _ (order other : Order) (list_size group_size : ℕ) where
  abbrev pub early_fault : Fault
  early_fault = first_fault (shared_fault order other list_size ∷ own_fault order group_size ∷ difference_fault order other ∷ [])

  record Early : Type 0 where
    shared : shared_fault order other list_size ≡ no_fault
    numbered : Numbered order
    same : difference_fault order other ≡ no_fault

  early-none : early_fault ≡ no_fault → Early
  unfolding own_fault
  early-none e =
      let a = tests-none (shared_fault order other list_size) _ e in
      let b = tests-none (own_fault order group_size) _ a.1 in
      let c = tests-none (cells_fault order.n) _ b.0 in
      let d = tests-none (size_fault order group_size true) _ c.1 in
      record {
        shared = a.0;
        numbered = record {
          cells_pass = c.0;
          sized = (sizes-of-order _ _ _ d.0).0;
          numbers_pass = (tests-none (numbers_fault order) _ d.1).0;
        };
        same = (tests-none (difference_fault order other) _ b.1).0;
      }

  -- its numbers are as they should be
  pub early-numbered : early_fault ≡ no_fault → Numbered order
  early-numbered e = (early-none e).numbered

  -- so a group can be made of its exchanges
  pub early-exchangeable : early_fault ≡ no_fault → Exchangeable order.n order.exchanges
  unfolding exchanges_of
  early-exchangeable e =
      let N = (early-none e).numbered in
      let S = cells-none order.n N.cells_pass in
      record { some = S.least; narrow = S.most; valid = (numbers-none order N.numbers_pass).exchanges }

  -- .. or of the other's, which are the same
  pub other-exchangeable : early_fault ≡ no_fault → Exchangeable other.n other.exchanges
  unfolding difference_fault
  other-exchangeable e =
      let E = early-none e in
      subst (λ (n : ℕ). Exchangeable n other.exchanges) (shared-none order other list_size E.shared).cells
      (subst (Exchangeable order.n) (difference-none order.n 0 order.exchanges other.exchanges E.same)
      (early-exchangeable e))

  -- one number of cells, and one table
  pub early-cells : early_fault ≡ no_fault → order.n ≡ other.n
  early-cells e = (shared-none order other list_size (early-none e).shared).cells

  pub early-tables : early_fault ≡ no_fault → table_of order group_size ≡ table_of other group_size
  early-tables e = let E = early-none e in tables_agree order other list_size group_size E.shared E.same

  -- ---- 10, and 11 or 23
  module _ (members : ℕ) where
    -- the number of members tells 10
    pub late_is : (early_fault ≡ no_fault → eqb members 0 ≡ not (leb (length (table_of order group_size)) (group_rows order.n group_size)))
        → late_fault early_fault members (lattice_fault order) ≡ session_fault order other list_size group_size
    unfolding session_fault symmetry_fault
    late_is h = go early_fault refl
      where
        lattice : Fault
        lattice = lattice_fault order

        large : Bool
        large = not (leb (length (table_of order group_size)) (group_rows order.n group_size))

        whole : first_fault (early_fault ∷ first_fault (fault_if 10 large ∷ lattice ∷ []) ∷ []) ≡ session_fault order other list_size group_size
        whole = sym (first-append (_ ∷ _ ∷ _ ∷ []) _)

        go : (x : Fault) → early_fault ≡ x → late_fault early_fault members lattice ≡ session_fault order other list_size group_size
        go (Err r) e = sym (met-first r.number r.place _ e) ∙ met-first r.number r.place _ e ∙ whole
        go no_fault e =
            ap (λ (b : Bool). first_fault (early_fault ∷ fault_if 10 b ∷ lattice ∷ [])) (h e)
            ∙ first-nested early_fault (fault_if 10 large ∷ lattice ∷ []) ∙ whole

-- ---- the table of the group

-- it sees the exchanges alone
pub tabled-order : (n : ℕ) (generators : List ℤ) (exchanges : List ℕ) (images : List ℤ) {size : ℕ} {group : List ℕ} {members : ℕ}
    → Tabled (order_of n [] exchanges []) size group members → Tabled (order_of n generators exchanges images) size group members
unfolding table_of exchanges_of
tabled-order n generators exchanges images T =
    record { large = T.large; few = T.few; counted = T.counted; held = T.held }

-- the number of members tells 10
ten-told : {order : Order} {size : ℕ} {group : List ℕ} {members : ℕ} → Tabled order size group members
    → eqb members 0 ≡ not (leb (length (table_of order size)) (group_rows order.n size))
ten-told {order} {size} {group} {members} T = go (dec_lt 0 members)
  where
    go : Dec (0 < members) → eqb members 0 ≡ not (leb (length (table_of order size)) (group_rows order.n size))
    go (yes h) =
        ne_eqb members 0 (λ e. omega (arith, e))
        ∙ sym (ap not (le-leb (length (table_of order size)) (group_rows order.n size) (omega (arith, T.few h, T.counted h))))
    go (no h) =
        let z : members ≡ 0 = omega arith in
        eq-eqb members 0 z
        ∙ sym (ap not (lt-leb (length (table_of order size)) (group_rows order.n size) (T.large z)))

left-first : {first : Fault} (second : Fault) → first ≡ no_fault → any_left first second ≡ true
left-first second e = ap (λ (f : Fault). any_left f second) e

left-second : (first : Fault) {second : Fault} → second ≡ no_fault → any_left first second ≡ true
left-second no_fault e = refl
left-second (Err r) e = ap (any_left (fault_at r.number r.place)) e

pub left-either : (first second : Fault) → any_left first second ≡ true → (first ≡ no_fault) ⊎ (second ≡ no_fault)
left-either no_fault second e = inl refl
left-either (Err r) no_fault e = inr refl
left-either (Err r) (Err q) e = clash e refl

-- no test is met: neither of those up to 9, nor 10
late-none : (early lattice : Fault) (members : ℕ) → late_fault early members lattice ≡ no_fault → (early ≡ no_fault) × (0 < members)
late-none early lattice members e =
    let a = tests-none early _ e in
    let b = tests-none (fault_if 10 (eqb members 0)) _ a.1 in
    let c = eqb-false members 0 (if_none 10 (eqb members 0) b.0) in
    (a.0, omega (arith, c))

-- BOTH ORDERS: their tests, and the table where one is left
module _ (first second : Order) (list_size group_size : ℕ) where
  abbrev early₀ : Fault
  early₀ = early_fault first second list_size group_size

  abbrev early₁ : Fault
  early₁ = early_fault second first list_size group_size

  pub found-both : (group : List ℕ) (tests : Tests) → tests.first ≡ late_fault early₀ tests.members (lattice_fault first)
      → tests.second ≡ late_fault early₁ tests.members (lattice_fault second)
      → (any_left early₀ early₁ ≡ true → Tabled first group_size group tests.members)
      → Finds first second list_size group_size group tests
  found-both group tests a b T = record {
    first_met = a ∙ late_is first second list_size group_size tests.members (λ e. ten-told (T (left-first early₁ e)));
    second_met = b ∙ late_is second first list_size group_size tests.members ten-second;
    counted = λ h. (some h).1.counted (some h).0;
    held = λ h. (some h).1.held (some h).0;
  }
    where
      ten-second : early₁ ≡ no_fault
          → eqb tests.members 0 ≡ not (leb (length (table_of second group_size)) (group_rows second.n group_size))
      ten-second e =
          ten-told (T (left-second early₀ e))
          ∙ sym (ap₂ (λ (n t : ℕ). not (leb t (group_rows n group_size))) (early-cells second first list_size group_size e)
          (ap length (early-tables second first list_size group_size e)))

      some : any_left tests.first tests.second ≡ true → (0 < tests.members) × Tabled first group_size group tests.members
      some h = go (left-either tests.first tests.second h)
        where
          go : (tests.first ≡ no_fault) ⊎ (tests.second ≡ no_fault) → (0 < tests.members) × Tabled first group_size group tests.members
          go (inl e) = let l = late-none _ _ _ (sym a ∙ e) in (l.1, T (left-first early₁ l.0))
          go (inr e) = let l = late-none _ _ _ (sym b ∙ e) in (l.1, T (left-second early₀ l.0))

  -- one that is left has exchanges whose group can be made
  pub left-exchangeable : any_left early₀ early₁ ≡ true → Exchangeable first.n first.exchanges
  left-exchangeable h = go (left-either early₀ early₁ h)
    where
      go : (early₀ ≡ no_fault) ⊎ (early₁ ≡ no_fault) → Exchangeable first.n first.exchanges
      go (inl e) = early-exchangeable first second list_size group_size e
      go (inr e) = other-exchangeable second first list_size group_size e
