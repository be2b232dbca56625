-- CHECK (Specification 5.2, demand 3): no refusal if and only if the rules are kept and the list is whole; of a passed list every lattice
-- vector is a sum of images of rows, none opposing it. Assumes nothing.
use Rattle.definitions.specs.Refusals.{accepted}
use Rattle.std.specs.declared.result.Result.TheVariants.{Err}
use Rattle.definitions.specs.Refusals.{Fault, no_fault}
use mathlib.Core.Path.{◌≡◌, refl, sym, ◌∙◌, ap, subst}
use mathlib.Core.Logic.{◌↔◌}
use mathlib.Core.Bool.{true, false, not, ◌||◌}
use mathlib.Core.List.{List, []}
use Prim.Native.Nat.{ℕ, suc, ◌/◌, ◌<◌}
use borrow.Author.Tests.{not-false}
use lib.IntN.{ℤ}
use lib.ListN.{length, get_or, length-map}
use native.Mathlib.Omega.{arith}
use Rattle.definitions.specs.declared.Answer.TheVariants.{Passed}
use Rattle.definitions.specs.Limits.{coefficient_limit, entry_limit}
use Rattle.definitions.specs.Vector.{Vector, equal, is_zero, padded, within}
use Rattle.definitions.specs.Lattice.{InLattice}
use Rattle.definitions.specs.Group.{Exchange, identity, unit}
use Rattle.definitions.specs.Orbit.{IsImage, precedes, representative}
use Rattle.definitions.specs.Completion.{has_other_below, remainder, sum_count}
use Rattle.definitions.specs.Lent.{Order, chunks, exchanges_of, generators_of, rows_of, table_of, vectors_of}
use Rattle.definitions.specs.Refusals.{admission_fault, brought_fits, fault_where, is_misplaced, is_uncertified, is_unfit, rows_fault, wholeness_fault}
use Rattle.definitions.specs.Calls.{check_call, check_end, check_fault, rules_fault}
use Rattle.definitions.specs.Demands.{ConformalSum, Sorted, RulesKept, Whole}
use Rattle.theory.proofs.Tests.{or-false-left, or-false-right}
use Rattle.theory.proofs.Lists.{chunks-length}
use Rattle.theory.proofs.Members.{Each, each_from, each_member, member-place}
use Rattle.theory.proofs.Below.{unopposed}
use Rattle.theory.proofs.Symmetric.{Symmetric}
use Rattle.theory.proofs.Bounds.{Within, not-zero, within-each}
use Rattle.theory.proofs.Whole.{Stored}
use Rattle.theory.proofs.Equal.{equal-same}
use Rattle.theory.proofs.Sums.{sums_none}
use Rattle.theory.proofs.Sorting.{sorted-ascends, ascends-once}
use Rattle.theory.proofs.Listing.{Passes, passes-conformal, passes-whole, whole-passes}
use Rattle.theory.proofs.Faults.{none-all, none_end, tests-none, where-none}
use Rattle.theory.proofs.Accepted.{admission-none, certified, order-symmetric}

pub vectors-count : (n : ℕ) (numbers : List ℤ) → length (vectors_of n numbers) ≡ length numbers / n
unfolding vectors_of rows_of
vectors-count n numbers = length-map (chunks n (length numbers / n) numbers) padded ∙ chunks-length n (length numbers / n) numbers

pub generators-count : (order : Order) → length (generators_of order) ≡ length order.generators / order.n
unfolding generators_of
generators-count order = vectors-count order.n order.generators

-- ---- 17 to 19, row by row
record Fitting (table : List Exchange) (row : Vector) : Type 0 where
  nonzero : is_zero row ≡ false
  limited : within entry_limit row ≡ true
  canonical : representative table row ≡ row

fitting : (table : List Exchange) (row : Vector) → is_unfit table row ≡ false → Fitting table row
unfolding is_unfit
fitting table row e =
    let a = or-false-left (is_zero row || not (within entry_limit row)) (not (equal row (representative table row))) e in
    let b = or-false-right (is_zero row || not (within entry_limit row)) (not (equal row (representative table row))) e in
    record {
      nonzero = or-false-left (is_zero row) (not (within entry_limit row)) a;
      limited = not-false (within entry_limit row) (or-false-right (is_zero row) (not (within entry_limit row)) a);
      canonical = sym (equal-same row (representative table row) (not-false (equal row (representative table row)) b));
    }

placed-sorted : (rows : List Vector) → ((r : ℕ) → r < length rows → is_misplaced rows r ≡ false) → Sorted rows
unfolding is_misplaced
placed-sorted rows f = record { ascending = λ r l. not-false (precedes (get_or rows r []) (get_or rows (suc r) [])) (f (suc r) l) }

-- rows that meet none of 17 to 19 may be stored
module _ {n : ℕ} {sent table : List Exchange} {generators : List Vector} (O : Symmetric n sent table generators) (rows : List Vector) (coefficients : List ℤ)
    (passed : rows_fault table generators rows coefficients ≡ no_fault) where
  abbrev certificates : List (List ℤ)
  certificates = chunks (length generators) (length rows) coefficients

  -- 17, 18 and 19 are not met
  unmet : (fault_where 17 (length rows) (λ r. is_unfit table (get_or rows r [])) ≡ no_fault) × (fault_where 18 (length rows) (is_misplaced rows) ≡ no_fault) × (fault_where 19 (length rows) (λ r. is_uncertified coefficient_limit generators (get_or certificates r []) (get_or rows r [])) ≡ no_fault)
  unfolding rows_fault
  unmet =
      let x = tests-none _ _ passed in
      let y = tests-none _ _ x.1 in
      let z = tests-none _ _ y.1 in
      (x.0, y.0, z.0)

  fit : (r : ℕ) → r < length rows → Fitting table (get_or rows r [])
  fit r l = fitting table (get_or rows r []) ((where-none 17 (length rows) (λ r. is_unfit table (get_or rows r []))).0 unmet.0 r l)

  pub rows-stored : Stored O rows
  rows-stored = record {
    inside = each_from rows [] (λ r l. certified coefficient_limit generators O.sizes (get_or certificates r []) (get_or rows r [])
        ((where-none 19 (length rows) (λ r. is_uncertified coefficient_limit generators (get_or certificates r []) (get_or rows r []))).0 unmet.2 r l));
    nonzero = each_from rows [] (λ r l. not-zero (fit r l).nonzero);
    canonical = each_from rows [] (λ r l. (fit r l).canonical);
    once = ascends-once (sorted-ascends rows (placed-sorted rows ((where-none 18 (length rows) (is_misplaced rows)).0 unmet.1)));
  }

  pub rows-limited : Each (Within entry_limit) rows
  rows-limited = each_from rows [] (λ r l. within-each entry_limit (get_or rows r []) (fit r l).limited)

module _ (order : Order) (brought coefficients : List ℤ) (group_size : ℕ) where
  abbrev table : List Exchange
  table = table_of order group_size

  abbrev rows : List Vector
  rows = vectors_of order.n brought

  -- ---- what the rules say
  pub record RulesFacts : Type 0 where
    pub symmetric : Symmetric order.n (exchanges_of order) table (generators_of order)
    pub stored : Stored symmetric rows
    pub nonempty : 0 < length table

  pub rules-facts : RulesKept order brought coefficients group_size → RulesFacts
  unfolding rules_fault
  rules-facts e =
      let a = tests-none (admission_fault order group_size (brought_fits order brought coefficients)) _ e in
      let d = tests-none (rows_fault table (generators_of order) rows coefficients) _ a.1 in
      let A = admission-none order group_size (brought_fits order brought coefficients) a.0 in
      let O = order-symmetric order group_size A.cells_pass A.tests_pass in
      record {
        symmetric = O;
        stored = rows-stored O rows coefficients d.0;
        nonempty = (let at = member-place [] (O.is_table.complete (identity order.n) unit) in omega (arith, at.1));
      }

  -- ---- 20 to 22
  wholeness-passes : (F : RulesFacts) → (wholeness_fault table (generators_of order) rows ≡ no_fault) ↔ Passes F.symmetric rows F.stored
  unfolding wholeness_fault
  wholeness-passes F = (into, back)
    where
      generators : List Vector
      generators = generators_of order

      into : wholeness_fault table generators rows ≡ no_fault → Passes F.symmetric rows F.stored
      into e =
          let a = tests-none _ _ e in
          let b = tests-none _ _ a.1 in
          let c = tests-none _ _ b.1 in
          record {
            generators_zero = λ p l. not-false (is_zero (remainder table rows (get_or generators p []))) ((where-none 20 (length generators) (λ p. not (is_zero (remainder table rows (get_or generators p []))))).0 a.0 p l);
            sums_zero = (sums_none table rows F.nonempty).0 b.0;
            apart = (where-none 22 (length rows) (has_other_below table rows)).0 c.0;
          }

      back : Passes F.symmetric rows F.stored → wholeness_fault table generators rows ≡ no_fault
      back P =
          none-all _ ((where-none 20 (length generators) (λ p. not (is_zero (remainder table rows (get_or generators p []))))).1 (λ p l. ap not (P.generators_zero p l)))
          (none-all _ ((sums_none table rows F.nonempty).1 P.sums_zero) (none-all _ ((where-none 22 (length rows) (has_other_below table rows)).1 P.apart) none_end))

  -- CHECK MEETS NO TEST IF AND ONLY IF THE RULES ARE KEPT AND THE LIST IS WHOLE
  pub check-whole : (check_fault order brought coefficients group_size ≡ no_fault) ↔ (RulesKept order brought coefficients group_size × Whole order.n (exchanges_of order) (generators_of order) rows)
  unfolding check_fault
  check-whole = (
    λ e. let a = tests-none (rules_fault order brought coefficients group_size) _ e in
        let b = tests-none (wholeness_fault table (generators_of order) rows) _ a.1 in
        let F = rules-facts a.0 in
        (a.0, passes-whole F.symmetric rows F.stored ((wholeness-passes F).0 b.0)),
    λ h. let F = rules-facts h.0 in none-all _ h.0 (none-all [] ((wholeness-passes F).1 (whole-passes F.symmetric rows F.stored h.1)) none_end),
  )

  -- OF A PASSED LIST: conformal sums of images of its rows make up the whole lattice
  pub check-conformal : check_fault order brought coefficients group_size ≡ no_fault → (v : Vector) → InLattice (generators_of order) v → ConformalSum order.n (exchanges_of order) rows v
  unfolding check_fault
  check-conformal e v h =
      let a = tests-none (rules_fault order brought coefficients group_size) _ e in
      let b = tests-none (wholeness_fault table (generators_of order) rows) _ a.1 in
      let F = rules-facts a.0 in
      let c = passes-conformal F.symmetric rows F.stored ((wholeness-passes F).0 b.0) v h in
      record {
        summands = c.parts;
        images = λ u k.
            let x = each_member c.members k in
            let at = member-place [] x.stored in
            (at.0, at.1, subst (IsImage order.n (exchanges_of order) u) (sym at.2) x.image);
        conform = λ u k. unopposed (each_member c.conform k);
        adds_up = c.adds-up;
      }

  -- ---- the answer
  -- THE ANSWER IS A PASS exactly then, and reports r rows and g × r × (r + 1) sums
  pub check-answer : ((check_call order brought coefficients group_size).answer ≡ accepted (Passed (length rows) (sum_count (length table) (length rows))))
      ↔ (RulesKept order brought coefficients group_size × Whole order.n (exchanges_of order) (generators_of order) rows)
  unfolding check_call check_end
  check-answer = (λ e. check-whole.0 (no-fault (check_fault order brought coefficients group_size) refl e), λ h. passed (check_fault order brought coefficients group_size) (check-whole.1 h))
    where
      no-fault : (fault : Fault) → check_fault order brought coefficients group_size ≡ fault → (check_end group_size (length brought / order.n) table fault).answer ≡ accepted (Passed (length rows) (sum_count (length table) (length rows))) → check_fault order brought coefficients group_size ≡ no_fault
      no-fault no_fault q e = q
      no-fault (Err r) q e = let z : ◌≡◌ {A = ℕ} 0 1 = cc in absurd (omega arith)

      passed : (fault : Fault) → fault ≡ no_fault → (check_end group_size (length brought / order.n) table fault).answer ≡ accepted (Passed (length rows) (sum_count (length table) (length rows)))
      passed fault e = ap (λ (f : Fault). (check_end group_size (length brought / order.n) table f).answer) e
          ∙ ap (λ (r : ℕ). (accepted (Passed r (sum_count (length table) r)))) (sym (vectors-count order.n brought))
