-- How a Check ends, and what that promises (Specification 5 and 7.4). Assumes nothing.
use Rattle.definitions.specs.Refusals.{Outcome, accepted, refused}
use Rattle.definitions.specs.declared.Answer.{Answer}
use Rattle.std.specs.declared.result.Result.TheVariants.{Err}
use Rattle.std.specs.Result.{is_err}
use Rattle.definitions.specs.Refusals.{Fault, no_fault}
use mathlib.Core.Path.{◌≡◌, refl, sym, ◌∙◌, ap}
use mathlib.Core.Bool.{cond}
use mathlib.Core.List.{List, [], ◌∷◌}
use Prim.Native.Nat.{ℕ, ◌/◌}
use lib.IntN.{ℤ}
use lib.ListN.{length, replicate}
use Rattle.definitions.specs.declared.Answer.TheVariants.{Passed}
use Rattle.definitions.specs.Group.{Exchange}
use Rattle.definitions.specs.Completion.{sum_count}
use Rattle.definitions.specs.Lent.{Order, filled, generators_of, table_of, vectors_of}
use Rattle.definitions.specs.Limits.{entry_limit}
use Rattle.definitions.specs.Refusals.{admission_fault, brought_fits, first_fault, rows_fault}
use Rattle.definitions.specs.Calls.{check_call, check_end, check_fault, rules_fault}
use Rattle.theory.proofs.Accepted.{order-none}
use Rattle.theory.proofs.Bounds.{each_within}
use Rattle.theory.proofs.Whole.{orbits-positive}
use Rattle.refusals.specs.Tests.{brought_sizes_fit}
use Rattle.admission.specs.Admission.{Tabled}
use Rattle.admission.proofs.Tests.{admission-refused}
use Rattle.moves.proofs.Tables.{admitted, held_admitted, passed, table-admitted}
use Rattle.reduction.specs.declared.Shape.{Shape}
use Rattle.reduction.specs.Areas.{sequences_in}
use Rattle.theory.proofs.Areas.{filled-nothing}
use Rattle.theory.proofs.CheckCall.{check-answer, check-conformal, check-whole, rows-limited, rows-stored, rules-facts, vectors-count}
use Rattle.theory.proofs.Faults.{accepted-refused, first-append, first-nested, met-first, unmet-second}
use Rattle.theory.proofs.Sizes.{sizes-of-check}
use Rattle.moves.specs.Found.{Checks, Grouped, Sized, brought_fault, checked_of}
use Rattle.wholeness.specs.Lists.{Brought}
use Rattle.moves.specs.Promise.{CheckPromise}

-- 17 to 19 are not met: what the tests of wholeness ask
pub brought-ready : {shape : Shape} {generators rows coefficients : List ℤ} {group : List ℕ} → Grouped shape generators group → Sized shape.n generators rows coefficients → rows_fault (sequences_in shape group) (vectors_of shape.n generators) (vectors_of shape.n rows) coefficients ≡ no_fault
    → Brought shape group rows
brought-ready {shape} {generators} {rows} {coefficients} {group} G Z passed =
    let n : ℕ = shape.n in
    record {
      rows_of_table = G.table;
      some = G.some;
      small = G.small;
      whole = Z.whole;
      few = Z.few;
      entries = rows-limited G.admissible.symmetric (vectors_of n rows) coefficients passed;
      positive = orbits-positive G.admissible.symmetric (vectors_of n rows) (rows-stored G.admissible.symmetric (vectors_of n rows) coefficients passed);
    }

module _ (order : Order) (brought coefficients : List ℤ) (group_size : ℕ) where
  abbrev table : List Exchange
  table = table_of order group_size

  abbrev fault : Fault
  fault = check_fault order brought coefficients group_size

  -- 5 to 11, by the numbers of what else was lent
  abbrev pub Tests : List ℕ → Outcome ℕ → Type 0
  Tests group r =
      Tabled group_size (admission_fault order group_size (brought_sizes_fit order.n (length order.generators) (length brought) (length coefficients))) table group r

  -- and then 17 to 22
  tests : fault ≡ first_fault (admission_fault order group_size (brought_fits order brought coefficients) ∷ brought_fault order.n table order.generators brought coefficients ∷ [])
  unfolding check_fault rules_fault generators_of
  tests = sym (first-append (_ ∷ _ ∷ []) (_ ∷ [])) ∙ first-nested (admission_fault order group_size (brought_fits order brought coefficients)) _

  -- one of 5 to 11 is met
  pub checks-early : {number place rows : ℕ} {group : List ℕ} → Tests group (refused number place) → Checks rows group_size table fault group (refused number place)
  unfolding brought_fits
  checks-early T =
      let e = tests ∙ sym (met-first _ _ _ (admission-refused _ _ T.answer)) in
      record { answer = sym (ap (checked_of _ (length table)) e); held = λ h. accepted-refused (sym e ∙ h) }

  -- none of them is
  module _ {g : ℕ} {group : List ℕ} (T : Tests group (accepted g)) (long : length group ≡ group_size) where
    pub sized-admitted : Sized order.n order.generators brought coefficients
    unfolding brought_fits
    sized-admitted =
        let P = admitted order (brought_fits order brought coefficients) T long in
        let Z = sizes-of-check order brought coefficients group_size P.sizes_pass in
        record {
          limited = each_within entry_limit (order-none order group_size P.tests_pass).sendable.limited;
          generators_few = Z.sized.generators;
          whole = Z.whole;
          few = Z.few;
          one_each = Z.one_each;
        }

    -- and 17 to 22 came to `found`
    pub checks-brought : {rows : ℕ} {r : Outcome Answer} {found : Fault} → found ≡ brought_fault order.n (sequences_in (record { n = order.n; g = g }) group) order.generators brought coefficients
        → r ≡ checked_of rows g found → Checks rows group_size table fault group r
    unfolding brought_fits
    checks-brought {rows} e f = record {
      answer = rw (← (passed order _ T long).1, tests, ← unmet-second _ (passed order _ T long).0, ← table-admitted order _ T long, ← e) f;
      held = λ h. held_admitted order _ T long;
    }

  -- ---- the promise
  abbrev count : ℕ
  count = length brought / order.n

  checked-passed : (f : Fault) {rows sums : ℕ} → checked_of count (length table) f ≡ accepted (Passed rows sums) → (f ≡ no_fault) × (rows ≡ count) × (sums ≡ sum_count (length table) count)
  checked-passed no_fault e = (refl, cc, cc)
  checked-passed (Err r) e = accepted-refused e

  -- what was found, and zeros after a refusal
  pub check-promise : {r : Outcome Answer} {old group : List ℕ} → Checks count group_size table fault old r → group ≡ cond (is_err r) (filled 0 group_size []) old → length group ≡ group_size
      → CheckPromise order brought coefficients group_size r group
  unfolding check_call check_end
  check-promise {r} {old} {group} C holds wide = record {
    answers = said;
    group_holds = ends fault refl;
    passes = (λ p. (check-answer order brought coefficients group_size).0 (sym said ∙ p), λ h. said ∙ (check-answer order brought coefficients group_size).1 h);
    passed = λ rows sums h.
        let P = checked-passed fault (sym C.answer ∙ h) in
        let W = (check-whole order brought coefficients group_size).0 P.0 in
        let same = sym (vectors-count order.n brought) in
        record {
          kept = W.0;
          whole = W.1;
          table = (rules-facts order brought coefficients group_size W.0).symmetric.is_table;
          group_holds = rw h at holds ∙ C.held P.0;
          rows_are = P.1 ∙ same;
          sums_are = P.2 ∙ ap (sum_count (length table)) same;
          conformal = check-conformal order brought coefficients group_size P.0;
        };
    refused = λ number place h. rw h at holds ∙ filled-nothing 0 group_size ∙ ap (λ (k : ℕ). replicate k 0) (sym wide);
  }
    where
      said : r ≡ (check_call order brought coefficients group_size).answer
      said = C.answer ∙ go fault
        where
          go : (f : Fault) → checked_of count (length table) f ≡ (check_end group_size count table f).answer
          go no_fault = refl
          go (Err r) = refl

      ends : (f : Fault) → fault ≡ f → group ≡ (check_end group_size count table f).group
      ends no_fault e = rw (C.answer, e) at holds ∙ C.held e
      ends (Err r) e = rw (C.answer, e) at holds
