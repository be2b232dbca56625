-- What a refusal of the List with coefficients may report (Specification 7.2): one of List's numbers, or 24, and a place
-- that is one of theirs. Assumes nothing.
use Rattle.std.specs.declared.result.Result.TheVariants.{Err}
use Rattle.definitions.specs.Refusals.{Fault, no_fault, fault_at}
use mathlib.Core.Path.{◌≡◌, refl, sym, subst, ap}
use mathlib.Core.Logic.{◌⊎◌, inl, inr}
use mathlib.Core.List.{List}
use Prim.Native.Nat.{ℕ, ◌≤◌}
use native.Mathlib.Omega.{arith}
use lib.IntN.{ℤ}
use Rattle.definitions.specs.Limits.{list_limit}
use Rattle.definitions.specs.Vector.{Vector}
use Rattle.definitions.specs.Group.{Exchange}
use Rattle.definitions.specs.Completion.{Completion, completed, running, stopped}
use Rattle.definitions.specs.Certified.{CertifiedCompletion, certified_completed}
use Rattle.definitions.specs.Lent.{Order, generators_of, list_rows, table_of}
use Rattle.definitions.specs.Refusals.{Outcome, accepted, admission_fault, certified_fits, refused}
use Rattle.definitions.specs.Calls.{CertifiedListing, certified_call, certified_end, certified_listing}
use Rattle.definitions.specs.Calls.{certified_listing_of, list_end, listed_coefficients, listing_of, with_coefficients}
use Rattle.theory.proofs.Accepted.{admission-none, table-small}
use Rattle.theory.proofs.Faults.{number_of, place_of, Said, accepted-refused, unless-refused}
use Rattle.theory.proofs.ListCall.{completed-stops}
use Rattle.theory.proofs.Refused.{Reported, admission-said, reported-more, sums-few, table-some}
use Rattle.certified_theory.proofs.Stopping.{certified-near, certified-stops}

module _ (order : Order) (list_size group_size coefficient_size : ℕ) where
  abbrev table : List Exchange
  table = table_of order group_size

  abbrev limit : ℕ
  limit = list_rows order.n list_size

  abbrev generators : List Vector
  generators = generators_of order

  abbrev ended : CertifiedCompletion
  ended = certified_completed generators table limit generators

  abbrev tests : Fault
  tests = admission_fault order group_size (certified_fits order list_size coefficient_size)

  -- 12, 13 and 24
  stop-reported : tests ≡ no_fault → (number place : ℕ) → ended.completion ≡ stopped number place
      → Reported 24 number place
  unfolding list_rows
  stop-reported e number place q =
      let A = admission-none order group_size _ e in
      let used : limit ≤ list_limit = omega arith in
      let some = table-some order group_size A.cells_pass A.tests_pass in
      let tried = certified-near generators table limit generators some number place q in
      let known = numbers (certified-stops generators table limit generators number place q) in
      record {
        some = known.0;
        low = known.1;
        own = λ h. absurd (omega (arith, known.1));
        near = omega (arith, tried, sums-few (table-small order group_size A.tests_pass) used);
      }
    where
      plain : (number ≡ 12) ⊎ (number ≡ 13) → (1 ≤ number) × (number ≤ 24)
      plain (inl h) = (omega arith, omega arith)
      plain (inr h) = (omega arith, omega arith)

      numbers : (completed table limit generators ≡ stopped number place) ⊎ (number ≡ 24)
          → (1 ≤ number) × (number ≤ 24)
      numbers (inl h) = plain (completed-stops table limit generators number place h)
      numbers (inr h) = (omega arith, omega arith)

  -- WHAT A REFUSAL MAY REPORT
  pub certified-reported : (number place : ℕ)
      → certified_listing order list_size group_size coefficient_size ≡ refused number place → Reported 24 number place
  unfolding certified_listing certified_listing_of listing_of with_coefficients
  certified-reported number place e = go (unless-refused tests (certified_listing_of table ended) e)
    where
      stops : tests ≡ no_fault → (c : Completion) (cs : List (List ℤ)) → ended.completion ≡ c
          → with_coefficients (listed_coefficients table cs c) (listing_of table c) ≡ refused number place
          → Reported 24 number place
      stops h (running s) cs q x = accepted-refused (sym x)
      stops h (stopped a b) cs q x =
          let y : a ≡ number = ap number_of x in
          let z : b ≡ place = ap place_of x in
          reported-more (omega arith) y z (stop-reported h a b q)

      go : (tests ≡ fault_at number place) ⊎ ((tests ≡ no_fault) × (certified_listing_of table ended ≡ refused number place))
          → Reported 24 number place
      go (inl x) =
          (subst (Said (Reported 24)) x (admission-said order group_size (certified_fits order list_size coefficient_size) 24 (omega arith))).said
      go (inr x) = stops x.0 ended.completion ended.coefficients refl x.1

  pub certified-answer-reported : (number place : ℕ)
      → (certified_call order list_size group_size coefficient_size).answer ≡ refused number place
      → Reported 24 number place
  unfolding certified_call certified_end list_end
  certified-answer-reported number place e =
      go (certified_listing order list_size group_size coefficient_size) refl e
    where
      go : (o : Outcome CertifiedListing) → certified_listing order list_size group_size coefficient_size ≡ o
          → (certified_end order.n list_size group_size coefficient_size o).answer ≡ refused number place
          → Reported 24 number place
      go (accepted found) q x = let z : ◌≡◌ {A = ℕ} 0 1 = cc in absurd (omega (arith, z))
      go (Err r) q x =
          let y : r.number ≡ number = cc in
          let z : r.place ≡ place = cc in
          reported-more (omega arith) y z (certified-reported r.number r.place q)
