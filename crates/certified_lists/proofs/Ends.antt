-- How a List with coefficients ends (Specification 3.5, 3.7 and 7.4). Assumes nothing.
use Rattle.std.specs.declared.result.Result.TheVariants.{Err}
use mathlib.Core.Path.{◌≡◌, refl, sym, ◌∙◌, ap}
use mathlib.Core.Bool.{cond}
use mathlib.Core.List.{List, []}
use Rattle.std.specs.Result.{is_err}
use Prim.Native.Nat.{ℕ}
use lib.IntN.{ℤ, pos}
use lib.ListN.{length}
use Rattle.definitions.specs.declared.Answer.{Answer}
use Rattle.definitions.specs.declared.Answer.TheVariants.{Moves}
use Rattle.definitions.specs.Lent.{Order, filled, generators_of}
use Rattle.definitions.specs.Refusals.{Outcome, accepted, refused, unless_fault}
use Rattle.definitions.specs.Calls.{CertifiedEnd, certified_call, certified_end, list_end}
use Rattle.definitions.specs.Calls.{CertifiedListing, certified_listing}
use Rattle.theory.proofs.Areas.{filled-nothing}
use Rattle.theory.proofs.Faults.{accepted-refused}
use Rattle.certified_theory.proofs.Promised.{certified-kept}
use Rattle.admission.proofs.Tests.{admission-refused}
use Rattle.reduction.specs.Areas.{sequences_in}
use Rattle.moves.proofs.Tables.{passed, table-admitted}
use Rattle.certified_lists.proofs.Admitted.{Tested, fits-order}
use Rattle.certified_lists.specs.Found.{CertifiedFinds, answer_of, certified_with}
use Rattle.certified_lists.specs.Promise.{CertifiedPromise}

-- an answer of numbers was found
accepting : (o : Outcome CertifiedListing) {rows g stored sums : ℕ} → answer_of o ≡ accepted (Moves rows g stored sums)
    → (found : CertifiedListing) × (o ≡ accepted found)
accepting (Err r) e = accepted-refused e
accepting (accepted found) e = (found, refl)

-- ---- what is found where a test is met
pub finds-refused : {n list_size group_size size number place : ℕ} {o : Outcome CertifiedListing} {list : List ℤ}
    {group : List ℕ} {coefficients : List ℤ} → o ≡ refused number place
    → CertifiedFinds n list_size group_size size o list group coefficients (refused number place)
finds-refused e = record {
  answer = sym (ap answer_of e);
  list_holds = λ found h. accepted-refused (sym e ∙ h);
  group_holds = λ found h. accepted-refused (sym e ∙ h);
  coefficients_hold = λ found h. accepted-refused (sym e ∙ h);
}

-- ---- 5 to 13 and 24
module _ (order : Order) (list_size group_size size : ℕ) where
  abbrev due : Outcome CertifiedListing
  due = certified_listing order list_size group_size size

  -- one of 5 to 11 is met
  pub finds-unadmitted : {number place : ℕ} {list : List ℤ} {group : List ℕ} {coefficients : List ℤ}
      → Tested order list_size group_size size group (refused number place)
      → CertifiedFinds order.n list_size group_size size due list group coefficients (refused number place)
  unfolding certified_listing unless_fault
  finds-unadmitted T = finds-refused (rw (← fits-order order list_size size, admission-refused _ _ T.answer) refl)

  -- none is: what was found with the table in the group area
  pub finds-admitted : {g : ℕ} {list : List ℤ} {group : List ℕ} {coefficients : List ℤ} {r : Outcome Answer}
      → Tested order list_size group_size size group (accepted g) → length group ≡ group_size
      → (let table = sequences_in (record { n = order.n; g = g }) group in
      CertifiedFinds order.n list_size (length group) size (certified_with order.n list_size table order.generators) list group coefficients r)
      → CertifiedFinds order.n list_size group_size size due list group coefficients r
  unfolding certified_listing unless_fault generators_of
  finds-admitted T long F =
      rw (← fits-order order list_size size, (passed order _ T long).0, ← table-admitted order _ T long, ← long) F

  -- ---- the promise
  abbrev end_of : Outcome CertifiedListing → CertifiedEnd
  end_of o = certified_end order.n list_size group_size size o

  -- what was found, and zeros after a refusal
  module _ {r : Outcome Answer} {list list' : List ℤ} {group group' : List ℕ} {coefficients coefficients' : List ℤ}
      (F : CertifiedFinds order.n list_size group_size size due list group coefficients r)
      (lists : list' ≡ cond (is_err r) (filled (pos 0) list_size []) list)
      (groups : group' ≡ cond (is_err r) (filled 0 group_size []) group)
      (noted : coefficients' ≡ cond (is_err r) (filled (pos 0) size []) coefficients)
      (long : length list' ≡ list_size) (wide : length group' ≡ group_size) (deep : length coefficients' ≡ size) where
    said : (o : Outcome CertifiedListing) → answer_of o ≡ (end_of o).answer
    unfolding certified_end list_end
    said (Err r) = refl
    said (accepted found) = refl

    ends : (o : Outcome CertifiedListing) → due ≡ o
        → (list' ≡ (end_of o).list) × (group' ≡ (end_of o).group) × (coefficients' ≡ (end_of o).coefficients)
    unfolding certified_end list_end
    ends (Err r) e = (rw (F.answer, e) at lists, rw (F.answer, e) at groups, rw (F.answer, e) at noted)
    ends (accepted found) e = (
      rw (F.answer, e) at lists ∙ F.list_holds found e,
      rw (F.answer, e) at groups ∙ F.group_holds found e,
      rw (F.answer, e) at noted ∙ F.coefficients_hold found e,
    )

    pub promise : CertifiedPromise order list_size group_size size r list' group' coefficients'
    unfolding certified_call
    promise = record {
      answers = F.answer ∙ said due;
      list_holds = (ends due refl).0;
      group_holds = (ends due refl).1;
      coefficients_hold = (ends due refl).2;
      accepted = λ rows g stored sums h.
          let A = accepting due (sym F.answer ∙ h) in
          record {
            found = A.0;
            kept = certified-kept order list_size group_size size A.0 A.1;
            says = rw A.1 at F.answer;
            list_holds = rw long (rw h at lists ∙ F.list_holds A.0 A.1);
            group_holds = rw wide (rw h at groups ∙ F.group_holds A.0 A.1);
            coefficients_hold = rw deep (rw h at noted ∙ F.coefficients_hold A.0 A.1);
          };
      refused = λ number place h. record {
        list_holds = rw long (rw h at lists ∙ filled-nothing (pos 0) list_size);
        group_holds = rw wide (rw h at groups ∙ filled-nothing 0 group_size);
        coefficients_hold = rw deep (rw h at noted ∙ filled-nothing (pos 0) size);
      };
    }
