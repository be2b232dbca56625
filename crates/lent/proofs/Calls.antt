-- THE LENT CALLS FOR C keep their promises (Specification 1.1, 7.4 and 11): a result below zero leaves zeros, another
-- what
-- the call without counts leaves. Assumes nothing.
use Rattle.std.specs.declared.result.Result.TheVariants.{Err}
use Rattle.definitions.specs.Refusals.{Fault, no_fault, fault_at}
use mathlib.Core.Path.{◌≡◌, refl, sym, ap, ◌∙◌, subst, subst⁻¹}
use mathlib.Core.Bool.{true, false, true≢false}
use mathlib.Core.Logic.{◌↔◌}
use mathlib.Core.List.{List, []}
use Prim.Native.Nat.{ℕ, ◌/◌, ◌≤◌, ◌<◌, ◌^◌}
use native.Mathlib.Omega.{arith}
use borrow.Author.Tests.{le-leb}
use lib.IntN.{ℤ, pos, negsuc}
use lib.ListN.{length, replicate}
use lib.Signed.{lt_z}
use Rattle.definitions.specs.declared.Answer.{Answer}
use Rattle.definitions.specs.declared.Answer.TheVariants.{Passed}
use Rattle.definitions.specs.Lent.{Order, filled, table_of}
use Rattle.definitions.specs.Refusals.{Outcome, accepted, refused}
use Rattle.definitions.specs.Calls.{ListEnd, Listing, Parts, SplitEnd, CheckEnd, list_call, list_end, listing, parts}
use Rattle.definitions.specs.Calls.{check_call, check_end, check_fault, split_call, split_end}
use Rattle.definitions.specs.Calls.{CertifiedEnd, CertifiedListing, certified_call, certified_end, certified_listing}
use Rattle.theory.proofs.Areas.{filled-nothing, list-accepted, split-accepted}
use Rattle.theory.proofs.CheckCall.{vectors-count}
use Rattle.theory.proofs.Counts.{check-counts, listing-counts, split-counts}
use Rattle.theory.proofs.Refused.{check-answer-reported, list-answer-reported, split-answer-reported}
use Rattle.certified_theory.proofs.Forgetting.{certified-listing}
use Rattle.certified_theory.proofs.Reporting.{certified-answer-reported}
use Rattle.certified_theory.proofs.Written.{certified-accepted}
use Rattle.moves.specs.Promise.{CheckPassed, CheckPromise, ListAccepted, ListPromise, PastEntries}
use Rattle.moves.specs.Promise.{SplitAccepted, SplitPromise}
use Rattle.certified_lists.specs.Promise.{CertifiedAccepted, CertifiedPromise}
use Rattle.answers.specs.Refusal.{refusal_of}
use Rattle.answers.proofs.Refusals.{refusal-fits, refusal-negative}
use Rattle.lent.specs.Ends.{Reports, Small, counts_of, lent_certified, lent_check, lent_list, lent_split, result_of}
use Rattle.lent.specs.Promise.{CertifiedLent, CheckLent, ListLent, MayPass, Outside, Returned, SplitLent}
use Rattle.lent.proofs.Reporting.{reports-as, returned-all, returned-refusal}
use Rattle.lent.proofs.Ending.{Called, Counts, Ending, count-above, counts, ending, given, refusal-below}
use Rattle.lent.proofs.Ending.{refusal-called, refuses, turned}

-- ---- signs that do not fit
module _ {X : Type 0} {answer : Outcome Answer} {result : ℤ} {area : List ℕ} (r : Returned answer result area) where
  -- a count is not below zero
  count-not : Counts answer → lt_z result (pos 0) ≡ true → X
  count-not k h = absurd (true≢false (sym h ∙ ap (λ (z : ℤ). lt_z z (pos 0)) (r.results ∙ k.1) ∙ count-above k.0))

-- a refusal is
refusal-not : {X : Type 0} {number place : ℕ} {result : ℤ} {area : List ℕ} → 1 ≤ number
    → Returned (refused number place) result area → lt_z result (pos 0) ≡ false → X
refusal-not {number = number} {place} n r h =
    absurd (true≢false (sym (refusal-below number place n) ∙ ap (λ (z : ℤ). lt_z z (pos 0)) (sym r.results) ∙ h))

-- by the number itself
module _ {X : Type 0} {result : ℤ} {k : ℕ} where
  above-below : lt_z result (pos 0) ≡ true → result ≡ pos k → X
  above-below h e = absurd (true≢false (sym h ∙ ap (λ (z : ℤ). lt_z z (pos 0)) e ∙ count-above k))

  below-above : lt_z result (pos 0) ≡ false → result ≡ negsuc k → X
  below-above h e = absurd (true≢false (sym (ap (λ (z : ℤ). lt_z z (pos 0)) e) ∙ h))

-- an area that was cleared
pub zeroed : {A : Type 0} (blank : A) {size : ℕ} {area : List A} → area ≡ filled blank size [] → length area ≡ size
    → area ≡ replicate (length area) blank
zeroed blank {size} e l = e ∙ filled-nothing blank size ∙ ap (λ (k : ℕ). replicate k blank) (sym l)

-- ---- List
module _ (order : Order) (list_size group_size : ℕ) where
  -- a refusal of List
  abbrev list_refused : (number place : ℕ) → ListEnd
  list_refused number place = list_end order.n list_size group_size (refused number place)

  -- how List ends
  list-called : Called (λ (e : ListEnd). e.answer) (list_call order list_size group_size) list_refused
  unfolding list_call list_end
  list-called = go (listing order list_size group_size) refl
    where
      go : (o : Outcome Listing) → listing order list_size group_size ≡ o
          → Called (λ (e : ListEnd). e.answer) (list_call order list_size group_size) list_refused
      go (accepted found) e =
          counts (length found.rows, ap result_of (list-accepted order list_size group_size found e).answer)
      go (Err r) e =
          let q = ap (list_end order.n list_size group_size) e in
          let h = ap (λ (x : ListEnd). x.answer) q in
          refuses r.number r.place h q (list-answer-reported order list_size group_size r.number r.place h)

  -- its answer can be returned
  pub list-small : Small (list_call order list_size group_size).answer
  unfolding list_call list_end
  list-small = go (listing order list_size group_size) refl
    where
      go : (o : Outcome Listing) → listing order list_size group_size ≡ o
          → Small (list_end order.n list_size group_size o).answer
      go (accepted found) e = omega (arith, (listing-counts order list_size group_size found e).rows)
      go (Err r) e =
          refusal-fits
          (list-answer-reported order list_size group_size r.number r.place (ap (λ (o : Outcome Listing). (list_end order.n list_size group_size o).answer) e))

-- the same sizes, said otherwise
pub list-sized : {order : Order} {list_size list_size' group_size group_size' : ℕ} {answer : Outcome Answer} {list : List ℤ}
    {group : List ℕ} → list_size ≡ list_size' → group_size ≡ group_size'
    → ListPromise order list_size group_size answer list group → ListPromise order list_size' group_size' answer list group
list-sized {order} {list_size' = list_size'} {group_size = group_size} {answer = answer} {list} {group} e f P =
    subst (λ (k : ℕ). ListPromise order list_size' k answer list group) f
    (subst (λ (k : ℕ). ListPromise order k group_size answer list group) e P)

module _ (order : Order) (list : List ℤ) (group area : List ℕ) {answer : Outcome Answer} {first : List ℤ} {table : List ℕ}
    {result : ℤ} (P : ListPromise order (length list) (length group) answer first table)
    (R : Reports answer (length area) result area) where
  -- its two ends
  abbrev ListEnding : Type 0
  ListEnding =
      Ending (λ (e : ListEnd). e.answer) (list_call order (length list) (length group))
      (list_refused order (length list) (length group)) result area

  -- how the lent call ends
  list-ending : ListEnding
  list-ending = ending _ _ _ (reports-as (sym P.answers) R) (list-called order (length list) (length group))

  -- the list that was found
  list-found : Counts (list_call order (length list) (length group)).answer → list ≡ first → group ≡ table
      → ListAccepted order answer list group
  unfolding list_call list_end
  list-found k l g = go (listing order (length list) (length group)) refl k
    where
      go : (o : Outcome Listing) → listing order (length list) (length group) ≡ o
          → Counts (list_end order.n (length list) (length group) o).answer → ListAccepted order answer list group
      go (accepted found) e k =
          let A = P.accepted _ _ _ _ (P.answers ∙ (list-accepted order (length list) (length group) found e).answer) in
          subst⁻¹ (λ (x : List ℤ). ListAccepted order answer x group) l (subst⁻¹ (ListAccepted order answer first) g A)
      go (Err r) e k =
          let h = ap (λ (o : Outcome Listing). (list_end order.n (length list) (length group) o).answer) e in
          refusal-negative r.number r.place k.0 (list-answer-reported order (length list) (length group) r.number r.place h).some k.1

  -- the areas stay as they are
  pub list-kept : lt_z result (pos 0) ≡ false → list ≡ first → group ≡ table → ListLent order result list group area
  unfolding lent_list
  list-kept h l g = go list-ending
    where
      go : ListEnding → ListLent order result list group area
      go (turned number place n d r) = refusal-not n r h
      go (given k room d r) = record {
        returned = subst⁻¹ (λ (e : ListEnd). Returned e.answer result area) d r;
        list_holds = l ∙ P.list_holds ∙ ap (λ (e : ListEnd). e.list) (sym d);
        group_holds = g ∙ P.group_holds ∙ ap (λ (e : ListEnd). e.group) (sym d);
        accepted = λ j e. record {
          answer = answer;
          kept = list-found k l g;
          returned = subst⁻¹ (λ (a : Outcome Answer). Returned a result area) P.answers r;
        };
        refused = λ j e. below-above h e;
      }

  -- the areas are cleared
  pub list-cleared : lt_z result (pos 0) ≡ true → list ≡ replicate (length list) (pos 0)
      → group ≡ replicate (length group) 0
      → ListLent order result list group area
  unfolding lent_list list_end
  list-cleared h l g = go list-ending
    where
      go : ListEnding → ListLent order result list group area
      go (given k room d r) = count-not r k h
      go (turned number place n d r) = record {
        returned = subst⁻¹ (λ (e : ListEnd). Returned e.answer result area) d r;
        list_holds = l ∙ sym (filled-nothing (pos 0) (length list)) ∙ ap (λ (e : ListEnd). e.list) (sym d);
        group_holds = g ∙ sym (filled-nothing 0 (length group)) ∙ ap (λ (e : ListEnd). e.group) (sym d);
        accepted = λ j e. above-below h e;
        refused = λ j e. (record { list_holds = l; group_holds = g }, r.counts_hold ∙ filled-nothing 0 (length area));
      }

-- ---- List with coefficients
module _ (order : Order) (list_size group_size coefficient_size : ℕ) where
  -- a refusal of the List with coefficients
  abbrev certified_refused : (number place : ℕ) → CertifiedEnd
  certified_refused number place = certified_end order.n list_size group_size coefficient_size (refused number place)

  -- how it ends
  certified-called : Called (λ (e : CertifiedEnd). e.answer) (certified_call order list_size group_size coefficient_size)
      certified_refused
  unfolding certified_call certified_end list_end
  certified-called = go (certified_listing order list_size group_size coefficient_size) refl
    where
      go : (o : Outcome CertifiedListing) → certified_listing order list_size group_size coefficient_size ≡ o
          → Called (λ (e : CertifiedEnd). e.answer) (certified_call order list_size group_size coefficient_size)
          certified_refused
      go (accepted found) e =
          counts
          (length found.listing.rows, ap result_of (certified-accepted order list_size group_size coefficient_size found e).answer)
      go (Err r) e =
          let q = ap (certified_end order.n list_size group_size coefficient_size) e in
          let h = ap (λ (x : CertifiedEnd). x.answer) q in
          refuses r.number r.place h q (certified-answer-reported order list_size group_size coefficient_size r.number r.place h)

  -- its answer can be returned
  pub certified-small : Small (certified_call order list_size group_size coefficient_size).answer
  unfolding certified_call certified_end list_end
  certified-small = go (certified_listing order list_size group_size coefficient_size) refl
    where
      go : (o : Outcome CertifiedListing) → certified_listing order list_size group_size coefficient_size ≡ o
          → Small (certified_end order.n list_size group_size coefficient_size o).answer
      go (accepted found) e =
          let plain = certified-listing order list_size group_size coefficient_size found e in
          omega (arith, (listing-counts order list_size group_size found.listing plain).rows)
      go (Err r) e =
          let h = ap (λ (o : Outcome CertifiedListing). (certified_end order.n list_size group_size coefficient_size o).answer) e in
          refusal-fits (certified-answer-reported order list_size group_size coefficient_size r.number r.place h)

-- the same sizes, said otherwise
pub certified-sized : {order : Order} {list_size list_size' group_size group_size' size size' : ℕ} {answer : Outcome Answer}
    {list : List ℤ} {group : List ℕ} {coefficients : List ℤ} → list_size ≡ list_size' → group_size ≡ group_size'
    → size ≡ size' → CertifiedPromise order list_size group_size size answer list group coefficients
    → CertifiedPromise order list_size' group_size' size' answer list group coefficients
certified-sized {order} {list_size' = ls} {group_size} {group_size' = gs} {size} {answer = a} {list} {group} {coefficients} e f g P =
    subst (λ (k : ℕ). CertifiedPromise order ls gs k a list group coefficients) g
    (subst (λ (k : ℕ). CertifiedPromise order ls k size a list group coefficients) f
    (subst (λ (k : ℕ). CertifiedPromise order k group_size size a list group coefficients) e P))

module _ (order : Order) (list : List ℤ) (group : List ℕ) (coefficients : List ℤ) (area : List ℕ) {answer : Outcome Answer}
    {first : List ℤ} {table : List ℕ} {noted : List ℤ} {result : ℤ}
    (P : CertifiedPromise order (length list) (length group) (length coefficients) answer first table noted)
    (R : Reports answer (length area) result area) where
  -- the call without counts
  abbrev certified_called : CertifiedEnd
  certified_called = certified_call order (length list) (length group) (length coefficients)

  -- its two ends
  abbrev CertifiedEnding : Type 0
  CertifiedEnding =
      Ending (λ (e : CertifiedEnd). e.answer) certified_called
      (certified_refused order (length list) (length group) (length coefficients)) result area

  -- how the lent call ends
  certified-ending : CertifiedEnding
  certified-ending =
      ending _ _ _ (reports-as (sym P.answers) R)
      (certified-called order (length list) (length group) (length coefficients))

  -- the list that was found
  certified-found : Counts certified_called.answer → list ≡ first → group ≡ table → coefficients ≡ noted
      → CertifiedAccepted order (length list) (length group) answer list group coefficients
  unfolding certified_call certified_end list_end
  certified-found k l g m =
      go (certified_listing order (length list) (length group) (length coefficients)) refl k
    where
      Found : List ℤ → List ℕ → List ℤ → Type 0
      Found x y z = CertifiedAccepted order (length list) (length group) answer x y z

      go : (o : Outcome CertifiedListing)
          → certified_listing order (length list) (length group) (length coefficients) ≡ o
          → Counts (certified_end order.n (length list) (length group) (length coefficients) o).answer
          → Found list group coefficients
      go (accepted found) e k =
          let H = certified-accepted order (length list) (length group) (length coefficients) found e in
          let A = P.accepted _ _ _ _ (P.answers ∙ H.answer) in
          subst⁻¹ (λ (x : List ℤ). Found x group coefficients) l
          (subst⁻¹ (λ (y : List ℕ). Found first y coefficients) g (subst⁻¹ (λ (z : List ℤ). Found first table z) m A))
      go (Err r) e k =
          let h = ap (λ (o : Outcome CertifiedListing). (certified_end order.n (length list) (length group) (length coefficients) o).answer) e in
          refusal-negative r.number r.place k.0
          (certified-answer-reported order (length list) (length group) (length coefficients) r.number r.place h).some k.1

  -- the areas stay as they are
  pub certified-kept : lt_z result (pos 0) ≡ false → list ≡ first → group ≡ table → coefficients ≡ noted
      → CertifiedLent order result list group coefficients area
  unfolding lent_certified
  certified-kept h l g m = go certified-ending
    where
      go : CertifiedEnding → CertifiedLent order result list group coefficients area
      go (turned number place n d r) = refusal-not n r h
      go (given k room d r) = record {
        returned = subst⁻¹ (λ (e : CertifiedEnd). Returned e.answer result area) d r;
        list_holds = l ∙ P.list_holds ∙ ap (λ (e : CertifiedEnd). e.list) (sym d);
        group_holds = g ∙ P.group_holds ∙ ap (λ (e : CertifiedEnd). e.group) (sym d);
        coefficients_hold = m ∙ P.coefficients_hold ∙ ap (λ (e : CertifiedEnd). e.coefficients) (sym d);
        accepted = λ j e. record {
          answer = answer;
          kept = certified-found k l g m;
          returned = subst⁻¹ (λ (a : Outcome Answer). Returned a result area) P.answers r;
        };
        refused = λ j e. below-above h e;
      }

  -- the areas are cleared
  pub certified-cleared : lt_z result (pos 0) ≡ true → list ≡ replicate (length list) (pos 0)
      → group ≡ replicate (length group) 0 → coefficients ≡ replicate (length coefficients) (pos 0)
      → CertifiedLent order result list group coefficients area
  unfolding lent_certified certified_end list_end
  certified-cleared h l g m = go certified-ending
    where
      go : CertifiedEnding → CertifiedLent order result list group coefficients area
      go (given k room d r) = count-not r k h
      go (turned number place n d r) = record {
        returned = subst⁻¹ (λ (e : CertifiedEnd). Returned e.answer result area) d r;
        list_holds = l ∙ sym (filled-nothing (pos 0) (length list)) ∙ ap (λ (e : CertifiedEnd). e.list) (sym d);
        group_holds = g ∙ sym (filled-nothing 0 (length group)) ∙ ap (λ (e : CertifiedEnd). e.group) (sym d);
        coefficients_hold = m ∙ sym (filled-nothing (pos 0) (length coefficients)) ∙ ap (λ (e : CertifiedEnd). e.coefficients) (sym d);
        accepted = λ j e. above-below h e;
        refused = λ j e. (
          record { list_holds = l; group_holds = g; coefficients_hold = m },
          r.counts_hold ∙ filled-nothing 0 (length area),
        );
      }

-- ---- Split
module _ (order : Order) (vector : List ℤ) (list_size group_size pieces_size : ℕ) where
  -- a refusal of Split
  abbrev split_refused : (number place : ℕ) → SplitEnd
  split_refused number place = split_end order.n list_size group_size pieces_size (refused number place)

  -- how Split ends
  split-called : Called (λ (e : SplitEnd). e.answer) (split_call order vector list_size group_size pieces_size)
      split_refused
  unfolding split_call split_end
  split-called = go (parts order vector list_size group_size pieces_size) refl
    where
      go : (o : Outcome Parts) → parts order vector list_size group_size pieces_size ≡ o
          → Called (λ (e : SplitEnd). e.answer) (split_call order vector list_size group_size pieces_size) split_refused
      go (accepted found) e =
          counts
          (length found.pieces, ap result_of (split-accepted order vector list_size group_size pieces_size found e).answer)
      go (Err r) e =
          let q = ap (split_end order.n list_size group_size pieces_size) e in
          let h = ap (λ (x : SplitEnd). x.answer) q in
          refuses r.number r.place h q (split-answer-reported order vector list_size group_size pieces_size r.number r.place h)

  -- its answer can be returned
  pub split-small : pieces_size < 2 ^ 64 → Small (split_call order vector list_size group_size pieces_size).answer
  unfolding split_call split_end
  split-small fits = go (parts order vector list_size group_size pieces_size) refl
    where
      go : (o : Outcome Parts) → parts order vector list_size group_size pieces_size ≡ o
          → Small (split_end order.n list_size group_size pieces_size o).answer
      go (accepted found) e = omega (arith, (split-counts order vector list_size group_size pieces_size found e).room)
      go (Err r) e =
          let h = ap (λ (o : Outcome Parts). (split_end order.n list_size group_size pieces_size o).answer) e in
          refusal-fits (split-answer-reported order vector list_size group_size pieces_size r.number r.place h)

-- the same sizes, said otherwise
pub split-sized : {order : Order} {vector : List ℤ} {list_size list_size' group_size group_size' pieces_size pieces_size' : ℕ}
    {answer : Outcome Answer} {list : List ℤ} {group : List ℕ} {pieces : List ℤ} → list_size ≡ list_size'
    → group_size ≡ group_size' → pieces_size ≡ pieces_size'
    → SplitPromise order vector list_size group_size pieces_size answer list group pieces
    → SplitPromise order vector list_size' group_size' pieces_size' answer list group pieces
split-sized {order} {vector} {list_size' = ls} {group_size} {group_size' = gs} {pieces_size} {answer = a} {list} {group} {pieces} e f g P =
    subst (λ (k : ℕ). SplitPromise order vector ls gs k a list group pieces) g
    (subst (λ (k : ℕ). SplitPromise order vector ls k pieces_size a list group pieces) f
    (subst (λ (k : ℕ). SplitPromise order vector k group_size pieces_size a list group pieces) e P))

module _ (order : Order) (vector list : List ℤ) (group : List ℕ) (pieces : List ℤ) (area : List ℕ) {answer : Outcome Answer}
    {first : List ℤ} {table : List ℕ} {made : List ℤ} {result : ℤ}
    (P : SplitPromise order vector (length list) (length group) (length pieces) answer first table made)
    (R : Reports answer (length area) result area) where
  -- the call without counts
  abbrev call : SplitEnd
  call = split_call order vector (length list) (length group) (length pieces)

  abbrev refused_as : (number place : ℕ) → SplitEnd
  refused_as = split_refused order vector (length list) (length group) (length pieces)

  called : Called (λ (e : SplitEnd). e.answer) call refused_as
  called = split-called order vector (length list) (length group) (length pieces)

  reports : Reports call.answer (length area) result area
  reports = reports-as (sym P.answers) R

  -- how the lent call ends
  split-ending : Ending (λ (e : SplitEnd). e.answer) call refused_as result area
  split-ending = ending _ _ _ reports called

  -- the pieces that were found
  split-found : Counts call.answer → list ≡ first → group ≡ table → pieces ≡ made
      → SplitAccepted order vector answer list group pieces
  unfolding split_call split_end
  split-found k l g m = go (parts order vector (length list) (length group) (length pieces)) refl k
    where
      go : (o : Outcome Parts) → parts order vector (length list) (length group) (length pieces) ≡ o
          → Counts (split_end order.n (length list) (length group) (length pieces) o).answer
          → SplitAccepted order vector answer list group pieces
      go (accepted found) e k =
          let h = (split-accepted order vector (length list) (length group) (length pieces) found e).answer in
          let A = P.accepted _ _ _ _ _ (P.answers ∙ h) in
          subst⁻¹ (λ (x : List ℤ). SplitAccepted order vector answer x group pieces) l
          (subst⁻¹ (λ (x : List ℕ). SplitAccepted order vector answer first x pieces) g
          (subst⁻¹ (SplitAccepted order vector answer first table) m A))
      go (Err r) e k =
          let h =
          ap (λ (o : Outcome Parts). (split_end order.n (length list) (length group) (length pieces) o).answer) e in
          let q = split-answer-reported order vector (length list) (length group) (length pieces) r.number r.place h in
          refusal-negative r.number r.place k.0 q.some k.1

  -- 15 is said only of a vector outside the lattice
  split-outside : result ≡ refusal_of 15 0 → Outside order vector
  split-outside q =
      let e = refusal-called _ _ _ reports called 15 0 (omega arith) (omega arith) (λ h. omega arith) q in
      P.outside (P.answers ∙ e)

  -- and past 14 exactly then
  split-exactly : PastEntries order vector (length list) (length group) (length pieces)
      → (result ≡ refusal_of 15 0) ↔ Outside order vector
  split-exactly past =
      (split-outside, λ out. (returned-refusal R ((P.exactly past).1 out)).results)

  -- the areas stay as they are
  pub split-kept : lt_z result (pos 0) ≡ false → list ≡ first → group ≡ table → pieces ≡ made
      → SplitLent order vector result list group pieces area
  unfolding lent_split
  split-kept h l g m = go split-ending
    where
      go : Ending (λ (e : SplitEnd). e.answer) call refused_as result area
          → SplitLent order vector result list group pieces area
      go (turned number place n d r) = refusal-not n r h
      go (given k room d r) = record {
        returned = subst⁻¹ (λ (e : SplitEnd). Returned e.answer result area) d r;
        list_holds = l ∙ P.list_holds ∙ ap (λ (e : SplitEnd). e.list) (sym d);
        group_holds = g ∙ P.group_holds ∙ ap (λ (e : SplitEnd). e.group) (sym d);
        pieces_holds = m ∙ P.pieces_holds ∙ ap (λ (e : SplitEnd). e.pieces) (sym d);
        accepted = λ j e. record {
          answer = answer;
          kept = split-found k l g m;
          returned = subst⁻¹ (λ (a : Outcome Answer). Returned a result area) P.answers r;
        };
        refused = λ j e. below-above h e;
        outside = split-outside;
        exactly = split-exactly;
      }

  -- the areas are cleared
  pub split-cleared : lt_z result (pos 0) ≡ true → list ≡ replicate (length list) (pos 0)
      → group ≡ replicate (length group) 0 → pieces ≡ replicate (length pieces) (pos 0)
      → SplitLent order vector result list group pieces area
  unfolding lent_split split_end
  split-cleared h l g m = go split-ending
    where
      go : Ending (λ (e : SplitEnd). e.answer) call refused_as result area
          → SplitLent order vector result list group pieces area
      go (given k room d r) = count-not r k h
      go (turned number place n d r) = record {
        returned = subst⁻¹ (λ (e : SplitEnd). Returned e.answer result area) d r;
        list_holds = l ∙ sym (filled-nothing (pos 0) (length list)) ∙ ap (λ (e : SplitEnd). e.list) (sym d);
        group_holds = g ∙ sym (filled-nothing 0 (length group)) ∙ ap (λ (e : SplitEnd). e.group) (sym d);
        pieces_holds = m ∙ sym (filled-nothing (pos 0) (length pieces)) ∙ ap (λ (e : SplitEnd). e.pieces) (sym d);
        accepted = λ j e. above-below h e;
        refused = λ j e. (
          record { list_holds = l; group_holds = g; pieces_holds = m },
          r.counts_hold ∙ filled-nothing 0 (length area),
        );
        outside = split-outside;
        exactly = split-exactly;
      }

-- ---- Check
module _ (order : Order) (rows coefficients : List ℤ) (group_size : ℕ) where
  -- a refusal of Check
  abbrev check_refused : (number place : ℕ) → CheckEnd
  check_refused number place = check_end group_size 0 [] (fault_at number place)

  -- how Check ends
  check-called : Called (λ (e : CheckEnd). e.answer) (check_call order rows coefficients group_size) check_refused
  unfolding check_call check_end
  check-called = go (check_fault order rows coefficients group_size) refl
    where
      go : (f : Fault) → check_fault order rows coefficients group_size ≡ f
          → Called (λ (e : CheckEnd). e.answer) (check_call order rows coefficients group_size) check_refused
      go no_fault e =
          counts
          (length rows / order.n, ap (λ (f : Fault). result_of (check_end group_size (length rows / order.n) (table_of order group_size) f).answer) e)
      go (Err r) e =
          let q = ap (check_end group_size (length rows / order.n) (table_of order group_size)) e in
          let h = ap (λ (x : CheckEnd). x.answer) q in
          refuses r.number r.place h q (check-answer-reported order rows coefficients group_size r.number r.place h)

  -- its answer can be returned
  pub check-small : Small (check_call order rows coefficients group_size).answer
  unfolding check_call check_end
  check-small = go (check_fault order rows coefficients group_size) refl
    where
      go : (f : Fault) → check_fault order rows coefficients group_size ≡ f
          → Small (check_end group_size (length rows / order.n) (table_of order group_size) f).answer
      go no_fault e = omega (arith, (check-counts order rows coefficients group_size e).rows)
      go (Err r) e =
          let h =
          ap (λ (f : Fault). (check_end group_size (length rows / order.n) (table_of order group_size) f).answer) e in
          refusal-fits (check-answer-reported order rows coefficients group_size r.number r.place h)

  -- the answer of a pass
  check-passes : Counts (check_call order rows coefficients group_size).answer
      → (count : ℕ) × (sums : ℕ) × ((check_call order rows coefficients group_size).answer ≡ accepted (Passed count sums))
  unfolding check_call check_end
  check-passes k = go (check_fault order rows coefficients group_size) refl k
    where
      go : (f : Fault) → check_fault order rows coefficients group_size ≡ f
          → Counts (check_end group_size (length rows / order.n) (table_of order group_size) f).answer
          → (count : ℕ) × (sums : ℕ) × ((check_end group_size (length rows / order.n) (table_of order group_size) f).answer ≡ accepted (Passed count sums))
      go no_fault e k = (_, _, refl)
      go (Err r) e k =
          let h =
          ap (λ (f : Fault). (check_end group_size (length rows / order.n) (table_of order group_size) f).answer) e in
          refusal-negative r.number r.place k.0 (check-answer-reported order rows coefficients group_size r.number r.place h).some k.1

-- the same size, said otherwise
pub check-sized : {order : Order} {rows coefficients : List ℤ} {size size' : ℕ} {answer : Outcome Answer} {group : List ℕ}
    → size ≡ size' → CheckPromise order rows coefficients size answer group
    → CheckPromise order rows coefficients size' answer group
check-sized {order} {rows} {coefficients} {answer = answer} {group} e P =
    subst (λ (k : ℕ). CheckPromise order rows coefficients k answer group) e P

module _ (order : Order) (rows coefficients : List ℤ) (group area : List ℕ) {answer : Outcome Answer} {table : List ℕ}
    {result : ℤ} (P : CheckPromise order rows coefficients (length group) answer table)
    (R : Reports answer (length area) result area) where
  -- how the lent call ends
  check-ending : Ending (λ (e : CheckEnd). e.answer) (check_call order rows coefficients (length group))
      (check_refused order rows coefficients (length group)) result area
  check-ending = ending _ _ _ (reports-as (sym P.answers) R) (check-called order rows coefficients (length group))

  -- a list that may pass does
  may-pass : MayPass order rows coefficients group area → result ≡ pos (length rows / order.n)
  may-pass M =
      let R' = reports-as (sym (P.passes.1 (M.rules, M.whole))) R in
      (returned-all R' (le-leb 2 (length area) M.roomy)).results ∙ ap pos (vectors-count order.n rows)

  -- the area stays as it is
  pub check-kept : lt_z result (pos 0) ≡ false → group ≡ table → CheckLent order rows coefficients result group area
  unfolding lent_check
  check-kept h g = go check-ending
    where
      go : Ending (λ (e : CheckEnd). e.answer) (check_call order rows coefficients (length group))
          (check_refused order rows coefficients (length group)) result area
          → CheckLent order rows coefficients result group area
      go (turned number place n d r) = refusal-not n r h
      go (given k room d r) =
          let p = check-passes order rows coefficients (length group) k in
          let C = P.passed p.0 p.1 (P.answers ∙ p.2) in
          record {
            returned = subst⁻¹ (λ (e : CheckEnd). Returned e.answer result area) d r;
            group_holds = g ∙ P.group_holds ∙ ap (λ (e : CheckEnd). e.group) (sym d);
            accepted = λ j e. record {
              count = p.0;
              sums = p.1;
              kept = subst⁻¹ (λ (x : List ℕ). CheckPassed order rows coefficients (length group) x p.0 p.1) g C;
              returned = subst (λ (a : Outcome Answer). Returned a result area) p.2 r;
            };
            passes = (
              λ e. record {
                rules = C.kept;
                whole = C.whole;
                roomy = subst (λ (a : Outcome Answer). length (counts_of a) ≤ length area) p.2 room;
              },
              may-pass,
            );
            refused = λ j e. below-above h e;
          }

  -- the area is cleared
  pub check-cleared : lt_z result (pos 0) ≡ true → group ≡ replicate (length group) 0
      → CheckLent order rows coefficients result group area
  unfolding lent_check check_end
  check-cleared h g = go check-ending
    where
      go : Ending (λ (e : CheckEnd). e.answer) (check_call order rows coefficients (length group))
          (check_refused order rows coefficients (length group)) result area
          → CheckLent order rows coefficients result group area
      go (given k room d r) = count-not r k h
      go (turned number place n d r) = record {
        returned = subst⁻¹ (λ (e : CheckEnd). Returned e.answer result area) d r;
        group_holds = g ∙ sym (filled-nothing 0 (length group)) ∙ ap (λ (e : CheckEnd). e.group) (sym d);
        accepted = λ j e. above-below h e;
        passes = (λ e. above-below h e, may-pass);
        refused = λ j e. (g, r.counts_hold ∙ filled-nothing 0 (length area));
      }
