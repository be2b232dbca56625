-- What the end of the window over a run of draws promises (Specification 1.1, 3.9 and 7.4). Assumes nothing.
use Rattle.theory.proofs.Faults.{number_of, place_of}
use Rattle.std.specs.declared.result.Result.TheVariants.{Err}
use Rattle.definitions.specs.Refusals.{Fault, no_fault}
use mathlib.Core.Path.{◌≡◌, refl, sym, ◌∙◌, ap, ap₂, subst}
use mathlib.Core.Bool.{true, ◌&&◌}
use mathlib.Core.List.{List, []}
use Prim.Native.Nat.{ℕ, ◌/◌}
use native.Mathlib.Omega.{arith}
use borrow.Author.Tests.{eqb-false, eqb-true, not-false}
use lib.Dec.{eqb, leb}
use lib.IntN.{ℤ, pos}
use lib.ListN.{length, replicate}
use Rattle.definitions.specs.declared.Draw.{Draw}
use Rattle.definitions.specs.declared.Run.{Run}
use Rattle.definitions.specs.declared.View.{View}
use Rattle.definitions.specs.Limits.{record_width, window_limit}
use Rattle.definitions.specs.Lists.{concat}
use Rattle.definitions.specs.Vector.{Vector, padded}
use Rattle.definitions.specs.Lent.{Order, filled, numbers_of, whole_rows}
use Rattle.definitions.specs.Refusals.{Outcome, accepted, refused}
use Rattle.definitions.specs.Calls.{Listing, listing}
use Rattle.definitions.specs.Window.{Chain, Room, WindowEnd, answer_rows, answer_width, chain_fault, chain_fits, drawn_end, draws_of, run_end, visits, window_answered, window_call, window_of, window_refused}
use Rattle.theory.proofs.Tests.{and-true-left, and-true-right}
use Rattle.theory.proofs.Members.{Each}
use Rattle.theory.proofs.Areas.{filled-nothing}
use Rattle.theory.proofs.Faults.{Said, if_none, said-end, said-first, said-if, said-where, tests-none}
use Rattle.theory.proofs.Accepted.{padded-length}
use Rattle.theory.proofs.Counting.{if-cases}
use Rattle.theory.proofs.Rows.{short-rows}
use Rattle.theory.proofs.ListCall.{ListFacts, listing-facts}
use Rattle.theory.proofs.Refused.{list-reported}
use Rattle.draws.proofs.Running.{draws-count}
use Rattle.windows.specs.Promise.{RecordRefused, WindowAccepted, WindowPromise, WindowZero}
use Rattle.windows.specs.Found.{WindowEnds}
use Rattle.windows.proofs.Reaching.{RowReached, area-front, area-reached, run-few, run-reached}

-- zeros, by the size that an area has
cleared : {A : Type 0} (blank : A) {xs : List A} (size : ℕ) → length xs ≡ size → xs ≡ filled blank size [] → xs ≡ replicate (length xs) blank
cleared blank size long e = e ∙ filled-nothing blank size ∙ ap (λ (k : ℕ). replicate k blank) (sym long)

-- 6 is not met: the start has n numbers
start-sized : (n : ℕ) (chain : Chain) (answers_size : ℕ) → chain_fits n chain answers_size ≡ true → length chain.start ≡ n
unfolding chain_fits
start-sized n chain answers_size e =
    let a = and-true-left _ (leb (length chain.records / record_width) (answers_size / answer_width n)) e in
    let b = and-true-left _ (whole_rows (answer_width n) answers_size) a in
    let c = and-true-left _ (whole_rows record_width (length chain.records)) b in
    eqb-true (length chain.start) n (and-true-right (leb 1 chain.width && leb chain.width window_limit && leb 1 chain.cell && leb chain.cell n) _ c)

chain-sized : (n : ℕ) (chain : Chain) (answers_size : ℕ) → chain_fault n chain answers_size ≡ no_fault → length chain.start ≡ n
unfolding chain_fault
chain-sized n chain answers_size e = start-sized n chain answers_size (not-false (chain_fits n chain answers_size) (if_none 6 _ (tests-none _ _ e).0))

-- 6 and 14 are not 25
chain-said : (n : ℕ) (chain : Chain) (answers_size : ℕ) → Said (λ number place. ¬ (number ≡ 25)) (chain_fault n chain answers_size)
unfolding chain_fault
chain-said n chain answers_size =
    said-first _ (said-if 6 _ (λ h. omega arith)) (λ e. said-first _ (said-where 14 _ _ (λ p l h. omega arith)) (λ f. said-end _))

-- what a reader may conclude from the answer
record Concluded (order : Order) (chain : Chain) (answer : Outcome Run) (list : List ℤ) (group : List ℕ) (answers : List ℤ) : Type 0 where
  accepted : (run : Run) → answer ≡ accepted run → WindowAccepted order chain answer list group answers
  record_refused : (place : ℕ) → answer ≡ refused 25 place → RecordRefused order chain place list group answers
  refused : (number place : ℕ) → answer ≡ refused number place → ¬ (number ≡ 25) → WindowZero list group answers

module _ (order : Order) (chain : Chain) (room : Room) (answer : Outcome Run) (list : List ℤ) (group : List ℕ) (answers : List ℤ) where
  -- .. at an end that is due
  abbrev Concludes : WindowEnd → Type 0
  Concludes due = WindowEnds due answer list group answers → Concluded order chain answer list group answers

  module _ (long : length list ≡ room.list) (wide : length group ≡ room.group) (deep : length answers ≡ room.answers) where
    -- a refusal before the run
    refused-early : (number place : ℕ) → ¬ (number ≡ 25) → Concludes (window_refused room number place [])
    unfolding window_refused concat
    refused-early number place other E = record {
      accepted = λ run e. let z : ◌≡◌ {A = ℕ} 0 1 = cc in absurd (omega arith);
      record_refused = λ p e. let q : number ≡ 25 = ap number_of (sym E.answer_is ∙ e) in absurd (other q);
      refused = λ m p e ne. record {
        list_holds = cleared (pos 0) room.list long E.list_holds;
        group_holds = cleared 0 room.group wide E.group_holds;
        answers_hold = cleared (pos 0) room.answers deep E.answers_hold;
      };
    }

    -- ---- the run
    module _ (found : Listing) (listed : listing order room.list room.group ≡ accepted found) (sized : length chain.start ≡ order.n) where
      abbrev start : Vector
      start = padded chain.start

      abbrev draws : List Draw
      draws = draws_of chain.records

      abbrev view : View
      view = record { n = order.n; width = chain.width; cell = chain.cell }

      abbrev rows : List (List ℤ)
      rows = answer_rows view [] (visits found.table found.rows start draws)

      F : ListFacts order found
      F = listing-facts order room.list room.group found listed

      each : Each (RowReached order start) rows
      each = run-reached F start (padded-length chain.start (omega (arith, F.symmetric.fits))) (short-rows order.n chain.start sized) view refl draws

      -- every record is answered
      all-answered : length rows ≡ length draws → Concludes (window_answered order.n room found rows)
      unfolding window_answered
      all-answered all E = record {
        accepted = λ run e. record {
          found = found;
          kept = F.kept;
          says = E.answer_is ∙ ap (λ (k : ℕ). (accepted (record { records = k; rows = (length found.rows); members = (length found.table); stored = found.stored; sums = found.sums }))) (all ∙ draws-count chain.records);
          list_holds = E.list_holds ∙ ap (λ (k : ℕ). filled (pos 0) k (numbers_of order.n found.rows)) (sym long);
          group_holds = E.group_holds ∙ ap (λ (k : ℕ). filled 0 k (concat found.table)) (sym wide);
          reached = λ i l. area-reached order start each room.answers E.answers_hold i (omega (arith, draws-count chain.records));
        };
        record_refused = λ p e. let z : ◌≡◌ {A = ℕ} 0 1 = cc in absurd (omega arith);
        refused = λ m p e ne. let z : ◌≡◌ {A = ℕ} 0 1 = cc in absurd (omega arith);
      }

      -- 25: the first record that has no answer
      one-refused : (length rows ≡ length draws → ⊥) → Concludes (window_refused room 25 (length rows) rows)
      unfolding window_refused
      one-refused other E = record {
        accepted = λ run e. let z : ◌≡◌ {A = ℕ} 0 1 = cc in absurd (omega arith);
        record_refused = λ p e.
            let at : length rows ≡ p = ap place_of (sym E.answer_is ∙ e) in
            subst (λ (place : ℕ). RecordRefused order chain place list group answers) at (record {
              sent = omega (arith, run-few F view start draws, draws-count chain.records);
              list_holds = cleared (pos 0) room.list long E.list_holds;
              group_holds = cleared 0 room.group wide E.group_holds;
              answers_hold = E.answers_hold ∙ ap₂ (filled (pos 0)) (sym deep) (sym (area-front order start each room.answers E.answers_hold));
              reached = area-reached order start each room.answers E.answers_hold;
            });
        refused = λ m p e ne. let q : m ≡ 25 = ap number_of (sym e ∙ E.answer_is) in absurd (ne q);
      }

      run-concluded : Concludes (run_end order.n room found (length draws) rows)
      unfolding run_end
      run-concluded = if-cases Concludes (eqb (length rows) (length draws)) (λ t. all-answered (eqb-true _ _ t)) (λ f. one-refused (eqb-false _ _ f))

    -- ---- every end
    drawn-concluded : (found : Listing) → listing order room.list room.group ≡ accepted found → (fault : Fault) → chain_fault order.n chain room.answers ≡ fault → Concludes (drawn_end order.n chain room found fault)
    unfolding drawn_end
    drawn-concluded found q no_fault e = run-concluded found q (chain-sized order.n chain room.answers e)
    drawn-concluded found q (Err r) e = refused-early r.number r.place (subst (Said (λ m p. ¬ (m ≡ 25))) e (chain-said order.n chain room.answers)).said

    concluded : (o : Outcome Listing) → listing order room.list room.group ≡ o → Concludes (window_of order.n chain room o)
    unfolding window_of
    concluded (Err r) q = refused-early r.number r.place (λ e. omega (arith, (list-reported order room.list room.group r.number r.place q).own (omega arith)))
    concluded (accepted found) q = drawn-concluded found q (chain_fault order.n chain room.answers) refl

-- A WINDOW KEEPS ITS PROMISE
pub window-promise : (order : Order) (chain : Chain) (room : Room) {answer : Outcome Run} {list : List ℤ} {group : List ℕ} {answers : List ℤ} → WindowEnds (window_call order chain room) answer list group answers
    → length list ≡ room.list → length group ≡ room.group → length answers ≡ room.answers → WindowPromise order chain room answer list group answers
unfolding window_call
window-promise order chain room {answer} {list} {group} {answers} E long wide deep =
    let C = concluded order chain room answer list group answers long wide deep (listing order room.list room.group) refl E in
    record {
      answer_is = E.answer_is;
      list_holds = E.list_holds;
      group_holds = E.group_holds;
      answers_hold = E.answers_hold;
      accepted = C.accepted;
      record_refused = C.record_refused;
      refused = C.refused;
    }
