-- THE WINDOW FOR C keeps its promise (Specification 1.1, 3.9, 7.4 and 11): the run with its counts, or zeros in every area.
-- Assumes nothing.
use Rattle.std.specs.declared.result.Result.TheVariants.{Err}
use Rattle.definitions.specs.Refusals.{Fault, no_fault}
use Rattle.std.specs.Prelude.{if◌then◌else◌}
use mathlib.Core.Path.{◌≡◌, refl, sym, ap, subst, ◌∙◌}
use mathlib.Core.Bool.{Bool, true, false, true≢false}
use mathlib.Core.List.{List, []}
use Prim.Native.Nat.{ℕ, ◌/◌, ◌≤◌, ◌<◌, ◌^◌}
use native.Mathlib.Omega.{arith}
use lib.Dec.{eqb}
use lib.IntN.{ℤ, pos, negsuc}
use lib.Signed.{non_neg}
use lib.ListN.{length}
use Rattle.definitions.specs.declared.Run.{Run}
use Rattle.definitions.specs.Limits.{record_width}
use Rattle.definitions.specs.Lists.{concat}
use Rattle.definitions.specs.Vector.{padded}
use Rattle.definitions.specs.Lent.{Order, filled}
use Rattle.definitions.specs.Refusals.{Outcome, accepted, refused}
use Rattle.definitions.specs.Calls.{Listing, listing}
use Rattle.definitions.specs.Window.{Chain, Room, WindowEnd, answer_rows, chain_fault, drawn_end, draws_of, run_end, visits, window_answered, window_call, window_of, window_refused}
use Rattle.theory.proofs.Areas.{filled-nothing}
use Rattle.theory.proofs.Faults.{Said, said-end, said-first, said-if, said-where}
use Rattle.theory.proofs.Refused.{list-reported}
use Rattle.windows.specs.Promise.{RecordRefused, WindowPromise, WindowZero}
use Rattle.answers.specs.Refusal.{place_factor, refusal_of}
use Rattle.answers.proofs.Refusals.{number-low, refusal-negative, refusal-says}
use Rattle.lent.specs.Ends.{Reports, RunReports, RunSmall, is_told, lent_window, run_counts, run_result}
use Rattle.lent.specs.Promise.{CountsZero, Returned, WindowGiven, WindowLent}
use Rattle.lent.proofs.Reporting.{returned-refusal}

-- ---- the numbers of refusals

-- a number that a result can tell
abbrev Low : (number place : ℕ) → Type 0
Low number place = (1 ≤ number) × (number < place_factor)

-- the records that a run answers
abbrev records_of : Outcome Run → ℕ
records_of (accepted run) = run.records
records_of (Err r) = 0

abbrev LowRun : Outcome Run → Type 0
LowRun (accepted run) = Unit {0}
LowRun (Err r) = Low r.number r.place

tests-low : (n : ℕ) (chain : Chain) (size : ℕ) → Said Low (chain_fault n chain size)
unfolding chain_fault
tests-low n chain size =
    said-first _ (said-if 6 _ (omega arith, omega arith))
    (λ e. said-first _ (said-where 14 (length chain.start) _ (λ p h. (omega arith, omega arith))) (λ f. said-end Low))

-- every refusal of a window has such a number
window-low : (order : Order) (chain : Chain) (room : Room) → LowRun (window_call order chain room).answer
unfolding window_call window_of drawn_end run_end window_answered window_refused
window-low order chain room = go (listing order room.list room.group) refl
  where
    drawn : (found : Listing) (count : ℕ) (rows : List (List ℤ)) → LowRun (run_end order.n room found count rows).answer
    drawn found count rows = chosen (eqb (length rows) count)
      where
        chosen : (b : Bool) → LowRun (if b then window_answered order.n room found rows else window_refused room 25 (length rows) rows).answer
        chosen true = tt
        chosen false = (omega arith, omega arith)

    tested : (found : Listing) (fault : Fault) → Said Low fault → LowRun (drawn_end order.n chain room found fault).answer
    tested found (Err r) h = h.said
    tested found no_fault h =
        let draws = draws_of chain.records in
        drawn found (length draws) (answer_rows (record { n = order.n; width = chain.width; cell = chain.cell }) [] (visits found.table found.rows (padded chain.start) draws))

    go : (o : Outcome Listing) → listing order room.list room.group ≡ o → LowRun (window_of order.n chain room o).answer
    go (Err q) e = let r = list-reported order room.list room.group q.number q.place e in (r.some, number-low r)
    go (accepted found) e = tested found (chain_fault order.n chain room.answers) (tests-low order.n chain room.answers)

-- ---- the call

-- the same sizes, said otherwise
pub sizes-same : {l l' g g' a a' : ℕ} → l ≡ l' → g ≡ g' → a ≡ a' → ◌≡◌ {A = Room} (record { list = l; group = g; answers = a }) (record { list = l'; group = g'; answers = a' })
sizes-same {l' = l} {g} {g'} {a} p q r =
    ap (λ (k : ℕ). record { list = k; group = g; answers = a }) p ∙ ap (λ (k : ℕ). record { list = l; group = k; answers = a }) q ∙ ap (λ (k : ℕ). record { list = l; group = g'; answers = k }) r

pub window-sized : {order : Order} {chain : Chain} {room room' : Room} {run : Outcome Run} {list : List ℤ} {group : List ℕ} {answers : List ℤ} → room ≡ room'
    → WindowPromise order chain room run list group answers → WindowPromise order chain room' run list group answers
window-sized {order} {chain} {run = run} {list} {group} {answers} e P = subst (λ (r : Room). WindowPromise order chain r run list group answers) e P

module _ {order : Order} {chain : Chain} {room : Room} {run : Outcome Run} {list : List ℤ} {group : List ℕ} {answers : List ℤ} (P : WindowPromise order chain room run list group answers) where
  low : LowRun run
  low = subst LowRun (sym P.answer_is) (window-low order chain room)

  -- the number of records fits into a result, and so does the number of a refusal
  pub run_small : length chain.records < 2 ^ 64 → RunSmall run
  run_small h = go run refl
    where
      go : (r : Outcome Run) → run ≡ r → RunSmall r
      go (accepted done) e =
          let says = sym (P.accepted done e).says ∙ e in
          let count : length chain.records / record_width ≡ done.records = ap records_of says in
          omega (arith, count, h)
      go (Err r) e = (subst LowRun e low).1

-- zeros alone in the counts area
pub no-counts : {counts : List ℕ} → counts ≡ filled 0 (length counts) [] → CountsZero counts
no-counts {counts} e = e ∙ filled-nothing 0 (length counts)

module _ (order : Order) (chain : Chain) (list : List ℤ) (group : List ℕ) (answers : List ℤ) (counts : List ℕ) (result : ℤ) where
  abbrev areas : Room
  areas = record { list = length list; group = length group; answers = length answers }

  abbrev end : WindowEnd
  end = window_call order chain areas

  -- it can be told
  module _ {run : Outcome Run} (P : WindowPromise order chain areas run list group answers) (told : is_told run (length counts) ≡ true) (R : RunReports run (length counts) result counts) where
    due : end ≡ lent_window order chain areas (length counts)
    unfolding lent_window
    due = let e : is_told end.answer (length counts) ≡ true = ap (λ (r : Outcome Run). is_told r (length counts)) (sym P.answer_is) ∙ told in rw e refl

    same : run ≡ (lent_window order chain areas (length counts)).answer
    same = P.answer_is ∙ ap (λ (x : WindowEnd). x.answer) due

    -- what each run says
    accepts : (r : Outcome Run) → run ≡ r → (k : ℕ) → result ≡ pos k → WindowGiven order chain result list group answers counts
    accepts (accepted done) e k h = record {
      answer = run;
      kept = P.accepted done e;
      returned = record { results = R.results; counts_hold = R.counts_hold };
    }
    accepts (Err r) e k h =
        refusal-negative r.number r.place k (subst LowRun e (low P)).0 (sym (R.results ∙ ap run_result e) ∙ h)

    stays : (r : Outcome Run) → run ≡ r → (place : ℕ) → result ≡ refusal_of 25 place → RecordRefused order chain place list group answers × CountsZero counts
    stays (accepted done) e place h = refusal-negative 25 place done.records (omega arith) (sym h ∙ R.results ∙ ap run_result e)
    stays (Err r) e place h =
        let is = refusal-says r.number r.place 25 place (subst LowRun e (low P)).1 (omega arith) (sym (R.results ∙ ap run_result e) ∙ h) in (
          P.record_refused place (e ∙ ap (λ (m : ℕ). refused m r.place) is.0 ∙ ap (refused 25) is.1),
          no-counts (R.counts_hold ∙ ap (λ (x : Outcome Run). filled 0 (length counts) (run_counts x)) e),
        )

    refuses : (r : Outcome Run) → run ≡ r → (k : ℕ) → result ≡ negsuc k → ((place : ℕ) → ¬ (result ≡ refusal_of 25 place)) → WindowZero list group answers × CountsZero counts
    refuses (accepted done) e k h other = absurd (true≢false (ap non_neg (sym (R.results ∙ ap run_result e) ∙ h)))
    refuses (Err r) e k h other = (
      P.refused r.number r.place e (λ q. other r.place (R.results ∙ ap run_result e ∙ ap (λ (m : ℕ). refusal_of m r.place) q)),
      no-counts (R.counts_hold ∙ ap (λ (x : Outcome Run). filled 0 (length counts) (run_counts x)) e),
    )

    pub window-told : WindowLent order chain result list group answers counts
    window-told = record {
      returned = record { results = R.results ∙ ap run_result same; counts_hold = R.counts_hold ∙ ap (λ (r : Outcome Run). filled 0 (length counts) (run_counts r)) same };
      list_holds = P.list_holds ∙ ap (λ (x : WindowEnd). x.list) due;
      group_holds = P.group_holds ∙ ap (λ (x : WindowEnd). x.group) due;
      answers_hold = P.answers_hold ∙ ap (λ (x : WindowEnd). x.answers) due;
      accepted = accepts run refl;
      record_refused = stays run refl;
      refused = refuses run refl;
    }

  -- it cannot: zeros in every area
  module _ {run : Outcome Run} (is : run ≡ end.answer) (untold : is_told run (length counts) ≡ false) (R : Reports (refused 6 0) (length counts) result counts)
      (l : list ≡ filled (pos 0) (length list) []) (g : group ≡ filled 0 (length group) []) (a : answers ≡ filled (pos 0) (length answers) []) where
    ends : window_refused areas 6 0 [] ≡ lent_window order chain areas (length counts)
    unfolding lent_window
    ends = let e : is_told end.answer (length counts) ≡ false = ap (λ (r : Outcome Run). is_told r (length counts)) (sym is) ∙ untold in rw e refl

    returns : Returned (refused 6 0) result counts
    returns = returned-refusal R refl

    pub window-untold : WindowLent order chain result list group answers counts
    unfolding window_refused concat
    window-untold = record {
      returned = record {
        results = returns.results ∙ ap (λ (x : WindowEnd). run_result x.answer) ends;
        counts_hold = returns.counts_hold ∙ ap (λ (x : WindowEnd). filled 0 (length counts) (run_counts x.answer)) ends;
      };
      list_holds = l ∙ ap (λ (x : WindowEnd). x.list) ends;
      group_holds = g ∙ ap (λ (x : WindowEnd). x.group) ends;
      answers_hold = a ∙ ap (λ (x : WindowEnd). x.answers) ends;
      accepted = λ k h. refusal-negative 6 0 k (omega arith) (sym returns.results ∙ h);
      record_refused = λ place h. absurd (omega (arith, (refusal-says 6 0 25 place (omega arith) (omega arith) (sym returns.results ∙ h)).0));
      refused = λ k h other. (
        record { list_holds = l ∙ filled-nothing (pos 0) (length list); group_holds = g ∙ filled-nothing 0 (length group); answers_hold = a ∙ filled-nothing (pos 0) (length answers) },
        no-counts returns.counts_hold,
      );
    }
