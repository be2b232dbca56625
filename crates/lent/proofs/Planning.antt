-- THE BEST PLAN FOR C keeps its promise (Specification 1.1, 3.10, 7.4 and 11): the plan with its counts, or zeros in
-- every area. Assumes nothing.
use Rattle.std.specs.declared.result.Result.TheVariants.{Err}
use Rattle.definitions.specs.Refusals.{Fault, no_fault}
use mathlib.Core.Path.{◌≡◌, refl, sym, ap, subst, ◌∙◌}
use mathlib.Core.Bool.{true, false, true≢false}
use mathlib.Core.List.{List, []}
use Prim.Native.Nat.{ℕ, ◌≤◌, ◌<◌, ◌^◌}
use native.Mathlib.Omega.{arith}
use borrow.Author.Tests.{not-false}
use lib.IntN.{ℤ, pos, negsuc}
use lib.Signed.{non_neg}
use lib.ListN.{length, get_or}
use Rattle.definitions.specs.declared.Planned.{Planned}
use Rattle.definitions.specs.declared.Planned.TheVariants.{Cheapest, Spent}
use Rattle.definitions.specs.declared.Terms.{Terms}
use Rattle.definitions.specs.Limits.{cells}
use Rattle.definitions.specs.Orbit.{orbits}
use Rattle.definitions.specs.Lent.{Order, filled}
use Rattle.definitions.specs.Refusals.{Outcome, accepted, refused}
use Rattle.definitions.specs.Calls.{Listing, listing}
use Rattle.definitions.specs.Plan.{PlanEnd, PlanRoom, Problem, Stage, descended_end, is_cheapest, plan_call, plan_of}
use Rattle.definitions.specs.Plan.{plan_reached, plan_refused, planned_at, problem_fault}
use Rattle.theory.proofs.Areas.{filled-nothing}
use Rattle.theory.proofs.Counting.{if-cases}
use Rattle.theory.proofs.Faults.{Said, if_none, said-end, said-first, said-if, said-where}
use Rattle.theory.proofs.ListCall.{ListFacts, listing-facts}
use Rattle.theory.proofs.Refused.{list-reported}
use Rattle.plan_theory.proofs.Problems.{problem-sized, problem-sound}
use Rattle.plan_theory.proofs.Results.{descent-few}
use Rattle.plans.specs.Promise.{PlanPromise, PlanZero}
use Rattle.answers.specs.Refusal.{refusal_code}
use Rattle.answers.proofs.Refusals.{refusal-fits, refusal-negative}
use Rattle.lent.specs.Ends.{PlanReports, PlanSmall, Reports, is_plan_told, lent_plan, plan_counts, plan_result}
use Rattle.lent.specs.Promise.{CheapestGiven, CountsZero, PlanLent, PlanReturned, Returned, SpentGiven}
use Rattle.lent.proofs.Reporting.{returned-refusal}
use Rattle.lent.proofs.Windows.{no-counts}

-- ---- every answer can be told

-- a refusal that a result can tell
abbrev Tellable : (number place : ℕ) → Type 0
Tellable number place = (1 ≤ number) × (refusal_code number place < 2 ^ 63)

-- an answer that a result can tell
abbrev TellablePlan : Outcome Planned → Type 0
TellablePlan (accepted (Cheapest steps rows members stored sums)) = steps < 2 ^ 63
TellablePlan (accepted (Spent steps bound rows members stored sums)) = steps < 2 ^ 63
TellablePlan (Err r) = Tellable r.number r.place

module _ (n : ℕ) (problem : Problem) (plan_size : ℕ) where
  -- the places of 26 and 27 are cells
  tests-told : n ≤ cells → Said Tellable (problem_fault n problem plan_size)
  unfolding problem_fault
  tests-told h =
      said-first _ (said-if 6 _ (omega arith, omega arith))
      (λ e. let sizes = problem-sized n problem plan_size (not-false _ (if_none 6 _ e)) in
      said-first _ (said-where 26 (length problem.start) _ (λ p l. (omega arith, omega (arith, sizes.start))))
      (λ f. said-first _ (said-where 27 (length problem.costs) _ (λ p l. (omega arith, omega (arith, sizes.costs))))
      (λ g. said-end Tellable)))

-- a plan with few steps
planned-told : (terms : Terms) (found : Listing) (s : Stage) → s.steps < 2 ^ 63
    → TellablePlan (planned_at terms found s)
unfolding planned_at
planned-told terms found s h =
    if-cases TellablePlan (is_cheapest terms (orbits found.table found.rows) s) (λ t. h) (λ t. h)

module _ (order : Order) (problem : Problem) (room : PlanRoom) where
  module _ (found : Listing) (e : listing order room.list room.group ≡ accepted found) where
    facts : ListFacts order found
    facts = listing-facts order room.list room.group found e

    -- 6, 26, 27 and the descent
    tested : (fault : Fault) → problem_fault order.n problem room.plan ≡ fault → Said Tellable fault
        → TellablePlan (descended_end order.n problem room found fault).answer
    unfolding descended_end plan_reached plan_refused
    tested (Err r) f h = h.said
    tested no_fault f h =
        let S = problem-sound order.n problem room.plan f in
        let few = descent-few facts problem S.sized.start S.begins in
        planned-told _ found _ (omega (arith, few, S.sized.few))

  -- A RESULT CAN TELL EVERY ANSWER of a plan
  plan-tellable : TellablePlan (plan_call order problem room).answer
  unfolding plan_call plan_of plan_refused
  plan-tellable = go (listing order room.list room.group) refl
    where
      go : (o : Outcome Listing) → listing order room.list room.group ≡ o
          → TellablePlan (plan_of order.n problem room o).answer
      go (Err q) e =
          let r = list-reported order room.list room.group q.number q.place e in (r.some, refusal-fits r)
      go (accepted found) e =
          tested found e (problem_fault order.n problem room.plan) refl
          (tests-told order.n problem room.plan (facts found e).symmetric.fits)

-- ---- the call

-- the same sizes, said otherwise
pub plan-sized : {order : Order} {problem : Problem} {l l' g g' p p' : ℕ} {answer : Outcome Planned}
    {list : List ℤ} {group : List ℕ} {plan : List ℤ} → l ≡ l' → g ≡ g' → p ≡ p'
    → PlanPromise order problem (record { list = l; group = g; plan = p }) answer list group plan
    → PlanPromise order problem (record { list = l'; group = g'; plan = p' }) answer list group plan
plan-sized e f h P = rw (← e, ← f, ← h) P

module _ {order : Order} {problem : Problem} {room : PlanRoom} {answer : Outcome Planned} {list : List ℤ} {group : List ℕ}
    {plan : List ℤ} (P : PlanPromise order problem room answer list group plan) where
  tellable : TellablePlan answer
  tellable = subst TellablePlan (sym P.answer_is) (plan-tellable order problem room)

  -- the number of steps fits into a result, and so does a refusal
  pub plan-small : PlanSmall answer
  plan-small = go answer tellable
    where
      go : (a : Outcome Planned) → TellablePlan a → PlanSmall a
      go (accepted (Cheapest steps rows members stored sums)) h = h
      go (accepted (Spent steps bound rows members stored sums)) h = h
      go (Err r) h = h.1

module _ (order : Order) (problem : Problem) (list : List ℤ) (group : List ℕ) (plan : List ℤ) (counts : List ℕ)
    (result : ℤ) where
  abbrev areas : PlanRoom
  areas = record { list = length list; group = length group; plan = length plan }

  abbrev end : PlanEnd
  end = plan_call order problem areas

  -- it can be told
  module _ {answer : Outcome Planned} (P : PlanPromise order problem areas answer list group plan)
      (told : is_plan_told answer (length counts) ≡ true) (R : PlanReports answer (length counts) result counts) where
    due : end ≡ lent_plan order problem areas (length counts)
    unfolding lent_plan
    due =
        let same = ap (λ (a : Outcome Planned). is_plan_told a (length counts)) (sym P.answer_is) in
        let e : is_plan_told end.answer (length counts) ≡ true = same ∙ told in
        rw e refl

    -- the counts of the answer, said otherwise
    counts_of : {a : Outcome Planned} → answer ≡ a → counts ≡ filled 0 (length counts) (plan_counts a)
    counts_of e = R.counts_hold ∙ ap (λ (a : Outcome Planned). filled 0 (length counts) (plan_counts a)) e

    result-of : {a : Outcome Planned} → answer ≡ a → result ≡ plan_result a
    result-of e = R.results ∙ ap plan_result e

    returned-of : {a : Outcome Planned} → answer ≡ a → PlanReturned a result counts
    returned-of e = record { results = result-of e; counts_hold = counts_of e }

    -- a refusal is no number of steps
    steps-not : {X : Type 0} {number place k : ℕ} → answer ≡ refused number place → result ≡ pos k → X
    steps-not {number = number} {place} {k} e h =
        refusal-negative number place k (subst TellablePlan e (tellable P)).0 (sym (result-of e) ∙ h)

    -- what each answer says
    reaches : (a : Outcome Planned) → answer ≡ a → (k : ℕ) → result ≡ pos k → get_or counts 1 0 ≡ 1
        → CheapestGiven order problem result list group plan counts
    unfolding filled
    reaches (accepted (Cheapest steps rows members stored sums)) e k h one =
        record { answer = answer; kept = P.cheapest steps rows members stored sums e; returned = returned-of refl }
    reaches (accepted (Spent steps bound rows members stored sums)) e k h one =
        let z : ◌≡◌ {A = ℕ} 0 1 = sym (ap (λ (l : List ℕ). get_or l 1 0) (counts_of e)) ∙ one in absurd (omega arith)
    reaches (Err r) e k h one = steps-not e h

    spends : (a : Outcome Planned) → answer ≡ a → (k : ℕ) → result ≡ pos k → get_or counts 1 0 ≡ 0
        → SpentGiven order problem result list group plan counts
    unfolding filled
    spends (accepted (Cheapest steps rows members stored sums)) e k h none =
        let z : ◌≡◌ {A = ℕ} 1 0 = sym (ap (λ (l : List ℕ). get_or l 1 0) (counts_of e)) ∙ none in absurd (omega arith)
    spends (accepted (Spent steps bound rows members stored sums)) e k h none =
        record { answer = answer; kept = P.spent steps bound rows members stored sums e; returned = returned-of refl }
    spends (Err r) e k h none = steps-not e h

    refuses : (a : Outcome Planned) → answer ≡ a → (k : ℕ) → result ≡ negsuc k → PlanZero list group plan × CountsZero counts
    refuses (accepted (Cheapest steps rows members stored sums)) e k h = absurd (true≢false (ap non_neg (sym (result-of e) ∙ h)))
    refuses (accepted (Spent steps bound rows members stored sums)) e k h = absurd (true≢false (ap non_neg (sym (result-of e) ∙ h)))
    refuses (Err r) e k h = (P.refused r.number r.place e, no-counts (counts_of e))

    pub plan-told : PlanLent order problem result list group plan counts
    plan-told = record {
      returned = returned-of (P.answer_is ∙ ap (λ (x : PlanEnd). x.answer) due);
      list_holds = P.list_holds ∙ ap (λ (x : PlanEnd). x.list) due;
      group_holds = P.group_holds ∙ ap (λ (x : PlanEnd). x.group) due;
      plan_holds = P.plan_holds ∙ ap (λ (x : PlanEnd). x.plan) due;
      cheapest = reaches answer refl;
      spent = spends answer refl;
      refused = refuses answer refl;
    }

  -- it cannot: zeros in every area
  module _ {answer : Outcome Planned} (is : answer ≡ end.answer) (untold : is_plan_told answer (length counts) ≡ false)
      (R : Reports (refused 6 0) (length counts) result counts) (l : list ≡ filled (pos 0) (length list) [])
      (g : group ≡ filled 0 (length group) []) (p : plan ≡ filled (pos 0) (length plan) []) where
    ends : plan_refused areas 6 0 ≡ lent_plan order problem areas (length counts)
    unfolding lent_plan
    ends =
        let same = ap (λ (a : Outcome Planned). is_plan_told a (length counts)) (sym is) in
        let e : is_plan_told end.answer (length counts) ≡ false = same ∙ untold in
        rw e refl

    returns : Returned (refused 6 0) result counts
    returns = returned-refusal R refl

    pub plan-untold : PlanLent order problem result list group plan counts
    unfolding plan_refused
    plan-untold = record {
      returned = record {
        results = returns.results ∙ ap (λ (x : PlanEnd). plan_result x.answer) ends;
        counts_hold = returns.counts_hold ∙ ap (λ (x : PlanEnd). filled 0 (length counts) (plan_counts x.answer)) ends;
      };
      list_holds = l ∙ ap (λ (x : PlanEnd). x.list) ends;
      group_holds = g ∙ ap (λ (x : PlanEnd). x.group) ends;
      plan_holds = p ∙ ap (λ (x : PlanEnd). x.plan) ends;
      cheapest = λ k h one. refusal-negative 6 0 k (omega arith) (sym returns.results ∙ h);
      spent = λ k h none. refusal-negative 6 0 k (omega arith) (sym returns.results ∙ h);
      refused = λ k h. (
        record {
          list_holds = l ∙ filled-nothing (pos 0) (length list);
          group_holds = g ∙ filled-nothing 0 (length group);
          plan_holds = p ∙ filled-nothing (pos 0) (length plan);
        },
        no-counts returns.counts_hold,
      );
    }
