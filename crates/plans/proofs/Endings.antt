-- How the search for the best plan ends, once its list is there (Specification 3.10 and 7.4). Assumes nothing.
use Rattle.definitions.specs.Refusals.{Outcome}
use Rattle.definitions.specs.Refusals.{no_fault, fault_at}
use Rattle.std.specs.Prelude.{if◌then◌else◌}
use mathlib.Core.Path.{◌≡◌, refl, sym, ap, ap₂, ◌∙◌}
use mathlib.Core.List.{List, [], ◌++◌}
use Prim.Native.Nat.{ℕ, ◌+◌, ◌-◌, ◌*◌, ◌≤◌}
use native.Mathlib.Nat.{mul-le-mul}
use native.Mathlib.Omega.{arith}
use lib.Dec.{eqb}
use lib.IntN.{ℤ, pos}
use lib.ListN.{length, take, drop, replicate, drop_of_length-le}
use lib.Seq.{length-take-le, paste}
use Rattle.definitions.specs.declared.Planned.{Planned}
use Rattle.definitions.specs.declared.Planned.TheVariants.{Cheapest, Spent}
use Rattle.definitions.specs.declared.Terms.{Terms}
use Rattle.definitions.specs.Limits.{cells}
use Rattle.definitions.specs.Lists.{concat}
use Rattle.definitions.specs.Vector.{Vector, padded}
use Rattle.definitions.specs.Lent.{Order, filled, numbers_of}
use Rattle.definitions.specs.Refusals.{accepted, refused}
use Rattle.definitions.specs.Calls.{Listing, listing}
use Rattle.definitions.specs.Plan.{PlanEnd, PlanRoom, Problem, Stage, descended_end, descent, distance_bound, is_cheapest}
use Rattle.definitions.specs.Plan.{plan_call, plan_of, plan_reached, plan_refused, planned_at, problem_fault, reach, terms_of}
use Rattle.theory.proofs.Accepted.{padded-length}
use Rattle.theory.proofs.Lists.{chunks-length}
use Rattle.theory.proofs.Rows.{rows-count}
use Rattle.plan_theory.proofs.Bounds.{feasible-length}
use Rattle.plan_theory.proofs.Problems.{Sound}
use Rattle.plan_theory.proofs.Sizes.{reach-bound}
use Rattle.reduction.specs.declared.Extent.{Extent}
use Rattle.moves.specs.declared.Numbers.{Numbers}
use Rattle.moves.specs.Found.{Held, listing_in}
use Rattle.descents.specs.declared.Descent.{Descent}
use Rattle.descents.specs.Steps.{DescendsTo, Planning, images_in}
use Rattle.plans.specs.Found.{Measured, PlanEnds, planned_in}

-- 6, 26 and 27, once the List has ended
module _ (n : ℕ) (problem : Problem) (room : PlanRoom) (found : Listing) where
  pub tests-met : {number place : ℕ} → problem_fault n problem room.plan ≡ fault_at number place
      → plan_refused room number place ≡ plan_of n problem room (accepted found)
  unfolding plan_of descended_end
  tests-met e = rw e refl

  pub tests-unmet : problem_fault n problem room.plan ≡ no_fault
      → descended_end n problem room found no_fault ≡ plan_of n problem room (accepted found)
  unfolding plan_of
  tests-unmet e = rw e refl

-- the call, once its List has ended
module _ (order : Order) (problem : Problem) (room : PlanRoom) where
  pub call-unlisted : {number place : ℕ} → listing order room.list room.group ≡ refused number place
      → plan_refused room number place ≡ plan_call order problem room
  unfolding plan_call plan_of
  call-unlisted e = rw e refl

  pub call-listed : {found : Listing} → accepted found ≡ listing order room.list room.group
      → plan_of order.n problem room (accepted found) ≡ plan_call order problem room
  unfolding plan_call
  call-listed e = ap (plan_of order.n problem room) e

-- the same end by another name
pub ends_same : {due due' : PlanEnd} {answer : Outcome Planned} {list : List ℤ} {group : List ℕ} {plan : List ℤ} → due ≡ due'
    → PlanEnds due answer list group plan → PlanEnds due' answer list group plan
ends_same e E = record {
  answer_is = E.answer_is ∙ ap (λ (d : PlanEnd). d.answer) e;
  list_holds = E.list_holds ∙ ap (λ (d : PlanEnd). d.list) e;
  group_holds = E.group_holds ∙ ap (λ (d : PlanEnd). d.group) e;
  plan_holds = E.plan_holds ∙ ap (λ (d : PlanEnd). d.plan) e;
}

-- a problem that meets no test has terms and a start within their limits
pub sound-planning : {n plan_size : ℕ} (problem : Problem) → n ≤ cells → Sound n problem plan_size → Planning (terms_of problem) (padded problem.start)
unfolding terms_of
sound-planning problem narrow S = record {
  wide = padded-length problem.upper (omega (arith, S.sized.upper, narrow));
  long = padded-length problem.costs (omega (arith, S.sized.costs, narrow));
  costs = S.limited;
  upper = S.bounded;
  plan = S.begins;
}

-- an area that a vector's first numbers fill
stored-whole : (n : ℕ) (area : List ℤ) (v : Vector) → length area ≡ n → n ≤ length v
    → paste area 0 v n ≡ filled (pos 0) (length area) (take n v)
unfolding filled
stored-whole n area v e h =
    let none : length area - length (take n v) ≡ 0 = omega (arith, length-take-le n v h) in
    let behind : drop (0 + n) area ≡ [] = drop_of_length-le area {i = 0 + n} (omega arith) in
    ap (λ (l : List ℤ). take n v ++ l) (behind ∙ sym (ap (λ (k : ℕ). replicate k (pos 0)) none))

-- ---- where a descent has ended
module _ {terms : Terms} {extent : Extent} {group : List ℕ} {list : List ℤ} {budget : ℕ} {start : Vector} {end : Descent}
    (D : DescendsTo terms extent group list budget start end) (P : Planning terms start) where
  -- its plan is a vector
  pub descent-wide : length end.plan ≡ cells
  descent-wide = feasible-length terms.upper end.plan D.plan ∙ P.wide

  -- its distance bound fits
  pub descent-measured : Measured terms end
  descent-measured =
      let most = mul-le-mul D.bounded (reach-bound terms.upper end.plan P.upper D.plan descent-wide) in
      record { plan = D.plan; fits = omega (arith, most) }

module _ (n : ℕ) (numbers : Numbers) (problem : Problem) (list : List ℤ) (group : List ℕ) where
  abbrev extent : Extent
  extent = record { shape = record { n = n; g = numbers.members }; k = numbers.rows }

  abbrev found : Listing
  found = listing_in n numbers list group

  abbrev terms : Terms
  terms = terms_of problem

  abbrev last : Stage
  last = descent terms (images_in extent group list) problem.budget (padded problem.start)

  module _ {end : Descent} (D : DescendsTo terms extent group list problem.budget (padded problem.start) end) where
    abbrev answered : (gain rows members : ℕ) → Outcome Planned
    answered gain rows members =
        if eqb gain 0 then accepted (Cheapest end.steps rows members numbers.stored numbers.sums)
        else accepted (Spent end.steps (gain * reach terms.upper end.plan) rows members numbers.stored numbers.sums)

    -- what is answered is what is due
    planned-is : planned_in terms numbers end ≡ planned_at terms found last
    unfolding planned_at is_cheapest distance_bound
    planned-is =
        (λ i. answered (D.left i) (sym (rows-count n numbers.rows list) i) (sym (chunks-length n numbers.members group) i))
        ∙ ap (planned_at terms found) D.stage

    -- THE END of a descent, with its plan in the plan area
    pub descended-ends : (room : PlanRoom) → Held n numbers list group → length list ≡ room.list → length group ≡ room.group
        → Planning terms (padded problem.start) → (area : List ℤ) → length area ≡ room.plan → room.plan ≡ n → {plan : List ℤ}
        → plan ≡ paste area 0 end.plan n → PlanEnds (descended_end n problem room found no_fault) (planned_in terms numbers end) list group plan
    unfolding descended_end plan_reached
    descended-ends room H long wide P area size whole e = record {
      answer_is = planned-is;
      list_holds = H.list_held ∙ ap (λ (k : ℕ). filled (pos 0) k (numbers_of n found.rows)) long;
      group_holds = H.group_held ∙ ap (λ (k : ℕ). filled 0 k (concat found.table)) wide;
      plan_holds =
          e ∙ stored-whole n area end.plan (size ∙ whole) (omega (arith, descent-wide D P, H.table.narrow))
          ∙ ap₂ (λ (k : ℕ) (s : Stage). filled (pos 0) k (take n s.plan)) size D.stage;
    }
