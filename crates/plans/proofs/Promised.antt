-- What the end of the search for the best plan promises (Specification 1.1, 3.10, 7.4 and 11). Assumes nothing.
use Rattle.definitions.specs.Refusals.{Outcome, refused}
use mathlib.Core.Path.{◌≡◌, sym, ◌∙◌, ap, subst}
use mathlib.Core.Bool.{true, false}
use mathlib.Core.List.{List, []}
use Prim.Native.Nat.{ℕ}
use native.Mathlib.Omega.{arith}
use lib.IntN.{ℤ, pos}
use lib.ListN.{length, replicate, take}
use Rattle.definitions.specs.declared.Planned.{Planned}
use Rattle.definitions.specs.declared.Planned.TheVariants.{Cheapest, Spent}
use Rattle.definitions.specs.Lists.{concat}
use Rattle.definitions.specs.Vector.{Vector, padded}
use Rattle.definitions.specs.Orbit.{orbits}
use Rattle.definitions.specs.Lent.{Order, filled, numbers_of}
use Rattle.definitions.specs.Refusals.{accepted}
use Rattle.definitions.specs.Calls.{Listing, listing}
use Rattle.definitions.specs.Plan.{PlanEnd, PlanRoom, Problem, Stage, distance_bound, is_cheapest, plan_call, plan_reached}
use Rattle.definitions.specs.Plan.{plan_refused, planned_at, terms_of}
use Rattle.definitions.specs.Demands.{Attainable, CheaperPlan, NoneCheaper, NoneCheaperBy}
use Rattle.theory.proofs.Areas.{filled-nothing}
use Rattle.theory.proofs.Counting.{if-cases}
use Rattle.theory.proofs.ListCall.{ListFacts, listing-facts}
use Rattle.plan_theory.proofs.Problems.{Sound}
use Rattle.plan_theory.proofs.Ends.{call_ends, last_stage}
use Rattle.plan_theory.proofs.Results.{descent-attained, descent-cheapest, descent-distance, descent-few}
use Rattle.plan_theory.proofs.Results.{descent-held, descent-left, descent-spent}
use Rattle.plans.specs.Promise.{BudgetSpent, CheapestReached, PlanAccepted, PlanPromise, PlanZero}

-- zeros, by the size that an area has
cleared : {A : Type 0} (blank : A) {xs : List A} (size : ℕ) → length xs ≡ size → xs ≡ filled blank size []
    → xs ≡ replicate (length xs) blank
cleared blank size long e = e ∙ filled-nothing blank size ∙ ap (λ (k : ℕ). replicate k blank) (sym long)

-- what a reader may conclude from the answer
record Concluded (order : Order) (problem : Problem) (answer : Outcome Planned) (list : List ℤ) (group : List ℕ) (plan : List ℤ)
    : Type 0 where
  cheapest : (steps rows members stored sums : ℕ) → answer ≡ accepted (Cheapest steps rows members stored sums)
      → CheapestReached order problem answer list group plan
  spent : (steps bound rows members stored sums : ℕ) → answer ≡ accepted (Spent steps bound rows members stored sums)
      → BudgetSpent order problem answer list group plan
  refused : (number place : ℕ) → answer ≡ refused number place → PlanZero list group plan

module _ (order : Order) (problem : Problem) (room : PlanRoom) (answer : Outcome Planned) (list : List ℤ) (group : List ℕ)
    (plan : List ℤ) where
  abbrev Conclusion : Type 0
  Conclusion = Concluded order problem answer list group plan

  -- .. at an end that is due
  abbrev Concludes : PlanEnd → Type 0
  Concludes due = answer ≡ due.answer → list ≡ due.list → group ≡ due.group → plan ≡ due.plan → Conclusion

  module _ (long : length list ≡ room.list) (wide : length group ≡ room.group) (deep : length plan ≡ room.plan) where
    refused-concluded : (number place : ℕ) → Concludes (plan_refused room number place)
    unfolding plan_refused
    refused-concluded number place says p q r = record {
      cheapest = λ steps rows members stored sums e. let z : ◌≡◌ {A = ℕ} 0 1 = cc in absurd (omega arith);
      spent = λ steps bound rows members stored sums e. let z : ◌≡◌ {A = ℕ} 0 1 = cc in absurd (omega arith);
      refused = λ m i e. record {
        list_holds = cleared (pos 0) room.list long p;
        group_holds = cleared 0 room.group wide q;
        plan_holds = cleared (pos 0) room.plan deep r;
      };
    }

    -- ---- the descent
    module _ (found : Listing) (listed : listing order room.list room.group ≡ accepted found)
        (S : Sound order.n problem room.plan) where
      abbrev images : List Vector
      images = orbits found.table found.rows

      abbrev s : Stage
      s = last_stage problem found

      F : ListFacts order found
      F = listing-facts order room.list room.group found listed

      module _ (p : list ≡ filled (pos 0) room.list (numbers_of order.n found.rows))
          (q : group ≡ filled 0 room.group (concat found.table))
          (r : plan ≡ filled (pos 0) room.plan (take order.n s.plan)) where
        -- the plan area holds the plan
        plan-reached : s.plan ≡ padded plan
        plan-reached =
            sym (ap padded r ∙ descent-held F problem S.sized.start S.begins room.plan S.sized.room)

        held : PlanAccepted order problem list group plan
        held = record {
          found = found;
          kept = F.kept;
          list_holds = p ∙ ap (λ (k : ℕ). filled (pos 0) k (numbers_of order.n found.rows)) (sym long);
          group_holds = q ∙ ap (λ (k : ℕ). filled 0 k (concat found.table)) (sym wide);
          sized = deep ∙ S.sized.room;
          attained = subst (Attainable order problem) plan-reached (descent-attained F problem S.sized.start S.begins);
        }

        -- no image gains
        cheapest-concluded : is_cheapest (terms_of problem) images s ≡ true
            → answer ≡ accepted (Cheapest s.steps (length found.rows) (length found.table) found.stored found.sums)
            → Conclusion
        unfolding held
        cheapest-concluded t says = record {
          cheapest = λ steps rows members stored sums e. record {
            accepted = held;
            steps = s.steps;
            few = descent-few F problem S.sized.start S.begins;
            says = says;
            cheapest = subst (NoneCheaper order problem) plan-reached
                (descent-cheapest F problem S.sized.start S.begins t);
          };
          spent = λ steps bound rows members stored sums e. let z : ◌≡◌ {A = ℕ} 0 1 = cc in absurd (omega arith);
          refused = λ m i e. let z : ◌≡◌ {A = ℕ} 0 1 = cc in absurd (omega arith);
        }

        -- some image gains
        abbrev distance : ℕ
        distance = distance_bound (terms_of problem) images s.plan

        abbrev spent_in : (steps : ℕ) → Outcome Planned
        spent_in steps =
            accepted (Spent steps distance (length found.rows) (length found.table) found.stored found.sums)

        spent-concluded : is_cheapest (terms_of problem) images s ≡ false → answer ≡ spent_in s.steps → Conclusion
        unfolding held
        spent-concluded f says = record {
          cheapest = λ steps rows members stored sums e. let z : ◌≡◌ {A = ℕ} 0 1 = cc in absurd (omega arith);
          spent = λ steps bound rows members stored sums e. record {
            accepted = held;
            bound = distance;
            says = says ∙ ap spent_in (descent-spent F problem S.sized.start S.begins f);
            left = subst (CheaperPlan order problem) plan-reached
                (descent-left F problem S.sized.start S.begins f);
            distance = subst (NoneCheaperBy order problem distance) plan-reached
                (descent-distance F problem S.sized.start S.begins);
          };
          refused = λ m i e. let z : ◌≡◌ {A = ℕ} 0 1 = cc in absurd (omega arith);
        }

      reached-concluded : Concludes (plan_reached order.n room (terms_of problem) found s)
      unfolding plan_reached planned_at
      reached-concluded says p q r =
          if-cases (λ (a : Outcome Planned). answer ≡ a → Conclusion) (is_cheapest (terms_of problem) images s)
          (cheapest-concluded p q r) (spent-concluded p q r) says

-- A PLAN KEEPS ITS PROMISE
pub plan-promise : (order : Order) (problem : Problem) (room : PlanRoom)
    {answer : Outcome Planned} {list : List ℤ} {group : List ℕ} {plan : List ℤ}
    → answer ≡ (plan_call order problem room).answer → list ≡ (plan_call order problem room).list
    → group ≡ (plan_call order problem room).group → plan ≡ (plan_call order problem room).plan
    → length list ≡ room.list → length group ≡ room.group → length plan ≡ room.plan
    → PlanPromise order problem room answer list group plan
plan-promise order problem room {answer} {list} {group} {plan} says p q r long wide deep =
    let C = call_ends order problem room (Concludes order problem room answer list group plan)
    (refused-concluded order problem room answer list group plan long wide deep)
    (reached-concluded order problem room answer list group plan long wide deep) says p q r in
    record {
      answer_is = says;
      list_holds = p;
      group_holds = q;
      plan_holds = r;
      cheapest = C.cheapest;
      spent = C.spent;
      refused = C.refused;
    }
