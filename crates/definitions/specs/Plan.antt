-- Specification 3.10: the best plan within a budget. For each input the answer, and what every area lent for writing
-- holds at the end. Such an area is given by its size. Assumes nothing.
use Rattle.definitions.specs.Refusals.{refused}
use Rattle.std.specs.declared.result.Result.TheVariants.{Err}
use Rattle.definitions.specs.Refusals.{Fault, no_fault}
use Rattle.std.specs.Prelude.{Bool, true, false, ◌&&◌, ◌||◌, not, List, [], ◌∷◌, ℕ, suc, ◌+◌, ◌*◌, max, leb, ltb, eqb, ℤ, pos, negsuc, nat_abs, ◌+ℤ◌, ◌-ℤ◌, ◌*ℤ◌, length, get_or, take, if◌then◌else◌}
use Rattle.std.specs.Int.Signed.{non_neg, le_z}
use Rattle.definitions.specs.declared.Planned.{Planned}
use Rattle.definitions.specs.declared.Planned.TheVariants.{Cheapest, Spent}
use Rattle.definitions.specs.declared.Terms.{Terms}
use Rattle.definitions.specs.Limits.{bound_limit, budget_limit, cost_limit}
use Rattle.definitions.specs.Lists.{concat, until}
use Rattle.definitions.specs.Vector.{Vector, padded, plus, zero_vector}
use Rattle.definitions.specs.Orbit.{orbits}
use Rattle.definitions.specs.Lent.{Order, filled, numbers_of}
use Rattle.definitions.specs.Refusals.{Outcome, accepted, first_fault, fault_if, fault_where, is_past}
use Rattle.definitions.specs.Calls.{Listing, listing}

-- what a planner sends besides an order: a starting plan, an upper bound and a cost for each cell, and the most steps
pub record Problem : Type 0 where
  pub start : List ℤ
  pub upper : List ℤ
  pub costs : List ℤ
  pub budget : ℕ

-- ---- plans

-- the sum over the cells of cost times entry
unfoldable pub cost : (costs v : Vector) → ℤ
cost [] v = pos 0
cost (c ∷ costs) [] = pos 0
cost (c ∷ costs) (x ∷ v) = (c *ℤ x) +ℤ cost costs v

-- x lies from 0 to a bound
unfoldable pub is_bounded : (bound x : ℤ) → Bool
is_bounded bound x = non_neg x && le_z x bound

-- each entry lies from 0 to its upper bound
unfoldable pub feasible : (upper v : Vector) → Bool
feasible [] [] = true
feasible [] (x ∷ v) = false
feasible (bound ∷ upper) [] = false
feasible (bound ∷ upper) (x ∷ v) = let rest = feasible upper v in is_bounded bound x && rest

-- ---- a step

-- how far a number lies below zero
unfoldable pub fall : ℤ → ℕ
fall (pos a) = 0
fall (negsuc a) = suc a

-- by how much v, added to the plan x, lowers the cost; 0 where it does not, or where the sum is not feasible
unfoldable pub gain : Terms → (x v : Vector) → ℕ
gain terms x v = if feasible terms.upper (plus x v) then fall (cost terms.costs v) else 0

-- the vector of greatest gain among v and some more, the earliest of equals
unfoldable pub best_of : Terms → (x v : Vector) → List Vector → Vector
best_of terms x v [] = v
best_of terms x v (u ∷ vectors) = best_of terms x (if ltb (gain terms x v) (gain terms x u) then u else v) vectors

-- the best step from the plan x: the image of greatest gain, or the zero vector where none gains
unfoldable pub best_step : Terms → (images : List Vector) (x : Vector) → Vector
best_step terms images x = best_of terms x zero_vector images

unfoldable pub best_gain : Terms → (images : List Vector) (x : Vector) → ℕ
best_gain terms images x = gain terms x (best_step terms images x)

-- ---- the descent

-- where a descent stands: its plan, and the steps that it took
pub record Stage : Type 0 where
  pub plan : Vector
  pub steps : ℕ

-- no image gains
unfoldable pub is_cheapest : Terms → (images : List Vector) → Stage → Bool
is_cheapest terms images s = eqb (best_gain terms images s.plan) 0

unfoldable pub improved : Terms → (images : List Vector) → Stage → Stage
improved terms images s =
    record { plan = plus s.plan (best_step terms images s.plan); steps = suc s.steps }

-- best steps while some image gains, at most `budget`
unfoldable pub descent : Terms → (images : List Vector) (budget : ℕ) (start : Vector) → Stage
descent terms images budget start =
    until (is_cheapest terms images) (improved terms images) budget (record { plan = start; steps = 0 })

-- the sum over the cells of the larger of the entry and the upper bound less the entry
unfoldable pub reach : (upper x : Vector) → ℕ
reach [] x = 0
reach (bound ∷ upper) [] = 0
reach (bound ∷ upper) (y ∷ x) = max (nat_abs y) (nat_abs (bound -ℤ y)) + reach upper x

-- no feasible plan that differs from x by a lattice vector is cheaper by more
unfoldable pub distance_bound : Terms → (images : List Vector) (x : Vector) → ℕ
distance_bound terms images x = best_gain terms images x * reach terms.upper x

-- ---- the call

-- the sizes of the areas that are lent for writing
pub record PlanRoom : Type 0 where
  pub list : ℕ
  pub group : ℕ
  pub plan : ℕ

-- 6: the budget and the sizes
unfoldable pub problem_fits : (n : ℕ) → Problem → (plan_size : ℕ) → Bool
problem_fits n problem plan_size =
    leb problem.budget budget_limit
    && eqb (length problem.start) n
    && eqb (length problem.upper) n
    && eqb (length problem.costs) n
    && eqb plan_size n

-- 26: an upper bound out of its range, or a starting entry out of its bounds
unfoldable pub is_misplanned : Problem → (p : ℕ) → Bool
is_misplanned problem p =
    let bound = get_or problem.upper p (pos 0) in
    not (is_bounded (pos bound_limit) bound) || not (is_bounded bound (get_or problem.start p (pos 0)))

-- 6, 26 and 27
unfoldable pub problem_fault : (n : ℕ) → Problem → (plan_size : ℕ) → Fault
problem_fault n problem plan_size =
    first_fault
    (fault_if 6 (not (problem_fits n problem plan_size))
    ∷ fault_where 26 (length problem.start) (is_misplanned problem)
    ∷ fault_where 27 (length problem.costs) (λ p. is_past cost_limit (get_or problem.costs p (pos 0)))
    ∷ [])

-- the end of the call: its answer, and its areas
pub record PlanEnd : Type 0 where
  pub answer : Outcome Planned
  pub list : List ℤ
  pub group : List ℕ
  pub plan : List ℤ

unfoldable pub plan_refused : PlanRoom → (number place : ℕ) → PlanEnd
plan_refused room number place =
    record {
      answer = refused number place;
      list = filled (pos 0) room.list [];
      group = filled 0 room.group [];
      plan = filled (pos 0) room.plan [];
    }

-- the upper bounds and the costs, as vectors
unfoldable pub terms_of : Problem → Terms
terms_of problem = record { upper = padded problem.upper; costs = padded problem.costs }

-- a cheapest plan, or one with its distance bound, and the counts of the List
unfoldable pub planned_at : Terms → Listing → Stage → Outcome Planned
planned_at terms found s =
    let images = orbits found.table found.rows in
    let rows = length found.rows in
    let members = length found.table in
    if is_cheapest terms images s then accepted (Cheapest s.steps rows members found.stored found.sums)
    else accepted (Spent s.steps (distance_bound terms images s.plan) rows members found.stored found.sums)

unfoldable pub plan_reached : (n : ℕ) → PlanRoom → Terms → Listing → Stage → PlanEnd
plan_reached n room terms found s =
    record {
      answer = planned_at terms found s;
      list = filled (pos 0) room.list (numbers_of n found.rows);
      group = filled 0 room.group (concat found.table);
      plan = filled (pos 0) room.plan (take n s.plan);
    }

-- the descent, once 6, 26 and 27 are tested
unfoldable pub descended_end : (n : ℕ) → Problem → PlanRoom → Listing → Fault → PlanEnd
descended_end n problem room found (Err r) = plan_refused room r.number r.place
descended_end n problem room found no_fault =
    let terms = terms_of problem in
    let images = orbits found.table found.rows in
    plan_reached n room terms found (descent terms images problem.budget (padded problem.start))

-- the tests and the descent, once the List has ended
unfoldable pub plan_of : (n : ℕ) → Problem → PlanRoom → Outcome Listing → PlanEnd
plan_of n problem room (Err r) = plan_refused room r.number r.place
plan_of n problem room (accepted found) = descended_end n problem room found (problem_fault n problem room.plan)

unfoldable pub plan_call : Order → Problem → PlanRoom → PlanEnd
plan_call order problem room = plan_of order.n problem room (listing order room.list room.group)
