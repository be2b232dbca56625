-- What a problem gives that meets none of the tests 6, 26 and 27 (Specification 3.10 and 7.3). Assumes nothing.
use Rattle.definitions.specs.Refusals.{no_fault}
use mathlib.Core.Path.{◌≡◌, refl, sym, ◌∙◌, ap, subst}
use mathlib.Core.Bool.{Bool, true, false, ◌&&◌, not}
use mathlib.Core.List.{List, [], ◌∷◌, ◌++◌}
use Prim.Native.Nat.{ℕ, zero, suc, ◌-◌, ◌≤◌, ◌<◌}
use native.Mathlib.Omega.{arith}
use borrow.Author.Tests.{eqb-true, leb-true, not-false}
use lib.Dec.{eqb, leb}
use lib.IntN.{ℤ, pos, negsuc, nat_abs}
use lib.ListN.{length, get_or, replicate}
use Rattle.definitions.specs.Limits.{bound_limit, budget_limit, cells, cost_limit}
use Rattle.definitions.specs.Vector.{padded, within}
use Rattle.definitions.specs.Plan.{Problem, feasible, is_bounded, is_misplanned, problem_fault, problem_fits}
use Rattle.theory.proofs.Tests.{and-true-left, and-true-right, clash, or-false-left, or-false-right}
use Rattle.theory.proofs.Members.{each_from}
use Rattle.theory.proofs.Bounds.{Within, each_within}
use Rattle.theory.proofs.Faults.{if_none, tests-none, where-none}
use Rattle.theory.proofs.Accepted.{padded-within, past-where}

-- what 6 leaves
pub record Sized (n : ℕ) (problem : Problem) (plan_size : ℕ) : Type 0 where
  pub few : problem.budget ≤ budget_limit
  pub start : length problem.start ≡ n
  pub upper : length problem.upper ≡ n
  pub costs : length problem.costs ≡ n
  pub room : plan_size ≡ n

-- what 6, 26 and 27 leave
pub record Sound (n : ℕ) (problem : Problem) (plan_size : ℕ) : Type 0 where
  pub sized : Sized n problem plan_size
  pub limited : within cost_limit (padded problem.costs) ≡ true
  pub bounded : within bound_limit (padded problem.upper) ≡ true
  pub begins : feasible (padded problem.upper) (padded problem.start) ≡ true

-- ---- 6
pub problem-sized : (n : ℕ) (problem : Problem) (plan_size : ℕ) → problem_fits n problem plan_size ≡ true
    → Sized n problem plan_size
unfolding problem_fits
problem-sized n problem plan_size e =
    let few = leb problem.budget budget_limit in
    let start = eqb (length problem.start) n in
    let upper = eqb (length problem.upper) n in
    let costs = eqb (length problem.costs) n in
    let four = and-true-left (few && start && upper && costs) (eqb plan_size n) e in
    let three = and-true-left (few && start && upper) costs four in
    let two = and-true-left (few && start) upper three in
    record {
      few = leb-true problem.budget budget_limit (and-true-left few start two);
      start = eqb-true (length problem.start) n (and-true-right few start two);
      upper = eqb-true (length problem.upper) n (and-true-right (few && start) upper three);
      costs = eqb-true (length problem.costs) n (and-true-right (few && start && upper) costs four);
      room = eqb-true plan_size n (and-true-right (few && start && upper && costs) (eqb plan_size n) e);
    }

-- ---- 26
-- a number from 0 to a limit is not past it
bounded-size : (limit : ℕ) (x : ℤ) → is_bounded (pos limit) x ≡ true → nat_abs x ≤ limit
unfolding is_bounded
bounded-size limit (pos a) e = leb-true a limit e
bounded-size limit (negsuc a) e = clash e refl

-- 0 lies from 0 to 0
zeros-feasible : (k : ℕ) → feasible (replicate k (pos 0)) (replicate k (pos 0)) ≡ true
unfolding feasible is_bounded
zeros-feasible zero = refl
zeros-feasible (suc k) = zeros-feasible k

-- each entry within its bounds, and zeros behind
padded-feasible : (k : ℕ) (upper v : List ℤ) → length v ≡ length upper
    → ((p : ℕ) → p < length v → is_bounded (get_or upper p (pos 0)) (get_or v p (pos 0)) ≡ true)
    → feasible (upper ++ replicate k (pos 0)) (v ++ replicate k (pos 0)) ≡ true
unfolding feasible
padded-feasible k [] [] e h = zeros-feasible k
padded-feasible k [] (x ∷ v) e h = absurd (omega arith)
padded-feasible k (bound ∷ upper) [] e h = absurd (omega arith)
padded-feasible k (bound ∷ upper) (x ∷ v) e h =
    ap (λ (b : Bool). b && feasible (upper ++ replicate k (pos 0)) (v ++ replicate k (pos 0))) (h zero (omega arith))
    ∙ padded-feasible k upper v (omega arith) (λ p l. h (suc p) (omega arith))

-- the upper bound of a cell, and its starting entry
module _ (problem : Problem) (p : ℕ) (e : is_misplanned problem p ≡ false) where
  abbrev bound : ℤ
  bound = get_or problem.upper p (pos 0)

  abbrev entry : ℤ
  entry = get_or problem.start p (pos 0)

  upper_fits : is_bounded (pos bound_limit) bound ≡ true
  unfolding is_misplanned
  upper_fits = not-false _ (or-false-left (not (is_bounded (pos bound_limit) bound)) (not (is_bounded bound entry)) e)

  entry-fits : is_bounded bound entry ≡ true
  unfolding is_misplanned
  entry-fits = not-false _ (or-false-right (not (is_bounded (pos bound_limit) bound)) (not (is_bounded bound entry)) e)

-- .. of every cell
module _ (problem : Problem) (same : length problem.start ≡ length problem.upper)
    (all : (p : ℕ) → p < length problem.start → is_misplanned problem p ≡ false) where
  upper-within : Within bound_limit problem.upper
  upper-within =
      each_from problem.upper (pos 0) (λ p l. bounded-size bound_limit _ (upper_fits problem p (all p (omega arith))))

  start-feasible : feasible (padded problem.upper) (padded problem.start) ≡ true
  unfolding padded
  start-feasible =
      subst (λ (k : ℕ). feasible (padded problem.upper) (problem.start ++ replicate (cells - k) (pos 0)) ≡ true)
      (sym same)
      (padded-feasible (cells - length problem.upper) problem.upper problem.start same
      (λ p l. entry-fits problem p (all p l)))

-- A PROBLEM THAT MEETS NO TEST is sound
pub problem-sound : (n : ℕ) (problem : Problem) (plan_size : ℕ) → problem_fault n problem plan_size ≡ no_fault
    → Sound n problem plan_size
unfolding problem_fault
problem-sound n problem plan_size e =
    let a = tests-none _ _ e in
    let b = tests-none _ _ a.1 in
    let c = tests-none _ _ b.1 in
    let sizes = problem-sized n problem plan_size (not-false _ (if_none 6 _ a.0)) in
    let same = sizes.start ∙ sym sizes.upper in
    let all = (where-none 26 (length problem.start) (is_misplanned problem)).0 b.0 in
    record {
      sized = sizes;
      limited = each_within cost_limit (padded-within (past-where 27 cost_limit problem.costs c.0));
      bounded = each_within bound_limit (padded-within (upper-within problem same all));
      begins = start-feasible problem same all;
    }
