-- Descents over any images: how far the cheapest plan may lie, and where a descent ends. Assumes nothing.
use mathlib.Core.Path.{◌≡◌, sym, ◌∙◌, ap}
use mathlib.Core.Bool.{true, false}
use mathlib.Core.List.{List, Memᴰ}
use Prim.Native.Nat.{ℕ, zero, suc, ◌+◌, ◌*◌, ◌≤◌, ◌<◌}
use native.Mathlib.Omega.{arith}
use native.Mathlib.Nat as NatL
use borrow.Author.Tests.{eqb-false}
use lib.ListN.{length}
use lib.IntN.{ℤ, pos, ◌+ℤ◌}
use lib.Signed.{◌≤ℤ◌}
use Rattle.definitions.specs.declared.Terms.{Terms}
use Rattle.definitions.specs.Limits.{cells}
use Rattle.definitions.specs.Lists.{until}
use Rattle.definitions.specs.Vector.{Vector, minus, plus, weight, zero_vector}
use Rattle.definitions.specs.Plan.{Stage, best_gain, best_step, cost, descent, distance_bound, feasible, improved, is_cheapest, reach}
use Rattle.theory.proofs.Below.{◌⊑◌}
use Rattle.theory.proofs.Cell.{balance, down, up}
use Rattle.theory.proofs.Conformal.{Conformal, below-sized, conformal-weights, weights}
use Rattle.theory.proofs.Counting.{if-cases}
use Rattle.theory.proofs.Members.{Each, each_both, each-cons, each_map, each_member, each_nil}
use Rattle.theory.proofs.Tests.{clash}
use Rattle.theory.proofs.Vector.{length-minus, plus-minus}
use Rattle.plan_theory.proofs.Cost.{cost-plus, fall-down, floor-total, to-≤ℤ}
use Rattle.plan_theory.proofs.Best.{best-top, gain-is}
use Rattle.plan_theory.proofs.Bounds.{part-feasible, weight-reach}

-- vectors that have a weight are no more than their weights
count-weights : {vs : List Vector} → Each (λ v. 0 < weight v) vs → length vs ≤ weights vs
count-weights each_nil = omega arith
count-weights (each-cons h t) = omega (arith, count-weights t)

module _ (terms : Terms) (images : List Vector) where
  -- A PLAN IS CHEAPER BY AT MOST THE DISTANCE BOUND, where the change is a conformal sum of images
  pub conformal-distance : Each (λ g. 0 < weight g) images → (x y : Vector) → length x ≡ cells → length y ≡ cells
      → feasible terms.upper x ≡ true → feasible terms.upper y ≡ true
      → Conformal (λ v. Memᴰ v images) (minus y x)
      → cost terms.costs x ≤ℤ (cost terms.costs y +ℤ pos (distance_bound terms images x))
  unfolding distance_bound best_gain best_step
  conformal-distance positive x y p q e f c =
      to-≤ℤ (price x) (price y +ℤ pos (d * r)) (omega (
        arith,
        NatL.mul-le-mul_right d count,
        NatL.mul_comm r d,
        floor-total terms.costs d (below-sized long c.conform) small,
        ap (λ (v : Vector). up (price v)) c.adds-up,
        ap (λ (v : Vector). down (price v)) c.adds-up,
        ap up sum,
        ap down sum,
        balance (price x) (price (minus y x)),
        balance (price y) (pos (d * r)),
      ))
    where
      price : Vector → ℤ
      price v = cost terms.costs v

      d : ℕ
      d = best_gain terms images x

      r : ℕ
      r = reach terms.upper x

      long : length (minus y x) ≡ cells
      long = length-minus cells y x q p

      -- each part alone keeps the bounds, so it gains at most d
      small : Each (λ v. down (price v) ≤ d) c.parts
      small =
          each_map (λ v (t : Memᴰ v images × (v ⊑ minus y x)). omega (
            arith,
            gain-is terms x v (part-feasible terms.upper x y v e f t.1),
            fall-down (price v),
            each_member (best-top terms x zero_vector images).1 t.0,
          )) (each_both c.members c.conform)

      -- and they are no more than the reach
      count : length c.parts ≤ r
      count =
          omega (
            arith,
            count-weights (each_map (λ v (k : Memᴰ v images). each_member positive k) c.members),
            conformal-weights (minus y x) long c.conform c.adds-up,
            weight-reach terms.upper x y e f,
          )

      sum : price y ≡ price x +ℤ price (minus y x)
      sum = ap price (sym (plus-minus cells y x q p)) ∙ cost-plus terms.costs x (minus y x) (p ∙ sym long)

  -- ---- where a descent ends
  -- at a plan with P, after at most so many steps, and after all of them where some image gains
  pub record Ends (P : Vector → Type 0) (most : ℕ) (s : Stage) : Type 0 where
    pub keeps : P s.plan
    pub few : s.steps ≤ most
    pub spent : is_cheapest terms images s ≡ false → s.steps ≡ most

  module _ (P : Vector → Type 0)
      (keep : (x : Vector) → 0 < best_gain terms images x → P x → P (plus x (best_step terms images x))) where
    onward : (fuel : ℕ) {most : ℕ} (s : Stage) → s.steps + fuel ≡ most → P s.plan
        → Ends P most (until (is_cheapest terms images) (improved terms images) fuel s)
    unfolding until is_cheapest improved
    onward zero s q h = record { keeps = h; few = omega arith; spent = λ e. omega arith }
    onward (suc fuel) {most} s q h =
        if-cases (Ends P most) (is_cheapest terms images s)
        (λ e. record { keeps = h; few = omega arith; spent = λ f. clash e f })
        (λ e. onward fuel (improved terms images s) (omega arith)
        (keep s.plan (omega (arith, eqb-false (best_gain terms images s.plan) 0 e)) h))

    pub descent-ends : (budget : ℕ) (start : Vector) → P start → Ends P budget (descent terms images budget start)
    unfolding descent
    descent-ends budget start h = onward budget (record { plan = start; steps = 0 }) (omega arith) h
