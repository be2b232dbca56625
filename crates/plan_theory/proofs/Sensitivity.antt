-- TWO PLAN CALLS whose problems differ in one cost (Specification 3.11): the totals of two cheapest plans differ by at
-- most |d| times the upper bound of the cell. Assumes nothing.
use Rattle.definitions.specs.Refusals.{Outcome}
use mathlib.Core.Path.{◌≡◌, refl, sym, ◌∙◌, ap, subst}
use mathlib.Core.Logic.{◌⊎◌, inl, inr}
use mathlib.Core.Bool.{true, false}
use mathlib.Core.List.{List, [], ◌∷◌, ◌++◌}
use Prim.Native.Nat.{ℕ, zero, suc, ◌-◌, ◌*◌, ◌≤◌, ◌<◌}
use native.Mathlib.Omega.{arith}
use native.Mathlib.Nat as NatL
use borrow.Author.Tests.{ltb-false, ltb-true}
use lib.Dec.{ltb}
use lib.IntN.{ℤ, pos, nat_abs, neg_ℤ, ◌+ℤ◌, ◌-ℤ◌, ◌*ℤ◌, +ℤ_assoc, +ℤ_comm, +ℤ_idr, *ℤ-zero}
use lib.ListN.{length, get_or, replicate, take, length-set}
use lib.Seq.{set_out}
use lib.Signed.{◌≤ℤ◌}
use Rattle.definitions.specs.declared.Planned.{Planned}
use Rattle.definitions.specs.Limits.{cells}
use Rattle.definitions.specs.Vector.{Vector, minus, padded}
use Rattle.definitions.specs.Lattice.{InLattice}
use Rattle.definitions.specs.Orbit.{orbits}
use Rattle.definitions.specs.Lent.{Order, filled, generators_of}
use Rattle.definitions.specs.Refusals.{accepted}
use Rattle.definitions.specs.Calls.{Listing, listing}
use Rattle.definitions.specs.Plan.{PlanEnd, PlanRoom, Problem, cost, feasible, is_cheapest, plan_call, plan_reached}
use Rattle.definitions.specs.Plan.{plan_refused, planned_at, terms_of}
use Rattle.definitions.specs.Demands.{Attainable, NoneCheaper, total_cost}
use Rattle.theory.proofs.Cell.{apart, balance, down, down-neg, size, up, up_neg}
use Rattle.theory.proofs.Counting.{if-cases}
use Rattle.theory.proofs.Lattice.{plus_times}
use Rattle.theory.proofs.ListCall.{listing-facts}
use Rattle.theory.proofs.Tests.{bool_cases, clash}
use Rattle.certified_theory.proofs.Additive.{abs-multiple}
use Rattle.plan_theory.specs.Sensitivity.{CostSensitivity, IsPerturbed, call_total, perturbed, says_cheapest}
use Rattle.plan_theory.specs.Sensitivity.{sensitivity_bound}
use Rattle.plan_theory.proofs.Cost.{from-≤ℤ}
use Rattle.plan_theory.proofs.Sizes.{feasible-entry}
use Rattle.plan_theory.proofs.Problems.{Sound}
use Rattle.plan_theory.proofs.Ends.{call_ends, last_stage}
use Rattle.plan_theory.proofs.Results.{descent-attained, descent-cheapest, descent-held}

-- ---- a changed cost
-- the last two of a sum of three
swap-last : (a b c : ℤ) → (a +ℤ b) +ℤ c ≡ (a +ℤ c) +ℤ b
swap-last a b c = +ℤ_assoc a b c ∙ ap (λ (z : ℤ). a +ℤ z) (+ℤ_comm b c) ∙ sym (+ℤ_assoc a c b)

-- the cost of a vector grows by d times its entry
cost-perturbed : (costs behind : List ℤ) (cell : ℕ) (d : ℤ) (v : Vector) → cell < length costs
    → cost (perturbed costs cell d ++ behind) v ≡ cost (costs ++ behind) v +ℤ d *ℤ get_or v cell (pos 0)
unfolding cost perturbed
cost-perturbed [] behind cell d v h = absurd (omega arith)
cost-perturbed (c ∷ costs) behind zero d [] h = ap (λ (z : ℤ). pos 0 +ℤ z) (sym (*ℤ-zero d))
cost-perturbed (c ∷ costs) behind zero d (x ∷ v) h =
    ap (λ (z : ℤ). z +ℤ cost (costs ++ behind) v) (plus_times c d x)
    ∙ swap-last (c *ℤ x) (d *ℤ x) (cost (costs ++ behind) v)
cost-perturbed (c ∷ costs) behind (suc cell) d [] h = ap (λ (z : ℤ). pos 0 +ℤ z) (sym (*ℤ-zero d))
cost-perturbed (c ∷ costs) behind (suc cell) d (x ∷ v) h =
    ap (λ (z : ℤ). c *ℤ x +ℤ z) (cost-perturbed costs behind cell d v (omega arith))
    ∙ sym (+ℤ_assoc (c *ℤ x) (cost (costs ++ behind) v) (d *ℤ get_or v cell (pos 0)))

-- zeros behind change no entry
entry-behind : (k : ℕ) (numbers : List ℤ) (cell : ℕ)
    → get_or (numbers ++ replicate k (pos 0)) cell (pos 0) ≡ get_or numbers cell (pos 0)
entry-behind zero [] cell = refl
entry-behind (suc k) [] zero = refl
entry-behind (suc k) [] (suc cell) = entry-behind k [] cell
entry-behind k (x ∷ numbers) zero = refl
entry-behind k (x ∷ numbers) (suc cell) = entry-behind k numbers cell

-- ---- two problems
-- by how much the second's cost of a plan is greater
record Shift (problem problem' : Problem) (bound : ℕ) (plan : Vector) : Type 0 where
  by : ℤ
  adds : total_cost problem' plan ≡ total_cost problem plan +ℤ by
  small : nat_abs by ≤ bound

-- the least costs a and b of two problems: b is at most a shifted by p, and it is c, at least a, shifted by q
near : (a b c p q : ℤ) (bound : ℕ) → b ≤ℤ (a +ℤ p) → a ≤ℤ c → b ≡ c +ℤ q → nat_abs p ≤ bound → nat_abs q ≤ bound
    → nat_abs (a -ℤ b) ≤ bound
near a b c p q bound h k e small small' =
    omega (
      arith,
      from-≤ℤ b (a +ℤ p) h,
      from-≤ℤ a c k,
      ap up e,
      ap down e,
      small,
      small',
      size p,
      size q,
      size (a -ℤ b),
      balance a (neg_ℤ b),
      apart (a -ℤ b),
      up_neg b,
      down-neg b,
      balance a p,
      balance c q,
    )

module _ {problem problem' : Problem} {cell : ℕ} {d : ℤ} (I : IsPerturbed problem problem' cell d) where
  -- d times an entry within its bounds
  entry-bound : (plan : Vector) → feasible (padded problem.upper) plan ≡ true
      → nat_abs (d *ℤ get_or plan cell (pos 0)) ≤ sensitivity_bound problem cell d
  unfolding padded sensitivity_bound
  entry-bound plan e =
      let upper = problem.upper in
      let entry = get_or plan cell (pos 0) in
      let low : nat_abs entry ≤ nat_abs (get_or upper cell (pos 0)) =
      subst (λ (z : ℤ). nat_abs entry ≤ nat_abs z) (entry-behind (cells - length upper) upper cell)
      (feasible-entry (padded upper) plan e cell) in
      subst (λ (k : ℕ). k ≤ nat_abs d * nat_abs (get_or upper cell (pos 0))) (sym (abs-multiple d entry))
      (NatL.mul-le-mul_left (nat_abs d) low)

  -- the costs as vectors
  padded-perturbed : padded problem'.costs
      ≡ perturbed problem.costs cell d ++ replicate (cells - length problem.costs) (pos 0)
  unfolding padded perturbed
  padded-perturbed =
      ap padded I.costs
      ∙ ap (λ (k : ℕ). perturbed problem.costs cell d ++ replicate (cells - k) (pos 0))
      (length-set problem.costs cell _)

  -- A FEASIBLE PLAN'S COST moves by at most the bound
  shift : (plan : Vector) → feasible (padded problem.upper) plan ≡ true
      → Shift problem problem' (sensitivity_bound problem cell d) plan
  unfolding padded perturbed
  shift plan e = go (bool_cases (ltb cell (length problem.costs)))
    where
      go : (ltb cell (length problem.costs) ≡ true) ⊎ (ltb cell (length problem.costs) ≡ false)
          → Shift problem problem' (sensitivity_bound problem cell d) plan
      go (inl t) = record {
        by = d *ℤ get_or plan cell (pos 0);
        adds =
            ap (λ (costs : Vector). cost costs plan) padded-perturbed
            ∙ cost-perturbed problem.costs _ cell d plan (ltb-true cell (length problem.costs) t);
        small = entry-bound plan e;
      }
      -- where there is no such cell no cost is changed
      go (inr f) =
          let same : problem'.costs ≡ problem.costs =
          I.costs ∙ set_out problem.costs cell _ (ltb-false cell (length problem.costs) f) in
          record {
            by = pos 0;
            adds = ap (λ (costs : List ℤ). cost (padded costs) plan) same ∙ sym (+ℤ_idr (total_cost problem plan));
            small = omega arith;
          }

  -- the same plans are attainable
  module _ (order : Order) (plan : Vector) where
    abbrev Apart : (start : List ℤ) → Type 0
    Apart start = InLattice (generators_of order) (minus plan (padded start))

    abbrev Keeps : (upper : List ℤ) → Type 0
    Keeps upper = feasible (padded upper) plan ≡ true

    attained-after : Attainable order problem plan → Attainable order problem' plan
    attained-after a = record {
      in_lattice = subst Apart (sym I.start) a.in_lattice;
      within_bounds = subst Keeps (sym I.upper) a.within_bounds;
    }

    attained-before : Attainable order problem' plan → Attainable order problem plan
    attained-before a = record {
      in_lattice = subst Apart I.start a.in_lattice;
      within_bounds = subst Keeps I.upper a.within_bounds;
    }

  -- TWO CHEAPEST PLANS, each under its own costs
  pub cheapest-near : (order : Order) (plan plan' : Vector)
      → Attainable order problem plan → NoneCheaper order problem plan
      → Attainable order problem' plan' → NoneCheaper order problem' plan'
      → nat_abs (total_cost problem plan -ℤ total_cost problem' plan') ≤ sensitivity_bound problem cell d
  cheapest-near order plan plan' a least a' least' =
      let b = attained-before order plan' a' in
      let s = shift plan a.within_bounds in
      let s' = shift plan' b.within_bounds in
      near (total_cost problem plan) (total_cost problem' plan') (total_cost problem plan') s.by s'.by
      (sensitivity_bound problem cell d)
      (subst (λ (z : ℤ). total_cost problem' plan' ≤ℤ z) s.adds (least' plan (attained-after order plan a)))
      (least plan' b) s'.adds s.small s'.small

-- ---- a call that answers Cheapest
-- its plan is attainable, and no attainable plan is cheaper
record CheapestPlan (order : Order) (problem : Problem) (plan : Vector) : Type 0 where
  attained : Attainable order problem plan
  least : NoneCheaper order problem plan

module _ (order : Order) (problem : Problem) (room : PlanRoom) where
  abbrev Kept : PlanEnd → Type 0
  Kept end = says_cheapest end.answer ≡ true → CheapestPlan order problem (padded end.plan)

  refused-kept : (number place : ℕ) → Kept (plan_refused room number place)
  unfolding plan_refused says_cheapest
  refused-kept number place says = clash says refl

  -- the plan in the plan area
  abbrev reached : Listing → Vector
  reached found = padded (filled (pos 0) room.plan (take order.n (last_stage problem found).plan))

  reached-kept : (found : Listing) → listing order room.list room.group ≡ accepted found
      → Sound order.n problem room.plan
      → Kept (plan_reached order.n room (terms_of problem) found (last_stage problem found))
  unfolding plan_reached planned_at says_cheapest
  reached-kept found e S says =
      let F = listing-facts order room.list room.group found e in
      let held = sym (descent-held F problem S.sized.start S.begins room.plan S.sized.room) in
      if-cases (λ (a : Outcome Planned). says_cheapest a ≡ true → CheapestPlan order problem (reached found))
      (is_cheapest (terms_of problem) (orbits found.table found.rows) (last_stage problem found))
      (λ t _. record {
        attained = subst (Attainable order problem) held (descent-attained F problem S.sized.start S.begins);
        least = subst (NoneCheaper order problem) held (descent-cheapest F problem S.sized.start S.begins t);
      })
      (λ _ wrong. clash wrong refl) says

  call_kept : Kept (plan_call order problem room)
  call_kept = call_ends order problem room Kept refused-kept reached-kept

-- THE TOTALS OF TWO CALLS THAT ANSWER CHEAPEST
pub cost-sensitivity : CostSensitivity
unfolding call_total
cost-sensitivity order problem problem' room room' cell d I says says' =
    let k = call_kept order problem room says in
    let k' = call_kept order problem' room' says' in
    cheapest-near I order _ _ k.attained k.least k'.attained k'.least
