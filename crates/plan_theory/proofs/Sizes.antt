-- The sizes of what a descent computes: entries, gains and the reach. Assumes nothing.
use mathlib.Core.Path.{◌≡◌, subst}
use mathlib.Core.Logic.{◌⊎◌, inl, inr}
use mathlib.Core.Bool.{true, false}
use mathlib.Core.List.{[], ◌∷◌}
use Prim.Native.Nat.{ℕ, zero, suc, ◌*◌, ◌≤◌, max}
use native.Mathlib.Omega.{arith}
use native.Mathlib.Nat as NatL
use lib.ListN.{length, get_or}
use lib.IntN.{ℤ, pos, nat_abs, neg_ℤ, ◌+ℤ◌, ◌-ℤ◌, ◌*ℤ◌}
use Rattle.definitions.specs.declared.Terms.{Terms}
use Rattle.definitions.specs.Limits.{bound_limit, cells, cost_limit}
use Rattle.definitions.specs.Vector.{Vector, plus, within}
use Rattle.definitions.specs.Plan.{cost, feasible, gain, reach}
use Rattle.theory.proofs.Bounds.{Within, each_within, within-each}
use Rattle.theory.proofs.Cell.{abs-plus, apart, balance, down-neg, size, up_neg}
use Rattle.theory.proofs.Members.{each-cons, each_nil}
use Rattle.theory.proofs.Tests.{bool_cases}
use Rattle.certified_theory.proofs.Additive.{abs-multiple}
use Rattle.plan_theory.proofs.Cost.{fall-down}
use Rattle.plan_theory.proofs.Best.{gain-fall, gain-not}
use Rattle.plan_theory.proofs.Bounds.{Bounded, CellBounded, bounded-cons, bounded-nil, feasible-bounded}

-- ---- one cell
cell-size : {bound x : ℤ} → CellBounded bound x → nat_abs x ≤ nat_abs bound
cell-size {bound} {x} a = omega (arith, size x, size bound)

cell-far : {bound x : ℤ} → CellBounded bound x → max (nat_abs x) (nat_abs (bound -ℤ x)) ≤ nat_abs bound
cell-far {bound} {x} a =
    omega (arith, size x, size bound, size (bound -ℤ x), balance bound (neg_ℤ x), apart (bound -ℤ x), up_neg x, down-neg x)

cell-step : {bound x : ℤ} (y : ℤ) → CellBounded bound x → CellBounded bound (x +ℤ y) → nat_abs y ≤ nat_abs bound
cell-step {bound} {x} y a b = omega (arith, size y, size bound, balance x y, apart y)

-- ---- all cells
module _ {limit : ℕ} where
  bounded-within : {upper x : Vector} → Bounded upper x → Within limit upper → Within limit x
  bounded-within bounded-nil each_nil = each_nil
  bounded-within (bounded-cons {x = x} a s) (each-cons h t) =
      each-cons {x = x} (omega (arith, cell-size a)) (bounded-within s t)

  reach-small : {upper x : Vector} → Bounded upper x → Within limit upper → reach upper x ≤ length x * limit
  unfolding reach
  reach-small bounded-nil each_nil = omega arith
  reach-small (bounded-cons a s) (each-cons h t) = omega (arith, cell-far a, reach-small s t)

  bounded-step : {upper x : Vector} (v : Vector) → Bounded upper x → Bounded upper (plus x v) → length x ≡ length v
      → Within limit upper → Within limit v
  unfolding plus
  bounded-step [] s t e h = each_nil
  bounded-step (y ∷ v) bounded-nil t e h = absurd (omega arith)
  bounded-step (y ∷ v) (bounded-cons a s) (bounded-cons b t) e (each-cons k h) =
      each-cons {x = y} (omega (arith, cell-step y a b)) (bounded-step v s t (omega arith) h)

bounded-entry : {upper x : Vector} → Bounded upper x → (cell : ℕ)
    → nat_abs (get_or x cell (pos 0)) ≤ nat_abs (get_or upper cell (pos 0))
bounded-entry bounded-nil cell = omega arith
bounded-entry (bounded-cons a s) zero = cell-size a
bounded-entry (bounded-cons a s) (suc cell) = bounded-entry s cell

-- the cost of a vector, where costs and entries are limited
pub cost-small : (limit most : ℕ) {costs v : Vector} → Within limit costs → Within most v
    → nat_abs (cost costs v) ≤ length costs * (limit * most)
unfolding cost
cost-small limit most each_nil t = omega arith
cost-small limit most (each-cons h s) each_nil = omega arith
cost-small limit most (each-cons {x = c} {xs = costs} h s) (each-cons {x = x} {xs = v} k t) =
    omega (
      arith,
      abs-plus (c *ℤ x) (cost costs v),
      abs-multiple c x,
      NatL.mul-le-mul h k,
      cost-small limit most s t,
      NatL.suc-mul (length costs) (limit * most),
    )

-- ---- the theorems
pub feasible-within : (limit : ℕ) (upper x : Vector) → within limit upper ≡ true → feasible upper x ≡ true
    → within limit x ≡ true
feasible-within limit upper x h e = each_within limit (bounded-within (feasible-bounded upper x e) (within-each limit upper h))

pub feasible-entry : (upper x : Vector) → feasible upper x ≡ true → (cell : ℕ)
    → nat_abs (get_or x cell (pos 0)) ≤ nat_abs (get_or upper cell (pos 0))
feasible-entry upper x e cell = bounded-entry (feasible-bounded upper x e) cell

pub reach-bound : (upper x : Vector) → within bound_limit upper ≡ true → feasible upper x ≡ true → length x ≡ cells
    → reach upper x ≤ cells * bound_limit
reach-bound upper x h e p =
    subst (λ (n : ℕ). reach upper x ≤ n * bound_limit) p (reach-small (feasible-bounded upper x e) (within-each bound_limit upper h))

pub gain-bound : (terms : Terms) (x v : Vector) → within cost_limit terms.costs ≡ true
    → within bound_limit terms.upper ≡ true → feasible terms.upper x ≡ true → length terms.costs ≡ cells
    → length x ≡ length v → gain terms x v ≤ cells * (cost_limit * bound_limit)
gain-bound terms x v c h e p same = go (bool_cases (feasible terms.upper (plus x v)))
  where
    go : (feasible terms.upper (plus x v) ≡ true) ⊎ (feasible terms.upper (plus x v) ≡ false)
        → gain terms x v ≤ cells * (cost_limit * bound_limit)
    go (inr f) = omega (arith, gain-not terms x v f)
    go (inl f) =
        let w : Within bound_limit v =
        bounded-step v (feasible-bounded terms.upper x e) (feasible-bounded terms.upper (plus x v) f) same
        (within-each bound_limit terms.upper h) in
        omega (
          arith,
          gain-fall terms x v,
          fall-down (cost terms.costs v),
          size (cost terms.costs v),
          cost-small cost_limit bound_limit (within-each cost_limit terms.costs c) w,
          p,
        )
