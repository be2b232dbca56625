-- Sums over the cells from one on, and why those of a cost fit. Assumes nothing.
use mathlib.Core.Path.{◌≡◌, sym, ap, ap₂, ◌∙◌}
use mathlib.Core.Bool.{true}
use mathlib.Core.List.{◌∷◌}
use Prim.Native.Nat.{ℕ, ◌+◌, ◌*◌, ◌-◌, ◌^◌, ◌≤◌, ◌<◌, max}
use native.Mathlib.Nat.{mul-le-mul}
use native.Mathlib.Omega.{arith}
use lib.IntN.{ℤ, pos, negsuc, nat_abs, ◌+ℤ◌, ◌-ℤ◌, ◌*ℤ◌, +ℤ_comm}
use lib.ListN.{length, drop, length-drop, drop_of_length-le}
use mir.Syntax.{Width, w32, w64}
use mir.Val.{to_z, of_z, SFits, hbits}
use mir.Facts.{to_z-of_z}
use Rattle.definitions.specs.Limits.{cells, cost_limit}
use Rattle.definitions.specs.Vector.{Vector, within}
use Rattle.definitions.specs.Plan.{cost, reach}
use Rattle.theory.proofs.Bounds.{within-cell, within-each}
use Rattle.theory.proofs.Accepted.{each-drop}
use Rattle.certified_theory.proofs.Additive.{abs-multiple}
use Rattle.plan_theory.proofs.Sizes.{cost-small}
use Rattle.vectors.specs.Bounds.{headroom}
use Rattle.vectors.proofs.Cells.{wide_read}
use Rattle.vectors.proofs.Kit.{cell_at, drop-one}

-- one cell more, in front of those from i on
drop-before : (v : Vector) (i : ℕ) → 0 < i → i ≤ length v → drop (i - 1) v ≡ cell_at v (i - 1) ∷ drop i v
drop-before v i h k =
    let e : i - 1 + 1 ≡ i = omega arith in
    drop-one v (i - 1) (omega arith) ∙ ap (λ (j : ℕ). cell_at v (i - 1) ∷ drop j v) e

-- ---- no cell

pub cost-none : (costs v : Vector) (i : ℕ) → length costs ≤ i → pos 0 ≡ cost (drop i costs) (drop i v)
unfolding cost
cost-none costs v i h = rw (drop_of_length-le costs h)

pub reach-none : (upper x : Vector) (i : ℕ) → length upper ≤ i → 0 ≡ reach (drop i upper) (drop i x)
unfolding reach
reach-none upper x i h = rw (drop_of_length-le upper h)

-- ---- one cell more

module _ (u v : Vector) (i : ℕ) (some : 0 < i) (hu : i ≤ length u) (hv : i ≤ length v) where
  cost-cell : cost (drop (i - 1) u) (drop (i - 1) v)
      ≡ cell_at u (i - 1) *ℤ cell_at v (i - 1) +ℤ cost (drop i u) (drop i v)
  unfolding cost
  cost-cell = rw (drop-before u i some hu, drop-before v i some hv)

  pub reach-cell : reach (drop (i - 1) u) (drop (i - 1) v)
      ≡ max (nat_abs (cell_at v (i - 1))) (nat_abs (cell_at u (i - 1) -ℤ cell_at v (i - 1))) + reach (drop i u) (drop i v)
  unfolding reach
  reach-cell = rw (drop-before u i some hu, drop-before v i some hv)

-- ---- the size of a cost

-- the greatest absolute value of a cost times an entry
abbrev pub term_limit : ℕ
term_limit = cost_limit * headroom

term-small : (c x : ℤ) → nat_abs c ≤ cost_limit → nat_abs x ≤ headroom → nat_abs (c *ℤ x) ≤ term_limit
term-small c x h k = omega (arith, abs-multiple c x, mul-le-mul h k)

-- ---- what the machine makes of a cost

-- a small number fits
pub fits : {w : Width} (limit : ℕ) (z : ℤ) → nat_abs z ≤ limit → limit < 2 ^ hbits w → SFits w z
fits limit (pos a) h k = record { sfits = omega arith }
fits limit (negsuc a) h k = record { sfits = omega arith }

-- a cell at 64 bits, as it is read
abbrev wide : ℤ → ℤ
wide z = to_z w64 (of_z w64 (to_z w32 (of_z w32 z)))

wide_is : (z : ℤ) → nat_abs z ≤ headroom → wide z ≡ z
wide_is z h = wide_read z (fits headroom z h (omega arith))

-- costs and a vector within their limits
module _ (costs v : Vector) (priced : within cost_limit costs ≡ true) (bounded : within headroom v ≡ true)
    (costs-long : length costs ≡ cells) (long : length v ≡ cells) where
  -- the product of two cells, as it is read
  abbrev product : ℕ → ℤ
  product j = wide (cell_at costs j) *ℤ wide (cell_at v j)

  module _ (j : ℕ) where
    cost-at : nat_abs (cell_at costs j) ≤ cost_limit
    cost-at = within-cell cost_limit costs (within-each cost_limit costs priced) j

    entry_at : nat_abs (cell_at v j) ≤ headroom
    entry_at = within-cell headroom v (within-each headroom v bounded) j

    product_is : product j ≡ cell_at costs j *ℤ cell_at v j
    product_is = ap₂ ◌*ℤ◌ (wide_is (cell_at costs j) (omega (arith, cost-at))) (wide_is (cell_at v j) entry_at)

    pub product-fits : SFits w64 (product j)
    product-fits =
        let h = term-small (cell_at costs j) (cell_at v j) cost-at entry_at in
        rw product_is (fits term_limit (cell_at costs j *ℤ cell_at v j) h (omega arith))

    -- the cost of the cells from j on
    abbrev left : ℤ
    left = cost (drop j costs) (drop j v)

    left-fits : SFits w64 left
    left-fits =
        let s = each-drop j (within-each cost_limit costs priced) in
        let t = each-drop j (within-each headroom v bounded) in
        fits (cells * term_limit) left (omega (arith, cost-small cost_limit headroom s t, length-drop j costs, costs-long)) (omega arith)

  module _ (i : ℕ) (some : 0 < i) (inside : i ≤ cells) {s : ℤ} (sum : s ≡ left i) where
    -- one product more
    added : s +ℤ to_z w64 (of_z w64 (product (i - 1))) ≡ left (i - 1)
    added =
        ap₂ ◌+ℤ◌ sum (to_z-of_z (product-fits (i - 1)) ∙ product_is (i - 1))
        ∙ +ℤ_comm (left i) (cell_at costs (i - 1) *ℤ cell_at v (i - 1))
        ∙ sym (cost-cell costs v i some (omega (arith, costs-long)) (omega (arith, long)))

    pub sum_fits : SFits w64 (s +ℤ to_z w64 (of_z w64 (product (i - 1))))
    sum_fits = rw added (left-fits (i - 1))

    pub sum-read : to_z w64 (of_z w64 (s +ℤ to_z w64 (of_z w64 (product (i - 1))))) ≡ left (i - 1)
    sum-read = rw added (to_z-of_z (left-fits (i - 1)))
