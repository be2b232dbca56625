-- The steps of a descent on lent areas, by the definitions (Specification 3.10). Assumes nothing.
use Rattle.std.specs.Prelude.{◌≡◌, true, List, [], ◌∷◌, ℕ, ◌*◌, ◌≤◌, ◌<◌, ℤ, pos, length, get_or}
use Rattle.definitions.specs.declared.Terms.{Terms}
use Rattle.definitions.specs.Limits.{bound_limit, cells, cost_limit}
use Rattle.definitions.specs.Vector.{Vector, negative, within}
use Rattle.definitions.specs.Orbit.{orbits}
use Rattle.definitions.specs.Plan.{best_gain, best_of, best_step, cost, descent, feasible, gain}
use Rattle.vectors.specs.Bounds.{headroom}
use Rattle.reduction.specs.declared.Extent.{Extent}
use Rattle.reduction.specs.declared.Slot.{Slot}
use Rattle.reduction.specs.Areas.{sequences_in}
use Rattle.reduction.specs.Marks.{Kept, RowsMarked, kept_before, rows_in_use, slot_image}
use Rattle.descents.specs.declared.Descent.{Descent}
use Rattle.descents.specs.declared.Step.{Step}

-- the images of the rows in use
abbrev pub images_in : Extent → (table : List ℕ) (rows : List ℤ) → List Vector
images_in extent table rows = orbits (sequences_in extent.shape table) (rows_in_use extent rows)

-- rows with their marks, by which a walk comes to each image once
pub record Walkable (extent : Extent) (table : List ℕ) (rows : List ℤ) (marks : List ℕ) : Type 0 where
  pub keys : List ℕ
  pub held : RowsMarked extent.shape extent.k table rows marks keys

-- bounds and costs within their limits, and a feasible plan
pub record Planning (terms : Terms) (x : Vector) : Type 0 where
  pub wide : length terms.upper ≡ cells
  pub long : length terms.costs ≡ cells
  pub costs : within cost_limit terms.costs ≡ true
  pub upper : within bound_limit terms.upper ≡ true
  pub plan : feasible terms.upper x ≡ true

-- ---- prices

-- the price of the image at a slot, if there is room for it
abbrev pub PriceAt : (costs : Vector) → Extent → (table : List ℕ) (rows prices : List ℤ) → Slot → Type 0
PriceAt costs extent table rows prices s =
    s.kept < length prices → get_or prices s.kept (pos 0) ≡ cost costs (slot_image extent table rows s.at)

-- .. of each slot that is kept
abbrev pub Priced : (costs : Vector) → Extent → (table : List ℕ) (rows : List ℤ) (marks : List ℕ) (prices : List ℤ)
    → Type 0
Priced costs extent table rows marks prices =
    (q : ℕ) → q < extent.k * extent.shape.g → Kept marks q
    → PriceAt costs extent table rows prices (record { at = q; kept = kept_before marks q })

-- ---- a step

-- the image at a slot, and its negative
abbrev pub pair_at : Extent → (table : List ℕ) (rows : List ℤ) → Slot → List Vector
pair_at extent table rows s =
    let image = slot_image extent table rows s.at in
    image ∷ negative image ∷ []

-- a step has its gain, and is a vector within the headroom
pub record Gains (terms : Terms) (x : Vector) (r : Step) : Type 0 where
  pub gain : r.gain ≡ gain terms x r.vector
  pub long : length r.vector ≡ cells
  pub small : within headroom r.vector ≡ true

-- the better of a step and some vectors
pub record Better (terms : Terms) (x : Vector) (vectors : List Vector) (best r : Step) : Type 0 where
  pub vector : r.vector ≡ best_of terms x best.vector vectors
  pub gains : Gains terms x r

-- the best step from a plan
pub record IsBest (terms : Terms) (extent : Extent) (table : List ℕ) (rows : List ℤ) (x : Vector) (r : Step)
    : Type 0 where
  pub vector : r.vector ≡ best_step terms (images_in extent table rows) x
  pub gains : Gains terms x r

-- ---- the descent

-- a descent ended as was due: its plan, its steps, and the gain that is left
pub record DescendsTo (terms : Terms) (extent : Extent) (table : List ℕ) (rows : List ℤ) (budget : ℕ) (start : Vector)
    (r : Descent) : Type 0 where
  pub stage : record { plan = r.plan; steps = r.steps } ≡ descent terms (images_in extent table rows) budget start
  pub left : r.gain ≡ best_gain terms (images_in extent table rows) r.plan
  pub plan : feasible terms.upper r.plan ≡ true
  pub bounded : r.gain ≤ cells * (cost_limit * bound_limit)
