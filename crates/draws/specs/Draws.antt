-- The records of a run on lent areas, and what is tested before it, by the definitions (Specification 3.9). Assumes
-- nothing.
use Rattle.definitions.specs.Refusals.{Fault}
use Rattle.std.specs.Prelude.{◌≡◌, Bool, ◌&&◌, not, List, ℕ, ◌≤◌, eqb, ℤ, pos, nat_abs, length, get_or, Option, Some, None, if◌then◌else◌}
use Rattle.definitions.specs.declared.Draw.{Draw}
use Rattle.definitions.specs.declared.View.{View}
use Rattle.definitions.specs.Limits.{cells, list_limit}
use Rattle.definitions.specs.Vector.{Vector, plus}
use Rattle.definitions.specs.Group.{Exchange}
use Rattle.definitions.specs.Refusals.{fault_where}
use Rattle.definitions.specs.Window.{Chain, drawn_image, is_drawable, is_entry, is_index}
use Rattle.theory.proofs.Rows.{Short}
use Rattle.vectors.specs.Areas.{Lent}
use Rattle.reduction.specs.declared.Extent.{Extent}
use Rattle.reduction.specs.Areas.{Area, Table, rows_at, sequences_in}

-- what a sampler sends, in lent areas
abbrev pub chain_in : View → (start records : Lent ℤ) → Chain
chain_in view start records =
    record { start = start.entry.now; width = view.width; cell = view.cell; records = records.entry.now }

-- 14 of a start
abbrev pub start_fault : (start : List ℤ) → Fault
start_fault start = fault_where 14 (length start) (λ p. not (is_entry (get_or start p (pos 0))))

-- ---- a record

-- the first k rows of a list and the table of a group, within the limits
pub record Listed (extent : Extent) (list : List ℤ) (group : List ℕ) : Type 0 where
  pub is_table : Table extent.shape group
  pub area : Area extent.shape.n extent.k list
  pub few : extent.k ≤ list_limit

abbrev pub table_in : Extent → (group : List ℕ) → List Exchange
table_in extent group = sequences_in extent.shape group

abbrev pub rows_in : Extent → (list : List ℤ) → List Vector
rows_in extent list = rows_at extent.shape.n extent.k list

-- a record names an image of so many rows by so many members
abbrev pub names_in : Extent → Draw → Bool
names_in extent draw =
    is_index extent.k draw.row && is_index extent.shape.g draw.position && eqb (nat_abs draw.sign) 1

-- the contingency table that a record reaches, unless it is refused
abbrev pub drawn : (table : List Exchange) (rows : List Vector) (current : Vector) → Draw → Option Vector
drawn table rows current draw =
    let next = plus current (drawn_image table rows draw) in
    if is_drawable table rows current draw then Some next else None

-- a vector of n cells, and zeros behind them
pub record Filled (n : ℕ) (v : Vector) : Type 0 where
  pub long : length v ≡ cells
  pub short : Short n v
