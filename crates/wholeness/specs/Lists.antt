-- A list that is brought to a Check and meets none of the tests before 20 (Specification 5.1). Assumes nothing.
use Rattle.definitions.specs.Refusals.{Fault}
use Rattle.std.specs.Prelude.{◌≡◌, true, not, List, [], ◌∷◌, ℕ, ◌*◌, ◌/◌, ◌≤◌, ◌<◌, ℤ, length, get_or}
use Rattle.definitions.specs.Limits.{entry_limit, group_limit, list_limit}
use Rattle.definitions.specs.Vector.{is_zero}
use Rattle.definitions.specs.Orbit.{orbits}
use Rattle.definitions.specs.Completion.{first_state, has_other_below, remainder, sum_count}
use Rattle.definitions.specs.Lent.{vectors_of, whole_rows}
use Rattle.definitions.specs.Refusals.{fault_where, first_fault, sums_fault, wholeness_fault}
use Rattle.theory.proofs.Members.{Each}
use Rattle.vectors.specs.Areas.{Lent, vectors_in}
use Rattle.theory.proofs.Bounds.{Within}
use Rattle.reduction.specs.declared.Shape.{Shape}
use Rattle.reduction.specs.Areas.{Nonzero, Table, sequences_in}
use Rattle.reduction.specs.Marks.{Marked}

-- ---- what the tests ask

-- a group's table, and whole rows, not too many, whose entries are within the limit and whose images are not zero
pub record Brought (shape : Shape) (table : List ℕ) (rows : List ℤ) : Type 0 where
  pub rows_of_table : Table shape table
  pub some : 0 < shape.g
  pub small : shape.g ≤ group_limit
  pub whole : whole_rows shape.n (length rows) ≡ true
  pub few : length rows / shape.n ≤ list_limit
  pub entries : Each (Within entry_limit) (vectors_of shape.n rows)
  pub positive : Nonzero (orbits (sequences_in shape table) (vectors_of shape.n rows))

-- .. with the marks and keys of its rows
pub record Ready (shape : Shape) (table : List ℕ) (rows : List ℤ) (marks keys : List ℕ) : Type 0 where
  pub brought : Brought shape table rows
  pub room : length rows / shape.n * shape.g ≤ length marks
  pub marked : Marked (sequences_in shape table) (vectors_of shape.n rows) marks keys

-- ---- what they find, in lent areas

-- 20: the first generator whose remainder is not zero
abbrev pub generators_fault : Shape → (table : List ℕ) (generators rows : List ℤ) → Fault
generators_fault shape table generators rows =
    let vectors = vectors_of shape.n generators in
    let left = remainder (sequences_in shape table) (vectors_of shape.n rows) in
    fault_where 20 (length vectors) (λ p. not (is_zero (left (get_or vectors p []))))

-- 21: the first sum whose remainder is not zero
abbrev pub tried_fault : Shape → (table : List ℕ) (rows : List ℤ) → Fault
tried_fault shape table rows =
    let sequences = sequences_in shape table in
    let vectors = vectors_of shape.n rows in
    sums_fault sequences (sum_count (length sequences) (length vectors)) (first_state vectors)

-- 22: the first row that has an image of another row below it
abbrev pub others_fault : Shape → (table : List ℕ) (rows : List ℤ) → Fault
others_fault shape table rows =
    let vectors = vectors_of shape.n rows in
    fault_where 22 (length vectors) (has_other_below (sequences_in shape table) vectors)

-- 21 and 22
abbrev pub list_fault : Shape → (table : List ℕ) (rows : List ℤ) → Fault
list_fault shape table rows = first_fault (tried_fault shape table rows ∷ others_fault shape table rows ∷ [])

-- 20 to 22, of lent generators and rows
abbrev pub wholeness_in : Shape → (table : List ℕ) (generators rows : Lent ℤ) → Fault
wholeness_in shape table generators rows =
    wholeness_fault (sequences_in shape table) (vectors_in shape.n generators) (vectors_in shape.n rows)
