-- What the parts of the lent calls find, by the definitions (Specification 3, 4, 5 and 7). Assumes nothing.
use Rattle.definitions.specs.declared.Answer.TheVariants.{Passed}
use Rattle.std.specs.declared.result.Result.TheVariants.{Err}
use Rattle.definitions.specs.Refusals.{Fault, no_fault}
use Rattle.std.specs.Prelude.{◌≡◌, not, true, List, [], ◌∷◌, ℕ, ◌*◌, ◌/◌, ◌<◌, ◌≤◌, leb, ℤ, pos, length, get_or}
use Rattle.definitions.specs.declared.Answer.{Answer}
use Rattle.definitions.specs.Limits.{entry_limit, generator_limit, group_limit, list_limit, piece_width, split_limit}
use Rattle.definitions.specs.Lists.{concat}
use Rattle.definitions.specs.Vector.{Vector, is_zero, within}
use Rattle.definitions.specs.Group.{Exchange}
use Rattle.definitions.specs.Completion.{completed, sum_count}
use Rattle.definitions.specs.Lent.{filled, vectors_of, numbers_of, list_rows, table_of, whole_rows}
use Rattle.definitions.specs.Refusals.{Outcome, accepted, refused, first_fault, fault_if, fault_where, is_past}
use Rattle.definitions.specs.Refusals.{rows_fault, wholeness_fault}
use Rattle.definitions.specs.Calls.{Listing, Parts, SplitEnd, check_fault, listing_of, parts_of, split_end}
use Rattle.vectors.specs.Areas.{Lent, LentMut, sent_order}
use Rattle.reduction.specs.declared.Shape.{Shape}
use Rattle.reduction.specs.Areas.{rows_at, sequences_in, Area, Table}
use Rattle.completion.specs.Machine.{Admissible}
use Rattle.moves.specs.declared.Numbers.{Numbers}

-- a group area that holds a table which keeps the lattice of the generators
pub record Grouped (shape : Shape) (generators : List ℤ) (group : List ℕ) : Type 0 where
  pub table : Table shape group
  pub some : 0 < shape.g
  pub small : shape.g ≤ group_limit
  pub admissible : Admissible shape group generators
  pub held : group ≡ filled 0 (length group) (concat (sequences_in shape group))

-- what is listed with a table
abbrev pub listing_with : (n list_size : ℕ) (table : List Exchange) (generators : List ℤ) → Outcome Listing
listing_with n list_size table generators =
    listing_of table (completed table (list_rows n list_size) (vectors_of n generators))

-- an outcome in numbers
abbrev pub listed_of : Outcome Listing → Outcome Numbers
listed_of (Err r) = refused r.number r.place
listed_of (accepted found) =
    accepted (record {
      rows = length found.rows;
      members = length found.table;
      stored = found.stored;
      sums = found.sums;
    })

-- the outcome `o` was found, and the areas hold it where it was accepted
pub record Finds (n list_size group_size : ℕ) (o : Outcome Listing) (list : List ℤ) (group : List ℕ)
    (r : Outcome Numbers) : Type 0 where
  pub answer : r ≡ listed_of o
  pub list_holds : (found : Listing) → o ≡ accepted found → list ≡ filled (pos 0) list_size (numbers_of n found.rows)
  pub group_holds : (found : Listing) → o ≡ accepted found → group ≡ filled 0 group_size (concat found.table)

-- .. in lent areas: what is due for their sizes
abbrev pub FindsIn : (n : ℕ) (due : (list_size group_size : ℕ) → Outcome Listing) (list : LentMut ℤ)
    (group : LentMut ℕ) (r : Outcome Numbers) → Type 0
FindsIn n due list group r =
    let list_size = length list.entry.now in
    let group_size = length group.entry.now in
    Finds n list_size group_size (due list_size group_size) list.exit.now group.exit.now r

-- what is listed with the table in the group area was found
abbrev pub Completes : Shape → (generators : Lent ℤ) (list : LentMut ℤ) (group : Lent ℕ) (r : Outcome Numbers) → Type 0
Completes shape generators list group r =
    let table = sequences_in shape group.entry.now in
    let list_size = length list.entry.now in
    Finds shape.n list_size (length group.entry.now)
    (listing_with shape.n list_size table generators.entry.now) list.exit.now group.exit.now r

-- ---- Split

-- list and group areas that hold a list and a table of these numbers, with zeros behind
pub record Held (n : ℕ) (found : Numbers) (list : List ℤ) (group : List ℕ) : Type 0 where
  pub table : Table (record { n = n; g = found.members }) group
  pub small : found.members ≤ group_limit
  pub area : Area n found.rows list
  pub few : found.rows ≤ list_limit
  pub list_held : list ≡ filled (pos 0) (length list) (numbers_of n (rows_at n found.rows list))
  pub group_held : group ≡ filled 0 (length group) (concat (sequences_in (record { n = n; g = found.members }) group))

-- the listing that such areas hold
abbrev pub listing_in : (n : ℕ) → Numbers → (list : List ℤ) (group : List ℕ) → Listing
listing_in n found list group = record {
  rows = rows_at n found.rows list;
  table = sequences_in (record { n = n; g = found.members }) group;
  stored = found.stored;
  sums = found.sums;
}

-- 14 to 16 of a vector, with such areas and a pieces area
abbrev pub parts_in : (n : ℕ) → Numbers → (vector : Lent ℤ) (list : LentMut ℤ) (group : LentMut ℕ)
    (pieces : LentMut ℤ) → Outcome Parts
parts_in n found vector list group pieces =
    let listed = listing_in n found list.entry.now group.entry.now in
    parts_of vector.entry.now (length pieces.entry.now) (accepted listed)

-- a vector of n numbers that meets no 14
pub record Entered (n : ℕ) (vector : List ℤ) : Type 0 where
  pub sized : length vector ≡ n
  pub entries : fault_where 14 (length vector) (λ p. is_past split_limit (get_or vector p (pos 0))) ≡ no_fault

-- 15 and 16, of what remains and the number of pieces, in an area of `size` numbers
abbrev pub pieces_fault : (rest : Vector) (count size : ℕ) → Fault
pieces_fault rest count size =
    first_fault (fault_if 15 (not (is_zero rest)) ∷ fault_if 16 (not (leb count (size / piece_width))) ∷ [])

-- a Split ended as was due: its answer and its areas
pub record SplitEnds (due : SplitEnd) (answer : Outcome Answer) (list : List ℤ) (group : List ℕ) (pieces : List ℤ)
    : Type 0 where
  pub answers : answer ≡ due.answer
  pub list_holds : list ≡ due.list
  pub group_holds : group ≡ due.group
  pub pieces_holds : pieces ≡ due.pieces

-- .. in lent areas, as this outcome ends
abbrev pub SplitEndsIn : (n : ℕ) → Outcome Parts → (list : LentMut ℤ) (group : LentMut ℕ) (pieces : LentMut ℤ)
    (answer : Outcome Answer) → Type 0
SplitEndsIn n outcome list group pieces answer =
    let due = split_end n (length list.entry.now) (length group.entry.now) (length pieces.entry.now) in
    SplitEnds (due outcome) answer list.exit.now group.exit.now pieces.exit.now

-- ---- Check

-- a pass of so many rows by a group of g members, unless a test was met
abbrev pub checked_of : (rows g : ℕ) → Fault → Outcome Answer
checked_of rows g no_fault = accepted (Passed rows (sum_count g rows))
checked_of rows g (Err r) = refused r.number r.place

-- 17 to 22
abbrev pub brought_fault : (n : ℕ) (table : List Exchange) (generators rows coefficients : List ℤ) → Fault
brought_fault n table generators rows coefficients =
    first_fault
    (rows_fault table (vectors_of n generators) (vectors_of n rows) coefficients
    ∷ wholeness_fault table (vectors_of n generators) (vectors_of n rows)
    ∷ [])

-- .. of lent areas
abbrev pub brought_fault_in : Shape → (generators rows coefficients : Lent ℤ) (group : Lent ℕ) → Fault
brought_fault_in shape generators rows coefficients group =
    brought_fault shape.n (sequences_in shape group.entry.now)
    generators.entry.now rows.entry.now coefficients.entry.now

-- generators within the limit, and brought rows and coefficients in the right numbers
pub record Sized (n : ℕ) (generators rows coefficients : List ℤ) : Type 0 where
  pub limited : within entry_limit generators ≡ true
  pub generators_few : length generators / n ≤ generator_limit
  pub whole : whole_rows n (length rows) ≡ true
  pub few : length rows / n ≤ list_limit
  pub one_each : length coefficients ≡ length rows / n * (length generators / n)

-- the tests came to `fault`; where none was met, the area holds the table, and zeros behind
pub record Checks (rows size : ℕ) (table : List Exchange) (fault : Fault) (group : List ℕ) (r : Outcome Answer)
    : Type 0 where
  pub answer : r ≡ checked_of rows (length table) fault
  pub held : fault ≡ no_fault → group ≡ filled 0 size (concat table)

-- .. the tests of a Check
abbrev pub ChecksIn : (n : ℕ) (generators : Lent ℤ) (exchanges : Lent ℕ) (images rows coefficients : Lent ℤ)
    (group : LentMut ℕ) (r : Outcome Answer) → Type 0
ChecksIn n generators exchanges images rows coefficients group r =
    let order = sent_order n generators exchanges images in
    let size = length group.entry.now in
    let fault = check_fault order rows.entry.now coefficients.entry.now size in
    Checks (length rows.entry.now / n) size (table_of order size) fault group.exit.now r
