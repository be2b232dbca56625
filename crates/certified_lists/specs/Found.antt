-- What the parts of the List with coefficients find, by the definitions (Specification 3.7 and 7). Assumes nothing.
use Rattle.std.specs.declared.result.Result.TheVariants.{Err}
use Rattle.std.specs.Prelude.{◌≡◌, List, ℕ, ◌*◌, ◌/◌, ◌≤◌, ℤ, pos, length}
use Rattle.definitions.specs.declared.Answer.{Answer}
use Rattle.definitions.specs.declared.Answer.TheVariants.{Moves}
use Rattle.definitions.specs.Limits.{generator_limit, list_limit, stored_coefficient_limit}
use Rattle.definitions.specs.Lists.{concat}
use Rattle.definitions.specs.Group.{Exchange}
use Rattle.definitions.specs.Certified.{certified_completed, final_coefficients}
use Rattle.definitions.specs.Lent.{chunks, filled, list_rows, numbers_of, vectors_of}
use Rattle.definitions.specs.Refusals.{Outcome, accepted, refused}
use Rattle.definitions.specs.Calls.{CertifiedListing, certified_listing_of}
use Rattle.theory.proofs.Members.{Each}
use Rattle.theory.proofs.Bounds.{Within}
use Rattle.vectors.specs.Areas.{Lent, LentMut}
use Rattle.reduction.specs.declared.Extent.{Extent}
use Rattle.reduction.specs.declared.Shape.{Shape}
use Rattle.reduction.specs.Areas.{sequences_in}
use Rattle.reduction.specs.Marks.{RowsMarked, rows_in_use}
use Rattle.coefficients.specs.Carrying.{ClosedBasis}
use Rattle.sorting.specs.Flags.{Finished}
use Rattle.moves.specs.Found.{Grouped}

-- a group area that holds a table under which the generators are closed
pub record ClosedGroup (shape : Shape) (generators : List ℤ) (group : List ℕ) : Type 0 where
  pub grouped : Grouped shape generators group
  pub closed : ClosedBasis shape group generators

-- what is listed with a table
abbrev pub certified_with : (n list_size : ℕ) (table : List Exchange) (generators : List ℤ) → Outcome CertifiedListing
certified_with n list_size table generators =
    let basis = vectors_of n generators in
    certified_listing_of table (certified_completed basis table (list_rows n list_size) basis)

-- an outcome as an answer
abbrev pub answer_of : Outcome CertifiedListing → Outcome Answer
answer_of (Err r) = refused r.number r.place
answer_of (accepted found) =
    let listing = found.listing in
    accepted (Moves (length listing.rows) (length listing.table) listing.stored listing.sums)

-- the outcome `o` was found, and the areas hold it where it was accepted
pub record CertifiedFinds (n list_size group_size coefficient_size : ℕ) (o : Outcome CertifiedListing) (list : List ℤ)
    (group : List ℕ) (coefficients : List ℤ) (r : Outcome Answer) : Type 0 where
  pub answer : r ≡ answer_of o
  pub list_holds : (found : CertifiedListing) → o ≡ accepted found
      → list ≡ filled (pos 0) list_size (numbers_of n found.listing.rows)
  pub group_holds : (found : CertifiedListing) → o ≡ accepted found
      → group ≡ filled 0 group_size (concat found.listing.table)
  pub coefficients_hold : (found : CertifiedListing) → o ≡ accepted found
      → coefficients ≡ filled (pos 0) coefficient_size (concat found.coefficients)

-- .. in lent areas: what is due for their sizes
abbrev pub CertifiedFindsIn : (n : ℕ) (due : (list_size group_size coefficient_size : ℕ) → Outcome CertifiedListing)
    (list : LentMut ℤ) (group : LentMut ℕ) (coefficients : LentMut ℤ) (r : Outcome Answer) → Type 0
CertifiedFindsIn n due list group coefficients r =
    let list_size = length list.entry.now in
    let group_size = length group.entry.now in
    let coefficient_size = length coefficients.entry.now in
    CertifiedFinds n list_size group_size coefficient_size (due list_size group_size coefficient_size)
    list.exit.now group.exit.now coefficients.exit.now r

-- what is listed with the table in the group area was found
abbrev pub CertifiedCompletes : Shape → (generators : Lent ℤ) (list : LentMut ℤ) (group : Lent ℕ)
    (coefficients : LentMut ℤ) (r : Outcome Answer) → Type 0
CertifiedCompletes shape generators list group coefficients r =
    let table = sequences_in shape group.entry.now in
    let list_size = length list.entry.now in
    CertifiedFinds shape.n list_size (length group.entry.now) (length coefficients.entry.now)
    (certified_with shape.n list_size table generators.entry.now)
    list.exit.now group.exit.now coefficients.exit.now r

-- k stored rows with their marks, and their coefficients, m to a row
pub record RowsAndCoefficients (extent : Extent) (m : ℕ) (group : List ℕ) (list : List ℤ) (marks keys : List ℕ)
    (noted coefficients : List ℤ) : Type 0 where
  pub marked : RowsMarked extent.shape extent.k group list marks keys
  pub few : extent.k ≤ list_limit
  pub narrow : m ≤ generator_limit
  pub holds : extent.k * m ≤ length noted
  pub limited : Each (Within stored_coefficient_limit) (chunks m extent.k noted)
  pub room : length list / extent.shape.n * m ≤ length coefficients

-- the rows that stay were sorted, and their coefficients put beside them
pub record Arranged (extent : Extent) (m : ℕ) (group : List ℕ) (list noted list' coefficients' : List ℤ)
    (count size : ℕ) : Type 0 where
  pub finished : Finished extent group list list' count
  pub arranged : (let table = sequences_in extent.shape group in
      let due = final_coefficients table (rows_in_use extent list) (chunks m extent.k noted) in
      coefficients' ≡ filled (pos 0) size (concat due))
