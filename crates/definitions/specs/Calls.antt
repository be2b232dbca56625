-- Specification 1.1 and 7.4: the lent calls. For each input the answer, and what every area lent for writing
-- holds at the end. Such an area is given by its size. Assumes nothing.
use Rattle.std.specs.declared.result.Result.TheVariants.{Err}
use Rattle.definitions.specs.Refusals.{Fault, no_fault}
use Rattle.std.specs.Prelude.{List, [], ◌∷◌, map, ℕ, ◌/◌, ℤ, pos, length}
use Rattle.definitions.specs.declared.Answer.{Answer}
use Rattle.definitions.specs.declared.Answer.TheVariants.{Moves, Split, Passed}
use Rattle.definitions.specs.Lists.{concat}
use Rattle.definitions.specs.Vector.{Vector, padded}
use Rattle.definitions.specs.Group.{Exchange}
use Rattle.definitions.specs.Completion.{Completion, running, stopped, completed, final_rows, sum_count}
use Rattle.definitions.specs.Certified.{CertifiedCompletion, certified_completed, final_coefficients}
use Rattle.definitions.specs.Split.{Piece, placed_orbits, splitting, written}
use Rattle.definitions.specs.Lent.{Order, generators_of, table_of}
use Rattle.definitions.specs.Lent.{filled, list_rows, numbers_of, vectors_of, whole_rows}
use Rattle.definitions.specs.Refusals.{Outcome, accepted, refused, first_fault, unless_fault, admission_fault}
use Rattle.definitions.specs.Refusals.{cells_fault, split_size_fault, split_fault}
use Rattle.definitions.specs.Refusals.{certified_fits, brought_fits, rows_fault, wholeness_fault}

-- ---- List

-- what a List finds: its rows, sorted, the group's table, the number of rows stored and of sums tried
pub record Listing : Type 0 where
  pub rows : List Vector
  pub table : List Exchange
  pub stored : ℕ
  pub sums : ℕ

-- 3.5, once 3.1 to 3.4 have ended
unfoldable pub listing_of : (table : List Exchange) → Completion → Outcome Listing
listing_of table (stopped number place) = refused number place
listing_of table (running s) =
    accepted (record { rows = final_rows table s.rows; table = table; stored = length s.rows; sums = s.sums })

-- 5 to 11, and then the completion
unfoldable pub listing : Order → (list_size group_size : ℕ) → Outcome Listing
listing order list_size group_size =
    let table = table_of order group_size in
    unless_fault (admission_fault order group_size (whole_rows order.n list_size))
    (listing_of table (completed table (list_rows order.n list_size) (generators_of order)))

-- the end of a List: its answer, and its areas
pub record ListEnd : Type 0 where
  pub answer : Outcome Answer
  pub list : List ℤ
  pub group : List ℕ

unfoldable pub list_end : (n list_size group_size : ℕ) → Outcome Listing → ListEnd
list_end n list_size group_size (Err r) =
    record { answer = refused r.number r.place; list = filled (pos 0) list_size []; group = filled 0 group_size [] }
list_end n list_size group_size (accepted found) =
    record {
      answer = accepted (Moves (length found.rows) (length found.table) found.stored found.sums);
      list = filled (pos 0) list_size (numbers_of n found.rows);
      group = filled 0 group_size (concat found.table);
    }

unfoldable pub list_call : Order → (list_size group_size : ℕ) → ListEnd
list_call order list_size group_size = list_end order.n list_size group_size (listing order list_size group_size)

-- ---- List with coefficients

-- what it finds: what a List finds, and the coefficients of its rows
pub record CertifiedListing : Type 0 where
  pub listing : Listing
  pub coefficients : List (List ℤ)

-- 3.5, once 3.1 to 3.4 have ended
unfoldable pub listed_coefficients : (table : List Exchange) (coefficients : List (List ℤ)) → Completion → List (List ℤ)
listed_coefficients table coefficients (stopped number place) = []
listed_coefficients table coefficients (running s) = final_coefficients table s.rows coefficients

unfoldable pub with_coefficients : (coefficients : List (List ℤ)) → Outcome Listing → Outcome CertifiedListing
with_coefficients coefficients (Err r) = refused r.number r.place
with_coefficients coefficients (accepted found) = accepted (record { listing = found; coefficients = coefficients })

unfoldable pub certified_listing_of : (table : List Exchange) → CertifiedCompletion → Outcome CertifiedListing
certified_listing_of table x =
    with_coefficients (listed_coefficients table x.coefficients x.completion) (listing_of table x.completion)

-- 5 to 11, and then the completion
unfoldable pub certified_listing : Order → (list_size group_size coefficient_size : ℕ) → Outcome CertifiedListing
certified_listing order list_size group_size coefficient_size =
    let table = table_of order group_size in
    let generators = generators_of order in
    unless_fault (admission_fault order group_size (certified_fits order list_size coefficient_size))
    (certified_listing_of table (certified_completed generators table (list_rows order.n list_size) generators))

-- its end: that of a List, and the coefficients area
pub record CertifiedEnd : Type 0 where
  pub answer : Outcome Answer
  pub list : List ℤ
  pub group : List ℕ
  pub coefficients : List ℤ

unfoldable pub certified_end : (n list_size group_size coefficient_size : ℕ) → Outcome CertifiedListing → CertifiedEnd
certified_end n list_size group_size coefficient_size (Err r) =
    let end = list_end n list_size group_size (refused r.number r.place) in
    record {
      answer = end.answer;
      list = end.list;
      group = end.group;
      coefficients = filled (pos 0) coefficient_size [];
    }
certified_end n list_size group_size coefficient_size (accepted found) =
    let end = list_end n list_size group_size (accepted found.listing) in
    record {
      answer = end.answer;
      list = end.list;
      group = end.group;
      coefficients = filled (pos 0) coefficient_size (concat found.coefficients);
    }

unfoldable pub certified_call : Order → (list_size group_size coefficient_size : ℕ) → CertifiedEnd
certified_call order list_size group_size coefficient_size =
    certified_end order.n list_size group_size coefficient_size
    (certified_listing order list_size group_size coefficient_size)

-- ---- Split

-- what a Split finds: what its List finds, and the pieces
pub record Parts : Type 0 where
  pub listing : Listing
  pub pieces : List Piece

-- 14 to 16, once the List has ended
unfoldable pub parts_of : (vector : List ℤ) (pieces_size : ℕ) → Outcome Listing → Outcome Parts
parts_of vector pieces_size (Err r) = refused r.number r.place
parts_of vector pieces_size (accepted found) =
    let taken = splitting (placed_orbits 0 found.table found.rows) (padded vector) in
    unless_fault (split_fault vector pieces_size taken) (accepted (record { listing = found; pieces = taken.pieces }))

-- 5 and 6, and then the List
unfoldable pub parts : Order → (vector : List ℤ) (list_size group_size pieces_size : ℕ) → Outcome Parts
parts order vector list_size group_size pieces_size =
    unless_fault (first_fault (cells_fault order.n ∷ split_size_fault order.n vector pieces_size ∷ []))
    (parts_of vector pieces_size (listing order list_size group_size))

-- the end of a Split: its answer, and its areas
pub record SplitEnd : Type 0 where
  pub answer : Outcome Answer
  pub list : List ℤ
  pub group : List ℕ
  pub pieces : List ℤ

unfoldable pub split_end : (n list_size group_size pieces_size : ℕ) → Outcome Parts → SplitEnd
split_end n list_size group_size pieces_size (Err r) =
    record {
      answer = refused r.number r.place;
      list = filled (pos 0) list_size [];
      group = filled 0 group_size [];
      pieces = filled (pos 0) pieces_size [];
    }
split_end n list_size group_size pieces_size (accepted found) =
    let listed = found.listing in
    record {
      answer =
          accepted (Split (length found.pieces) (length listed.rows) (length listed.table) listed.stored
          listed.sums);
      list = filled (pos 0) list_size (numbers_of n listed.rows);
      group = filled 0 group_size (concat listed.table);
      pieces = filled (pos 0) pieces_size (concat (map written found.pieces));
    }

unfoldable pub split_call : Order → (vector : List ℤ) (list_size group_size pieces_size : ℕ) → SplitEnd
split_call order vector list_size group_size pieces_size =
    split_end order.n list_size group_size pieces_size (parts order vector list_size group_size pieces_size)

-- ---- Check

-- 5.2, the rules: 5 to 11 and 17 to 19
unfoldable pub rules_fault : Order → (rows coefficients : List ℤ) (group_size : ℕ) → Fault
rules_fault order rows coefficients group_size =
    first_fault
    (admission_fault order group_size (brought_fits order rows coefficients)
    ∷ rows_fault (table_of order group_size) (generators_of order) (vectors_of order.n rows) coefficients
    ∷ [])

-- the rules, and then 20 to 22
unfoldable pub check_fault : Order → (rows coefficients : List ℤ) (group_size : ℕ) → Fault
check_fault order rows coefficients group_size =
    first_fault
    (rules_fault order rows coefficients group_size
    ∷ wholeness_fault (table_of order group_size) (generators_of order) (vectors_of order.n rows)
    ∷ [])

-- the end of a Check: its answer, and its area
pub record CheckEnd : Type 0 where
  pub answer : Outcome Answer
  pub group : List ℕ

unfoldable pub check_end : (group_size rows : ℕ) (table : List Exchange) → Fault → CheckEnd
check_end group_size rows table (Err r) =
    record { answer = refused r.number r.place; group = filled 0 group_size [] }
check_end group_size rows table no_fault =
    record {
      answer = accepted (Passed rows (sum_count (length table) rows));
      group = filled 0 group_size (concat table);
    }

unfoldable pub check_call : Order → (rows coefficients : List ℤ) (group_size : ℕ) → CheckEnd
check_call order rows coefficients group_size =
    check_end group_size (length rows / order.n) (table_of order group_size)
    (check_fault order rows coefficients group_size)
