-- What the lent calls promise, for every input (Specification 1.1, 7.4 and 11). Assumes nothing.
use Rattle.definitions.specs.Refusals.{Outcome, refused}
use Rattle.definitions.specs.Refusals.{no_fault}
use Rattle.std.specs.Prelude.{◌≡◌, ◌↔◌, List, [], ◌∷◌, map, ℕ, ℤ, pos, length, get_or, replicate}
use Rattle.definitions.specs.declared.Answer.{Answer}
use Rattle.definitions.specs.declared.Answer.TheVariants.{Moves, Split, Passed}
use Rattle.definitions.specs.Limits.{split_limit}
use Rattle.definitions.specs.Lists.{concat}
use Rattle.definitions.specs.Vector.{Vector, padded}
use Rattle.definitions.specs.Lattice.{InLattice}
use Rattle.definitions.specs.Completion.{sum_count}
use Rattle.definitions.specs.Split.{written}
use Rattle.definitions.specs.Lent.{Order, exchanges_of, filled, generators_of, numbers_of, table_of, vectors_of}
use Rattle.definitions.specs.Refusals.{accepted, cells_fault, fault_where, first_fault, is_past, split_size_fault}
use Rattle.definitions.specs.Calls.{Listing, Parts, listing, list_call, split_call, check_call}
use Rattle.definitions.specs.Demands.{ConformalSum, IsTable, ListKept, RulesKept, SplitKept, Whole}
use Rattle.vectors.specs.Areas.{Lent, LentMut, sent_order}

-- ---- List

-- demand 2: the list area holds a whole list, sorted, and the group area the table of the group
pub record ListAccepted (order : Order) (answer : Outcome Answer) (list : List ℤ) (group : List ℕ) : Type 0 where
  pub found : Listing
  pub kept : ListKept order found
  pub says : answer ≡ accepted (Moves (length found.rows) (length found.table) found.stored found.sums)
  pub list_holds : list ≡ filled (pos 0) (length list) (numbers_of order.n found.rows)
  pub group_holds : group ≡ filled 0 (length group) (concat found.table)

-- demand 1: zeros in every area lent for writing
pub record ListZero (list : List ℤ) (group : List ℕ) : Type 0 where
  pub list_holds : list ≡ replicate (length list) (pos 0)
  pub group_holds : group ≡ replicate (length group) 0

-- the answer and both areas by the definition; and what a reader may conclude from an answer
pub record ListPromise (order : Order) (list_size group_size : ℕ) (answer : Outcome Answer) (list : List ℤ)
    (group : List ℕ) : Type 0 where
  pub answers : answer ≡ (list_call order list_size group_size).answer
  pub list_holds : list ≡ (list_call order list_size group_size).list
  pub group_holds : group ≡ (list_call order list_size group_size).group
  pub accepted : (rows g stored sums : ℕ) → answer ≡ accepted (Moves rows g stored sums)
      → ListAccepted order answer list group
  pub refused : (number place : ℕ) → answer ≡ refused number place → ListZero list group

-- .. of the order that is sent, in the areas that are lent
abbrev pub KeepsList : (n : ℕ) (generators : Lent ℤ) (exchanges : Lent ℕ) (images : Lent ℤ) (list : LentMut ℤ)
    (group : LentMut ℕ) (answer : Outcome Answer) → Type 0
KeepsList n generators exchanges images list group answer =
    let order = sent_order n generators exchanges images in
    ListPromise order (length list.entry.now) (length group.entry.now) answer
    list.exit.now group.exit.now

-- ---- Split

-- demand 2: the pieces area holds pieces of a whole list that add up to the vector, none opposing it; the other areas
-- hold the list and the table
pub record SplitAccepted (order : Order) (vector : List ℤ) (answer : Outcome Answer) (list : List ℤ) (group : List ℕ)
    (pieces : List ℤ) : Type 0 where
  pub found : Parts
  pub list_kept : ListKept order found.listing
  pub kept : SplitKept found.listing.table found.listing.rows (padded vector) found.pieces
  pub in_lattice : InLattice (generators_of order) (padded vector)
  pub says : answer
      ≡ accepted (Split (length found.pieces) (length found.listing.rows) (length found.listing.table)
      found.listing.stored found.listing.sums)
  pub list_holds : list ≡ filled (pos 0) (length list) (numbers_of order.n found.listing.rows)
  pub group_holds : group ≡ filled 0 (length group) (concat found.listing.table)
  pub pieces_holds : pieces ≡ filled (pos 0) (length pieces) (concat (map written found.pieces))

-- demand 1: zeros in every area lent for writing
pub record SplitZero (list : List ℤ) (group : List ℕ) (pieces : List ℤ) : Type 0 where
  pub list_holds : list ≡ replicate (length list) (pos 0)
  pub group_holds : group ≡ replicate (length group) 0
  pub pieces_holds : pieces ≡ replicate (length pieces) (pos 0)

-- 4.2: a Split that gets past 14
pub record PastEntries (order : Order) (vector : List ℤ) (list_size group_size pieces_size : ℕ) : Type 0 where
  pub sizes : first_fault (cells_fault order.n ∷ split_size_fault order.n vector pieces_size ∷ []) ≡ no_fault
  pub found : Listing
  pub listed : listing order list_size group_size ≡ accepted found
  pub entries : fault_where 14 (length vector) (λ p. is_past split_limit (get_or vector p (pos 0))) ≡ no_fault

-- the answer and the three areas by the definition; what a reader may conclude from an answer; and 15 exactly where
-- the vector is not in the lattice
pub record SplitPromise (order : Order) (vector : List ℤ) (list_size group_size pieces_size : ℕ)
    (answer : Outcome Answer) (list : List ℤ) (group : List ℕ) (pieces : List ℤ) : Type 0 where
  pub answers : answer ≡ (split_call order vector list_size group_size pieces_size).answer
  pub list_holds : list ≡ (split_call order vector list_size group_size pieces_size).list
  pub group_holds : group ≡ (split_call order vector list_size group_size pieces_size).group
  pub pieces_holds : pieces ≡ (split_call order vector list_size group_size pieces_size).pieces
  pub accepted : (count rows g stored sums : ℕ) → answer ≡ accepted (Split count rows g stored sums)
      → SplitAccepted order vector answer list group pieces
  pub outside : answer ≡ refused 15 0 → ¬ (InLattice (generators_of order) (padded vector))
  pub exactly : PastEntries order vector list_size group_size pieces_size
      → (answer ≡ refused 15 0) ↔ (¬ (InLattice (generators_of order) (padded vector)))
  pub refused : (number place : ℕ) → answer ≡ refused number place → SplitZero list group pieces

-- .. of the order and the vector that are sent, in the areas that are lent
abbrev pub KeepsSplit : (n : ℕ) (generators : Lent ℤ) (exchanges : Lent ℕ) (images vector : Lent ℤ) (list : LentMut ℤ)
    (group : LentMut ℕ) (pieces : LentMut ℤ) (answer : Outcome Answer) → Type 0
KeepsSplit n generators exchanges images vector list group pieces answer =
    let order = sent_order n generators exchanges images in
    SplitPromise order vector.entry.now
    (length list.entry.now) (length group.entry.now) (length pieces.entry.now) answer
    list.exit.now group.exit.now pieces.exit.now

-- ---- Check

-- the brought list is whole
abbrev pub WholeFor : (order : Order) (rows : List ℤ) → Type 0
WholeFor order rows = Whole order.n (exchanges_of order) (generators_of order) (vectors_of order.n rows)

-- a pass of r rows, with g × r × (r + 1) sums
abbrev pub pass_of : (order : Order) (rows : List ℤ) (group_size : ℕ) → Outcome Answer
pass_of order rows group_size =
    let count = length (vectors_of order.n rows) in
    accepted (Passed count (sum_count (length (table_of order group_size)) count))

-- a pass of so many rows and sums
pub record CheckPassed (order : Order) (rows coefficients : List ℤ) (group_size : ℕ) (group : List ℕ) (count sums : ℕ)
    : Type 0 where
  pub kept : RulesKept order rows coefficients group_size
  pub whole : WholeFor order rows
  pub table : IsTable order.n (exchanges_of order) (table_of order group_size)
  pub group_holds : group ≡ filled 0 group_size (concat (table_of order group_size))
  pub rows_are : count ≡ length (vectors_of order.n rows)
  pub sums_are : sums ≡ sum_count (length (table_of order group_size)) (length (vectors_of order.n rows))
  pub conformal : (v : Vector) → InLattice (generators_of order) v
      → ConformalSum order.n (exchanges_of order) (vectors_of order.n rows) v

-- demand 3: the answer and the area by the definition; a pass if and only if the rules are kept and the list is whole;
-- what a pass says; zeros after a refusal
pub record CheckPromise (order : Order) (rows coefficients : List ℤ) (group_size : ℕ) (answer : Outcome Answer)
    (group : List ℕ) : Type 0 where
  pub answers : answer ≡ (check_call order rows coefficients group_size).answer
  pub group_holds : group ≡ (check_call order rows coefficients group_size).group
  pub passes : (answer ≡ pass_of order rows group_size)
      ↔ (RulesKept order rows coefficients group_size × WholeFor order rows)
  pub passed : (count sums : ℕ) → answer ≡ accepted (Passed count sums)
      → CheckPassed order rows coefficients group_size group count sums
  pub refused : (number place : ℕ) → answer ≡ refused number place → group ≡ replicate (length group) 0

-- .. of the order and the list that are sent, in the group area that is lent
abbrev pub KeepsCheck : (n : ℕ) (generators : Lent ℤ) (exchanges : Lent ℕ) (images rows coefficients : Lent ℤ)
    (group : LentMut ℕ) (answer : Outcome Answer) → Type 0
KeepsCheck n generators exchanges images rows coefficients group answer =
    let order = sent_order n generators exchanges images in
    CheckPromise order rows.entry.now coefficients.entry.now (length group.entry.now) answer
    group.exit.now
