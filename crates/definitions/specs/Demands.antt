-- Specification 2.8, 3.7 to 3.10, 4.2, 5.2 and 11: what the demands promise, as types. Assumes nothing.
use Rattle.std.specs.declared.result.Result.TheVariants.{Ok}
use Rattle.definitions.specs.Refusals.{Outcome, refused}
use Rattle.definitions.specs.Refusals.{no_fault, fault_at}
use Rattle.std.specs.Prelude.{◌≡◌, true, false, ℕ, suc, ◌+◌, ◌≤◌, ◌<◌, ◌/◌, ℤ, pos, ◌+ℤ◌, ◌≤ℤ◌, ◌<ℤ◌, length, get_or, replicate}
use mathlib.Core.List.{List, [], map, Memᴰ}
use Rattle.definitions.specs.declared.Answer.TheVariants.{Passed}
use Rattle.definitions.specs.declared.Answer.TheVariants as answers
use Rattle.definitions.specs.declared.Ending.{Ending}
use Rattle.definitions.specs.declared.Ending.TheVariants.{Moves, Unfinished}
use Rattle.definitions.specs.Limits.{entry_limit, session_rows, stored_coefficient_limit}
use Rattle.definitions.specs.Lists.{concat}
use Rattle.definitions.specs.Vector.{Vector, padded, plus, minus, total, within, opposes}
use Rattle.definitions.specs.Lattice.{Graver, InLattice, combination}
use Rattle.definitions.specs.Group.{Exchange, InGroup, exchanged, earlier}
use Rattle.definitions.specs.Orbit.{IsImage, signed, representative, precedes}
use Rattle.definitions.specs.Completion.{sum_count}
use Rattle.definitions.specs.Split.{Piece, share}
use Rattle.definitions.specs.Lent.{Order, filled, generators_of, exchanges_of, numbers_of, table_of, whole_rows}
use Rattle.definitions.specs.Refusals.{accepted}
use Rattle.definitions.specs.Calls.{Listing, ListEnd, CertifiedListing, list_call, listing, check_call, rules_fault}
use Rattle.definitions.specs.Session.{Part, SessionEnd, difference_fault, half, own_fault, shared_fault}
use Rattle.definitions.specs.Window.{is_contingency}
use Rattle.definitions.specs.Plan.{Problem, cost, feasible}

-- 2.8: v is an image of exactly one row
pub record OneRow (n : ℕ) (sent : List Exchange) (rows : List Vector) (v : Vector) : Type 0 where
  pub row : ℕ
  pub exists : row < length rows
  pub image : IsImage n sent v (get_or rows row [])
  pub only : (r : ℕ) → r < length rows → IsImage n sent v (get_or rows r []) → r ≡ row

-- 2.8: the rows are Graver vectors, and every orbit of Graver vectors has one of them, and no other
pub record Whole (n : ℕ) (sent : List Exchange) (generators rows : List Vector) : Type 0 where
  pub sound : (r : ℕ) → r < length rows → Graver generators (get_or rows r [])
  pub complete : (v : Vector) → Graver generators v → OneRow n sent rows v

-- 2.7: each row precedes the next
pub record Sorted (rows : List Vector) : Type 0 where
  pub ascending : (r : ℕ) → suc r < length rows → precedes (get_or rows r []) (get_or rows (suc r) []) ≡ true

-- 2.5: the table holds the members of the group and nothing else, ascending
pub record IsTable (n : ℕ) (sent table : List Exchange) : Type 0 where
  pub sound : (s : Exchange) → Memᴰ s table → InGroup n sent s
  pub complete : (s : Exchange) → InGroup n sent s → Memᴰ s table
  pub ascending : (p : ℕ) → suc p < length table → earlier (get_or table p []) (get_or table (suc p) []) ≡ true

-- demand 2, List: what holds of each accepted listing
pub record ListKept (order : Order) (found : Listing) : Type 0 where
  pub whole : Whole order.n (exchanges_of order) (generators_of order) found.rows
  pub sorted : Sorted found.rows
  pub greatest_images : (r : ℕ) → r < length found.rows
      → representative found.table (get_or found.rows r []) ≡ get_or found.rows r []
  pub limited : (r : ℕ) → r < length found.rows → within entry_limit (get_or found.rows r []) ≡ true
  pub table : IsTable order.n (exchanges_of order) found.table
  pub counted : found.sums ≡ sum_count (length found.table) found.stored

-- 3.7: what holds of each accepted listing with coefficients
pub record CertifiedKept (order : Order) (list_size group_size : ℕ) (found : CertifiedListing) : Type 0 where
  -- it is the plain call's list, and whole
  pub plain : listing order list_size group_size ≡ accepted found.listing
  pub kept : ListKept order found.listing
  -- each row has a coefficient for each generator, none past its limit, and is the combination with them
  pub long : length found.coefficients ≡ length found.listing.rows
  pub one_each : (r : ℕ) → r < length found.listing.rows
      → length (get_or found.coefficients r []) ≡ length (generators_of order)
  pub limited : (r : ℕ) → r < length found.listing.rows
      → within stored_coefficient_limit (get_or found.coefficients r []) ≡ true
  pub adds_up : (r : ℕ) → r < length found.listing.rows
      → combination (get_or found.coefficients r []) (generators_of order) ≡ get_or found.listing.rows r []
  -- sent back to Check with the same order it is passed, in every group area that has room for the group
  pub passed : (other : ℕ) → whole_rows order.n other ≡ true → length found.listing.table ≤ other / order.n
      → (check_call order (numbers_of order.n found.listing.rows) (concat found.coefficients) other).answer
      ≡ accepted (Passed (length found.listing.rows)
      (sum_count (length found.listing.table) (length found.listing.rows)))

-- 4.2: a piece is a listed image, at the row and the position that it names, taken at least once, and opposes v in
-- no cell
pub record IsPiece (table : List Exchange) (rows : List Vector) (v : Vector) (piece : Piece) : Type 0 where
  pub row : piece.image.row < length rows
  pub position : piece.image.position < length table
  pub image : piece.image.vector
      ≡ signed piece.image.positive
      (exchanged (get_or table piece.image.position []) (get_or rows piece.image.row []))
  pub taken : 0 < piece.count
  pub conforms : opposes piece.image.vector v ≡ false

-- demand 2, Split: the pieces add up to v, and none opposes it
pub record SplitKept (table : List Exchange) (rows : List Vector) (v : Vector) (pieces : List Piece) : Type 0 where
  pub adds_up : total (map share pieces) ≡ v
  pub each : (piece : Piece) → Memᴰ piece pieces → IsPiece table rows v piece

-- demand 3: v is a conformal sum (2.3) of images of rows
pub record ConformalSum (n : ℕ) (sent : List Exchange) (rows : List Vector) (v : Vector) : Type 0 where
  pub summands : List Vector
  pub images : (u : Vector) → Memᴰ u summands
      → (r : ℕ) × (r < length rows) × IsImage n sent u (get_or rows r [])
  pub conform : (u : Vector) → Memᴰ u summands → opposes u v ≡ false
  pub adds_up : total summands ≡ v

-- 5.2: none of the tests 5 to 11 and 17 to 19 is met
abbrev pub RulesKept : Order → (rows coefficients : List ℤ) (group_size : ℕ) → Type 0
RulesKept order rows coefficients group_size = rules_fault order rows coefficients group_size ≡ no_fault

-- ---- 3.8: sessions

-- a List of the order on its own, with 64 rows
abbrev pub own_list : Order → (group_size : ℕ) → ListEnd
own_list order group_size = list_call order (half order.n) group_size

-- the part is what that List gives: its counts or its refusal, and its list area
pub record OwnEnd (order : Order) (group_size : ℕ) (part : Part) : Type 0 where
  pub moves : (rows members stored sums : ℕ)
      → (own_list order group_size).answer ≡ accepted (answers.Moves rows members stored sums)
      → part.ending ≡ accepted (Moves rows members stored sums)
  pub refused : (number place : ℕ) → (own_list order group_size).answer ≡ refused number place
      → part.ending ≡ refused number place
  pub rows : part.rows ≡ (own_list order group_size).list

-- the half holds a whole list, sorted, with zeros behind
pub record PartAccepted (order : Order) (group_size : ℕ) (part : Part) : Type 0 where
  pub found : Listing
  pub listed : listing order (half order.n) group_size ≡ accepted found
  pub kept : ListKept order found
  pub says : part.ending ≡ accepted (Moves (length found.rows) (length found.table) found.stored found.sums)
  pub holds : part.rows ≡ filled (pos 0) (half order.n) (numbers_of order.n found.rows)

-- an answer other than Unfinished: the order's last sum is tried, or it is refused
abbrev pub Over : Outcome Ending → Type 0
Over ending = (sums : ℕ) → ¬ (ending ≡ accepted (Unfinished sums))

-- zeros alone
abbrev pub Blank : (rows : List ℤ) → Type 0
Blank rows = rows ≡ replicate (length rows) (pos 0)

-- two orders with the same cells and exchanges, whatever their generators and images
pub record SameShape (order order' : Order) : Type 0 where
  pub cells : order.n ≡ order'.n
  pub exchanges : order.exchanges ≡ order'.exchanges

-- an order, with `count` steps that name it, beside another; `part` is its part beside any other
pub record PartKept (order other : Order) (list_size group_size count : ℕ) (part : Order → Part) : Type 0 where
  -- but for the shared 5 and 6 and a differing exchange, once its last sum is tried, its part is its own
  pub own : shared_fault order other list_size ≡ no_fault → difference_fault order other ≡ no_fault
      → Over (part other).ending
      → OwnEnd order group_size (part other)
  -- so it is with a fault of its own up to 9, whatever exchanges the other has
  pub early : (number place : ℕ) → shared_fault order other list_size ≡ no_fault
      → own_fault order group_size ≡ fault_at number place
      → OwnEnd order group_size (part other)
  pub accepted : (rows members stored sums : ℕ) → (part other).ending ≡ accepted (Moves rows members stored sums)
      → PartAccepted order group_size (part other)
  pub refused : (number place : ℕ) → (part other).ending ≡ refused number place → Blank (part other).rows
  -- with sums left it has tried a sum at each of its steps
  pub unfinished : (sums : ℕ) → (part other).ending ≡ Ok (Unfinished sums) → (sums ≡ count) × Blank (part other).rows
  -- so many steps always suffice
  pub finishes : sum_count (length (table_of order group_size)) session_rows ≤ count → Over (part other).ending
  -- TWO RUNS: a change in the other's generators or images changes nothing of the part
  pub blind : (other' : Order) → SameShape other other' → part other' ≡ part other

-- ---- the areas of a session

-- an answer that is no refusal
abbrev pub Left : Outcome Ending → Type 0
Left ending = (number place : ℕ) → ¬ (ending ≡ refused number place)

-- the list area is two halves, the exchanges make one table, and the group area holds it
pub record TableKept (first second : Order) (list_size group_size : ℕ) (group : List ℕ) : Type 0 where
  pub size : list_size ≡ half first.n + half first.n
  pub one : table_of first group_size ≡ table_of second group_size
  pub is_table : IsTable first.n (exchanges_of first) (table_of first group_size)
  pub holds : group ≡ filled 0 group_size (concat (table_of first group_size))

-- the table is kept while an order is left; after both refuse every area is zero
pub record AreasKept (first second : Order) (list_size group_size : ℕ) (end : SessionEnd) : Type 0 where
  pub first_left : Left end.first → TableKept first second list_size group_size end.group
  pub second_left : Left end.second → TableKept first second list_size group_size end.group
  pub zeros : (m p m' p' : ℕ) → end.first ≡ refused m p → end.second ≡ refused m' p'
      → (end.list ≡ replicate list_size (pos 0)) × (end.group ≡ replicate group_size 0)

-- ---- 3.9: windows

-- a contingency table that a run reaches: its start plus a lattice vector, every entry within its limits
pub record Reached (order : Order) (start table : Vector) : Type 0 where
  pub move : Vector
  pub in_lattice : InLattice (generators_of order) move
  pub adds_up : table ≡ plus start move
  pub entries : is_contingency table ≡ true

-- ---- 3.10: plans

-- a plan within bounds that differs from the start by a lattice vector
pub record Attainable (order : Order) (problem : Problem) (plan : Vector) : Type 0 where
  pub in_lattice : InLattice (generators_of order) (minus plan (padded problem.start))
  pub within_bounds : feasible (padded problem.upper) plan ≡ true

-- the cost of a plan
abbrev pub total_cost : Problem → (plan : Vector) → ℤ
total_cost problem plan = cost (padded problem.costs) plan

-- no such plan is cheaper
abbrev pub NoneCheaper : Order → Problem → (plan : Vector) → Type 0
NoneCheaper order problem plan =
    (other : Vector) → Attainable order problem other → total_cost problem plan ≤ℤ total_cost problem other

-- some such plan is cheaper
pub record CheaperPlan (order : Order) (problem : Problem) (plan : Vector) : Type 0 where
  pub other : Vector
  pub attained : Attainable order problem other
  pub cheaper : total_cost problem other <ℤ total_cost problem plan

-- no such plan is cheaper by more than a bound
abbrev pub NoneCheaperBy : Order → Problem → (bound : ℕ) (plan : Vector) → Type 0
NoneCheaperBy order problem bound plan =
    (other : Vector) → Attainable order problem other
    → total_cost problem plan ≤ℤ (total_cost problem other +ℤ pos bound)
