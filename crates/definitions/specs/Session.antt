-- Specification 3.8: a session, two orders on one group table. For each input both answers, and what the list area and
-- the group area hold at the end. An area lent for writing is given by its size. Assumes nothing.
use Rattle.std.specs.declared.result.Result.TheVariants.{Err}
use Rattle.definitions.specs.Refusals.{Fault, no_fault, fault_at}
use Rattle.std.specs.Prelude.{Bool, true, false, ◌&&◌, not, List, [], ◌∷◌, ◌++◌, ℕ, suc, ◌+◌, ◌*◌, ◌/◌, eqb, ℤ, pos, length, take, drop, if◌then◌else◌}
use Rattle.definitions.specs.declared.Ending.{Ending}
use Rattle.definitions.specs.declared.Ending.TheVariants.{Moves, Unfinished}
use Rattle.definitions.specs.Limits.{session_rows}
use Rattle.definitions.specs.Lists.{concat}
use Rattle.definitions.specs.Group.{Exchange}
use Rattle.definitions.specs.Completion.{Completion, running, stopped, begun, step, is_finished}
use Rattle.definitions.specs.Lent.{Order, filled, numbers_of, generators_of, table_of}
use Rattle.definitions.specs.Refusals.{Outcome, accepted, refused, first_fault, fault_if}
use Rattle.definitions.specs.Refusals.{cells_fault, size_fault, numbers_fault, symmetry_fault}
use Rattle.definitions.specs.Calls.{Listing, listing_of}

-- the numbers of one order's rows: half of the list area
unfoldable pub half : (n : ℕ) → ℕ
half n = n * session_rows

-- ---- the tests

-- 5 and 6 of both orders: unequal numbers of cells, and a list area that is not two halves
unfoldable pub shared_fault : (order other : Order) (list_size : ℕ) → Fault
shared_fault order other list_size =
    first_fault
    (fault_if 5 (not (eqb order.n other.n))
    ∷ fault_if 6 (not (eqb list_size (half order.n + half order.n)))
    ∷ [])

-- 9: the exchange that has the first number, of those from `place` on, in which the exchanges of two orders differ;
-- where those of one end, the first that it lacks
unfoldable pub difference_from : (n place : ℕ) (sent other : List ℕ) → Fault
difference_from n place [] [] = no_fault
difference_from n place [] (y ∷ other) = fault_at 9 (place / n)
difference_from n place (x ∷ sent) [] = fault_at 9 (place / n)
difference_from n place (x ∷ sent) (y ∷ other) =
    let rest = difference_from n (suc place) sent other in
    if eqb x y then rest else fault_at 9 (place / n)

unfoldable pub difference_fault : (order other : Order) → Fault
difference_fault order other = difference_from order.n 0 order.exchanges other.exchanges

-- 5 to 9 of an order alone; what else is lent has its test in `shared_fault`
unfoldable pub own_fault : Order → (group_size : ℕ) → Fault
own_fault order group_size =
    first_fault (cells_fault order.n ∷ size_fault order group_size true ∷ numbers_fault order ∷ [])

-- the tests of one order beside another: the shared ones, its own up to 9, a differing exchange, and its own from 10
unfoldable pub session_fault : (order other : Order) (list_size group_size : ℕ) → Fault
session_fault order other list_size group_size =
    first_fault
    (shared_fault order other list_size
    ∷ own_fault order group_size
    ∷ difference_fault order other
    ∷ symmetry_fault order group_size
    ∷ [])

-- ---- the steps

-- an order that meets a test is turned down before its first step
unfoldable pub unless_met : Fault → Completion → Completion
unless_met no_fault c = c
unless_met (Err r) c = stopped r.number r.place

-- where one order starts
unfoldable pub started : (table : List Exchange) (fault : Fault) → Order → Completion
started table fault order = unless_met fault (begun table session_rows (generators_of order))

-- where both orders stand
pub record Pair : Type 0 where
  pub first : Completion
  pub second : Completion

-- one step: the order that the byte names tries a sum
unfoldable pub session_step : (table : List Exchange) → Pair → (byte : ℕ) → Pair
session_step table pair byte =
    if eqb byte 0 then record { first = step table session_rows pair.first; second = pair.second }
    else if eqb byte 1 then record { first = pair.first; second = step table session_rows pair.second }
    else pair

-- all steps, one after the other
unfoldable pub session_steps : (table : List Exchange) (bytes : List ℕ) → Pair → Pair
session_steps table [] pair = pair
session_steps table (byte ∷ bytes) pair = session_steps table bytes (session_step table pair byte)

-- ---- the end

-- what an order has come to: the end of its List, or its sums tried, with some left
pub data Result : Type 0 where
  ended : Outcome Listing → Result
  unfinished : (sums : ℕ) → Result

unfoldable pub result_of : (table : List Exchange) → Completion → Result
result_of table (stopped number place) = ended (refused number place)
result_of table (running s) = if is_finished s then ended (listing_of table (running s)) else unfinished s.sums

unfoldable pub is_refused : Result → Bool
is_refused (ended (accepted found)) = false
is_refused (ended (Err r)) = true
is_refused (unfinished sums) = false

unfoldable pub ending_of : Result → Outcome Ending
ending_of (ended (accepted found)) =
    accepted (Moves (length found.rows) (length found.table) found.stored found.sums)
ending_of (ended (Err r)) = refused r.number r.place
ending_of (unfinished sums) = accepted (Unfinished sums)

-- what an order's half of the list area holds: the rows of its list, and zeros behind; zeros alone without a list
unfoldable pub half_of : (n : ℕ) → Result → List ℤ
half_of n (ended (accepted found)) = filled (pos 0) (half n) (numbers_of n found.rows)
half_of n (ended (Err r)) = filled (pos 0) (half n) []
half_of n (unfinished sums) = filled (pos 0) (half n) []

-- the end of a session: its answers, and its areas
pub record SessionEnd : Type 0 where
  pub first : Outcome Ending
  pub second : Outcome Ending
  pub list : List ℤ
  pub group : List ℕ

-- after both refuse the areas are zero; else the group area keeps the table
unfoldable pub session_end : (n list_size group_size : ℕ) (table : List Exchange) (first second : Result) → SessionEnd
session_end n list_size group_size table first second =
    let both = is_refused first && is_refused second in
    record {
      first = ending_of first;
      second = ending_of second;
      list = if both then filled (pos 0) list_size [] else half_of n first ++ half_of n second;
      group = filled 0 group_size (if both then [] else concat table);
    }

-- order 0 is `first`, order 1 is `second`; where one of them is left after 9 the table is that of either
unfoldable pub session_call : (first second : Order) (list_size group_size : ℕ) (steps : List ℕ) → SessionEnd
session_call first second list_size group_size steps =
    let table = table_of first group_size in
    let start : Pair = record {
      first = started table (session_fault first second list_size group_size) first;
      second = started table (session_fault second first list_size group_size) second;
    } in
    let pair = session_steps table steps start in
    session_end first.n list_size group_size table (result_of table pair.first) (result_of table pair.second)

-- ---- what one order gets of a session

-- its answer, and its half of the list area
pub record Part : Type 0 where
  pub ending : Outcome Ending
  pub rows : List ℤ

-- .. order 0
unfoldable pub first_part : (order other : Order) (list_size group_size : ℕ) (steps : List ℕ) → Part
first_part order other list_size group_size steps =
    let end = session_call order other list_size group_size steps in
    record { ending = end.first; rows = take (half order.n) end.list }

-- .. order 1
unfoldable pub second_part : (order other : Order) (list_size group_size : ℕ) (steps : List ℕ) → Part
second_part order other list_size group_size steps =
    let end = session_call other order list_size group_size steps in
    record { ending = end.second; rows = drop (half order.n) end.list }

-- the steps that name an order
unfoldable pub steps_of : (byte : ℕ) (steps : List ℕ) → ℕ
steps_of byte [] = 0
steps_of byte (x ∷ steps) = let rest = steps_of byte steps in if eqb x byte then suc rest else rest
