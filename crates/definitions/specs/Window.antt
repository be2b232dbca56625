-- Specification 3.9: a window over a run of draws. For each input the answer, and what every area lent for writing
-- holds at the end. Such an area is given by its size. Assumes nothing.
use Rattle.definitions.specs.Refusals.{refused}
use Rattle.std.specs.declared.result.Result.TheVariants.{Err}
use Rattle.definitions.specs.Refusals.{Fault, no_fault}
use Rattle.std.specs.Prelude.{Bool, ◌&&◌, not, List, [], ◌∷◌, ◌++◌, map, ℕ, suc, ◌+◌, ◌-◌, ◌/◌, leb, ltb, eqb, ℤ, pos, nat_abs, length, get_or, take, drop, if◌then◌else◌}
use Rattle.std.specs.Int.Signed.{non_neg, lt_z}
use Rattle.definitions.specs.declared.Draw.{Draw}
use Rattle.definitions.specs.declared.Run.{Run}
use Rattle.definitions.specs.declared.View.{View}
use Rattle.definitions.specs.Limits.{contingency_limit, figures_width, record_width, window_limit}
use Rattle.definitions.specs.Lists.{any, concat, every}
use Rattle.definitions.specs.Vector.{Vector, padded, plus}
use Rattle.definitions.specs.Group.{Exchange, exchanged}
use Rattle.definitions.specs.Orbit.{signed}
use Rattle.definitions.specs.Lent.{Order, filled, numbers_of, rows_of, whole_rows}
use Rattle.definitions.specs.Refusals.{Outcome, accepted, first_fault, fault_if, fault_where}
use Rattle.definitions.specs.Calls.{Listing, listing}

-- what a sampler sends besides an order: a contingency table, the records of a window, a cell, and the records of a run
pub record Chain : Type 0 where
  pub start : List ℤ
  pub width : ℕ
  pub cell : ℕ
  pub records : List ℤ

-- ---- the run

-- a record of three numbers; all records
unfoldable pub draw_of : (numbers : List ℤ) → Draw
draw_of numbers =
    record { row = get_or numbers 0 (pos 0); position = get_or numbers 1 (pos 0); sign = get_or numbers 2 (pos 0) }

unfoldable pub draws_of : (records : List ℤ) → List Draw
draws_of records = map draw_of (rows_of record_width records)

-- x counts one of `count` from 0
unfoldable pub is_index : (count : ℕ) → ℤ → Bool
is_index count x = non_neg x && ltb (nat_abs x) count

-- there is such a row, such a position and such a sign
unfoldable pub names_image : (table : List Exchange) (rows : List Vector) → Draw → Bool
names_image table rows draw =
    is_index (length rows) draw.row && is_index (length table) draw.position && eqb (nat_abs draw.sign) 1

-- the image that a record names
unfoldable pub drawn_image : (table : List Exchange) (rows : List Vector) → Draw → Vector
drawn_image table rows draw =
    let row = get_or rows (nat_abs draw.row) [] in
    signed (non_neg draw.sign) (exchanged (get_or table (nat_abs draw.position) []) row)

-- an entry of a contingency table: not negative, and not past the limit
unfoldable pub is_entry : ℤ → Bool
is_entry x = non_neg x && leb (nat_abs x) contingency_limit

unfoldable pub is_contingency : Vector → Bool
is_contingency v = every is_entry v

-- the record names an image, and with it added the entries stay within their limits
unfoldable pub is_drawable : (table : List Exchange) (rows : List Vector) (current : Vector) → Draw → Bool
is_drawable table rows current draw =
    names_image table rows draw && is_contingency (plus current (drawn_image table rows draw))

-- where a record ended: the row that it used, and the contingency table that it reached
pub record Visit : Type 0 where
  pub row : ℕ
  pub reached : Vector

-- the records up to the first that is refused
unfoldable pub visits : (table : List Exchange) (rows : List Vector) (current : Vector) → List Draw → List Visit
visits table rows current [] = []
visits table rows current (draw ∷ draws) =
    let next = plus current (drawn_image table rows draw) in
    let rest = visits table rows next draws in
    if is_drawable table rows current draw then record { row = nat_abs draw.row; reached = next } ∷ rest else []

-- ---- the window

-- the last `width`, or all while there are fewer
unfoldable pub last_of : {A : Type 0} (width : ℕ) → List A → List A
last_of width xs = drop (length xs - width) xs

-- the lesser and the larger of two numbers
unfoldable pub lesser : (x y : ℤ) → ℤ
lesser x y = if lt_z y x then y else x

unfoldable pub larger : (x y : ℤ) → ℤ
larger x y = if lt_z x y then y else x

-- what is chosen from x and some more, by a choice from two; what is chosen from some numbers
unfoldable pub chosen_from : (choose : ℤ → ℤ → ℤ) (x : ℤ) → List ℤ → ℤ
chosen_from choose x [] = x
chosen_from choose x (y ∷ numbers) = choose x (chosen_from choose y numbers)

unfoldable pub chosen : (choose : ℤ → ℤ → ℤ) → List ℤ → ℤ
chosen choose [] = pos 0
chosen choose (x ∷ numbers) = chosen_from choose x numbers

-- how many different numbers there are: each is counted where it stands last
unfoldable pub different : List ℕ → ℕ
different [] = 0
different (x ∷ numbers) =
    let rest = different numbers in
    if any (eqb x) numbers then rest else suc rest

-- the value of the chosen cell
unfoldable pub value_of : (cell : ℕ) → Visit → ℤ
value_of cell visit = get_or visit.reached (cell - 1) (pos 0)

-- the numbers of an answer row: the contingency table and the figures
abbrev pub answer_width : (n : ℕ) → ℕ
answer_width n = n + figures_width

-- the answer row of the latest record of a window, which is read afresh: the contingency table, the smallest and the
-- largest value of the chosen cell, and the number of different rows
unfoldable pub answer_row : View → (latest : Visit) (window : List Visit) → List ℤ
answer_row view latest window =
    let values = map (value_of view.cell) window in
    take view.n latest.reached
    ++ chosen lesser values ∷ chosen larger values ∷ pos (different (map (λ visit. visit.row) window)) ∷ []

-- the answer rows of some records, which come after others
unfoldable pub answer_rows : View → (before after : List Visit) → List (List ℤ)
answer_rows view before [] = []
answer_rows view before (visit ∷ after) =
    let all = before ++ visit ∷ [] in
    answer_row view visit (last_of view.width all) ∷ answer_rows view all after

-- ---- the call

-- the sizes of the areas that are lent for writing
pub record Room : Type 0 where
  pub list : ℕ
  pub group : ℕ
  pub answers : ℕ

-- 6: the window, the chosen cell and the sizes
unfoldable pub chain_fits : (n : ℕ) → Chain → (answers_size : ℕ) → Bool
chain_fits n chain answers_size =
    leb 1 chain.width && leb chain.width window_limit
    && leb 1 chain.cell && leb chain.cell n
    && eqb (length chain.start) n
    && whole_rows record_width (length chain.records)
    && whole_rows (answer_width n) answers_size
    && leb (length chain.records / record_width) (answers_size / answer_width n)

-- 6, and 14 of the start
unfoldable pub chain_fault : (n : ℕ) → Chain → (answers_size : ℕ) → Fault
chain_fault n chain answers_size =
    first_fault
    (fault_if 6 (not (chain_fits n chain answers_size))
    ∷ fault_where 14 (length chain.start) (λ p. not (is_entry (get_or chain.start p (pos 0))))
    ∷ [])

-- the end of the call: its answer, and its areas
pub record WindowEnd : Type 0 where
  pub answer : Outcome Run
  pub list : List ℤ
  pub group : List ℕ
  pub answers : List ℤ

-- a refusal: the answers before it stay
unfoldable pub window_refused : Room → (number place : ℕ) (rows : List (List ℤ)) → WindowEnd
window_refused room number place rows =
    record {
      answer = refused number place;
      list = filled (pos 0) room.list [];
      group = filled 0 room.group [];
      answers = filled (pos 0) room.answers (concat rows);
    }

-- all records are answered
unfoldable pub window_answered : (n : ℕ) → Room → Listing → (rows : List (List ℤ)) → WindowEnd
window_answered n room found rows =
    record {
      answer = accepted (record {
        records = length rows;
        rows = length found.rows;
        members = length found.table;
        stored = found.stored;
        sums = found.sums;
      });
      list = filled (pos 0) room.list (numbers_of n found.rows);
      group = filled 0 room.group (concat found.table);
      answers = filled (pos 0) room.answers (concat rows);
    }

-- 25: not all records, of which there are `count`, have their answers
unfoldable pub run_end : (n : ℕ) → Room → Listing → (count : ℕ) (rows : List (List ℤ)) → WindowEnd
run_end n room found count rows =
    if eqb (length rows) count then window_answered n room found rows
    else window_refused room 25 (length rows) rows

-- the run, once 6 and 14 are tested
unfoldable pub drawn_end : (n : ℕ) → Chain → Room → Listing → Fault → WindowEnd
drawn_end n chain room found (Err r) = window_refused room r.number r.place []
drawn_end n chain room found no_fault =
    let draws = draws_of chain.records in
    let view : View = record { n = n; width = chain.width; cell = chain.cell } in
    let reached = visits found.table found.rows (padded chain.start) draws in
    run_end n room found (length draws) (answer_rows view [] reached)

-- the tests and the run, once the List has ended
unfoldable pub window_of : (n : ℕ) → Chain → Room → Outcome Listing → WindowEnd
window_of n chain room (Err r) = window_refused room r.number r.place []
window_of n chain room (accepted found) = drawn_end n chain room found (chain_fault n chain room.answers)

unfoldable pub window_call : Order → Chain → Room → WindowEnd
window_call order chain room = window_of order.n chain room (listing order room.list room.group)
