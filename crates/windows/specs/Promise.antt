-- What the window over a run of draws promises, for every input (Specification 1.1, 3.9, 7.4 and 11). Assumes nothing.
use Rattle.definitions.specs.Refusals.{Outcome, accepted, refused}
use Rattle.std.specs.Prelude.{◌≡◌, List, ℕ, ◌*◌, ◌/◌, ◌<◌, ℤ, pos, length, take, drop, replicate}
use Rattle.definitions.specs.declared.Run.{Run}
use Rattle.definitions.specs.Limits.{record_width}
use Rattle.definitions.specs.Lists.{concat}
use Rattle.definitions.specs.Vector.{Vector, padded}
use Rattle.definitions.specs.Lent.{Order, filled, numbers_of}
use Rattle.definitions.specs.Calls.{Listing}
use Rattle.definitions.specs.Window.{Chain, Room, answer_width, window_call}
use Rattle.definitions.specs.Demands.{ListKept, Reached}
use Rattle.vectors.specs.Areas.{Lent, LentMut}

-- the contingency table of answer row i
abbrev pub table_at : (n : ℕ) (answers : List ℤ) (i : ℕ) → Vector
table_at n answers i = padded (take n (drop (i * answer_width n) answers))

-- the first `count` answer rows have contingency tables that the start reaches
abbrev pub AllReached : Order → Chain → (answers : List ℤ) (count : ℕ) → Type 0
AllReached order chain answers count =
    (i : ℕ) → i < count → Reached order (padded chain.start) (table_at order.n answers i)

-- all records have answers; the list area holds a whole list, sorted, and the group area the table of the group
pub record WindowAccepted (order : Order) (chain : Chain) (answer : Outcome Run) (list : List ℤ) (group : List ℕ)
    (answers : List ℤ) : Type 0 where
  pub found : Listing
  pub kept : ListKept order found
  pub says : answer
      ≡ accepted (record {
        records = length chain.records / record_width;
        rows = length found.rows;
        members = length found.table;
        stored = found.stored;
        sums = found.sums;
      })
  pub list_holds : list ≡ filled (pos 0) (length list) (numbers_of order.n found.rows)
  pub group_holds : group ≡ filled 0 (length group) (concat found.table)
  pub reached : AllReached order chain answers (length chain.records / record_width)

-- record `place` is refused: the answers before it stay, and zeros stand behind them and in the other areas
pub record RecordRefused (order : Order) (chain : Chain) (place : ℕ) (list : List ℤ) (group : List ℕ)
    (answers : List ℤ) : Type 0 where
  pub sent : place < length chain.records / record_width
  pub list_holds : list ≡ replicate (length list) (pos 0)
  pub group_holds : group ≡ replicate (length group) 0
  pub answers_hold : answers ≡ filled (pos 0) (length answers) (take (place * answer_width order.n) answers)
  pub reached : AllReached order chain answers place

-- demand 1: zeros in every area lent for writing
pub record WindowZero (list : List ℤ) (group : List ℕ) (answers : List ℤ) : Type 0 where
  pub list_holds : list ≡ replicate (length list) (pos 0)
  pub group_holds : group ≡ replicate (length group) 0
  pub answers_hold : answers ≡ replicate (length answers) (pos 0)

-- the answer and the three areas by the definition; and what a reader may conclude from an answer
pub record WindowPromise (order : Order) (chain : Chain) (room : Room) (answer : Outcome Run) (list : List ℤ)
    (group : List ℕ) (answers : List ℤ) : Type 0 where
  pub answer_is : answer ≡ (window_call order chain room).answer
  pub list_holds : list ≡ (window_call order chain room).list
  pub group_holds : group ≡ (window_call order chain room).group
  pub answers_hold : answers ≡ (window_call order chain room).answers
  pub accepted : (run : Run) → answer ≡ accepted run → WindowAccepted order chain answer list group answers
  pub record_refused : (place : ℕ) → answer ≡ refused 25 place → RecordRefused order chain place list group answers
  pub refused : (number place : ℕ) → answer ≡ refused number place → ¬ (number ≡ 25) → WindowZero list group answers

-- what a sampler sends, and the sizes of the areas that are lent
abbrev pub sent_chain : (start : Lent ℤ) (width cell : ℕ) (records : Lent ℤ) → Chain
sent_chain start width cell records =
    record { start = start.entry.now; width = width; cell = cell; records = records.entry.now }

abbrev pub room_in : (list : LentMut ℤ) (group : LentMut ℕ) (answers : LentMut ℤ) → Room
room_in list group answers = record {
  list = length list.entry.now;
  group = length group.entry.now;
  answers = length answers.entry.now;
}

-- .. of the order and the chain that are sent, in the areas that are lent
abbrev pub KeepsWindow : Order → Chain → (list : LentMut ℤ) (group : LentMut ℕ) (answers : LentMut ℤ)
    (answer : Outcome Run) → Type 0
KeepsWindow order chain list group answers answer =
    WindowPromise order chain (room_in list group answers) answer
    list.exit.now group.exit.now answers.exit.now
