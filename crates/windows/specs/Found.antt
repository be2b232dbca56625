-- What the parts of the window over a run of draws find, by the definitions (Specification 3.9). Assumes nothing.
use Rattle.std.specs.declared.result.Result.TheVariants.{Err}
use Rattle.definitions.specs.declared.Refusal.{Refusal}
use Rattle.definitions.specs.Refusals.{Outcome}
use Rattle.definitions.specs.Refusals.{no_fault}
use Rattle.std.specs.Prelude.{◌≡◌, List, [], ℕ, ℤ, pos, length}
use Rattle.definitions.specs.declared.Run.{Run}
use Rattle.definitions.specs.declared.View.{View}
use Rattle.definitions.specs.Lent.{filled}
use Rattle.definitions.specs.Refusals.{accepted}
use Rattle.definitions.specs.Window.{Chain, Room, WindowEnd, chain_fault, drawn_end, window_of}
use Rattle.vectors.specs.Areas.{Lent, LentMut, cleared_from}
use Rattle.moves.specs.declared.Numbers.{Numbers}
use Rattle.moves.specs.Found.{listing_in}
use Rattle.draws.specs.Draws.{chain_in}
use Rattle.windows.specs.Promise.{room_in}

-- a window ended as was due: its answer and its areas
pub record WindowEnds (due : WindowEnd) (answer : Outcome Run) (list : List ℤ) (group : List ℕ) (answers : List ℤ)
    : Type 0 where
  pub answer_is : answer ≡ due.answer
  pub list_holds : list ≡ due.list
  pub group_holds : group ≡ due.group
  pub answers_hold : answers ≡ due.answers

-- .. in lent areas
abbrev pub WindowEndsIn : (due : Room → WindowEnd) (list : LentMut ℤ) (group : LentMut ℕ) (answers : LentMut ℤ)
    (answer : Outcome Run) → Type 0
WindowEndsIn due list group answers answer =
    WindowEnds (due (room_in list group answers)) answer
    list.exit.now group.exit.now answers.exit.now

-- a refusal: zeros in two areas, and in the third from `at` on
pub record Refuses (refusal : Refusal) (at : ℕ) (list : LentMut ℤ) (group : LentMut ℕ) (answers : LentMut ℤ)
    (answer : Outcome Run) : Type 0 where
  pub answer_is : answer ≡ Err refusal
  pub list_holds : list.exit.now ≡ filled (pos 0) (length list.entry.now) []
  pub group_holds : group.exit.now ≡ filled 0 (length group.entry.now) []
  pub answers_hold : answers.exit.now ≡ cleared_from (pos 0) at answers.entry.now

-- 6, 14 and the run, with a list and a table in their areas
abbrev pub tested : View → Numbers → (start records : Lent ℤ) (list : LentMut ℤ) (group : LentMut ℕ) (room : Room)
    → WindowEnd
tested view found start records list group room =
    let listed = listing_in view.n found list.entry.now group.entry.now in
    window_of view.n (chain_in view start records) room (accepted listed)

-- .. the run alone
abbrev pub drawn : View → Numbers → (start records : Lent ℤ) (list : LentMut ℤ) (group : LentMut ℕ) (room : Room)
    → WindowEnd
drawn view found start records list group room =
    let listed = listing_in view.n found list.entry.now group.entry.now in
    drawn_end view.n (chain_in view start records) room listed no_fault

-- 6 and 14 are not met
abbrev pub Fitting : View → (start records answers : List ℤ) → Type 0
Fitting view start records answers =
    let chain : Chain = record { start = start; width = view.width; cell = view.cell; records = records } in
    chain_fault view.n chain (length answers) ≡ no_fault
