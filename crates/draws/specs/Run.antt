-- The answer rows of a run, in a lent area, by the definitions (Specification 3.9). Assumes nothing.
use Rattle.std.specs.Prelude.{◌≡◌, List, [], ◌++◌, map, ℕ, suc, ◌-◌, ◌*◌, ℤ, length, take, drop}
use Rattle.definitions.specs.declared.View.{View}
use Rattle.definitions.specs.Lists.{concat, range}
use Rattle.definitions.specs.Vector.{Vector, padded}
use Rattle.definitions.specs.Window.{Visit, answer_row, answer_rows, answer_width, draws_of, last_of, visits}
use Rattle.vectors.specs.Areas.{Lent, LentMut}
use Rattle.reduction.specs.declared.Extent.{Extent}
use Rattle.figures.specs.Window.{Counted, Spans, row_in, values_in}
use Rattle.draws.specs.declared.Figures.{Figures}
use Rattle.draws.specs.Draws.{rows_in, table_in}

-- record j as the areas show it: the row that it uses, and the contingency table of its answer row
abbrev pub visit_in : View → (records answers : List ℤ) (j : ℕ) → Visit
visit_in view records answers j =
    record { row = row_in records j; reached = padded (take view.n (drop (j * answer_width view.n) answers)) }

-- the first `count` records
abbrev pub visits_in : View → (records answers : List ℤ) (count : ℕ) → List Visit
visits_in view records answers count = map (visit_in view records answers) (range 0 count)

-- the figures of the window before record i, and the uses of the rows in it
pub record Shown (view : View) (records answers : List ℤ) (uses : List ℕ) (i : ℕ) (f : Figures) : Type 0 where
  pub counted : Counted records view.width i uses f.different
  pub spans : Spans (values_in view answers (i - view.width) i) f.extremes

-- record i has its answer row, behind those before it
pub record Answers (view : View) (records before after : List ℤ) (i : ℕ) (table : Vector) : Type 0 where
  pub reached : visit_in view records after i ≡ record { row = row_in records i; reached = table }
  pub row : take (suc i * answer_width view.n) after
      ≡ take (i * answer_width view.n) before
      ++ answer_row view (visit_in view records after i) (last_of view.width (visits_in view records after (suc i)))

-- ---- the run

-- the visits of all records
abbrev pub visits_of : Extent → (list : List ℤ) (group : List ℕ) (start : Vector) (records : List ℤ) → List Visit
visits_of extent list group start records =
    visits (table_in extent group) (rows_in extent list) start (draws_of records)

-- `done` records were drawn, and no more can be; their answer rows are in the area
pub record Ran (view : View) (due : List Visit) (answers : List ℤ) (done : ℕ) : Type 0 where
  pub all : done ≡ length due
  pub rows : take (done * answer_width view.n) answers ≡ concat (answer_rows view [] due)

-- .. in lent areas
abbrev pub RanIn : View → Extent → (start : Vector) (records list : Lent ℤ) (group : Lent ℕ) (answers : LentMut ℤ)
    (done : ℕ) → Type 0
RanIn view extent start records list group answers done =
    Ran view
    (visits_of extent list.entry.now group.entry.now start records.entry.now)
    answers.exit.now done
