-- The records of a window and the values of a chosen cell, in lent areas (Specification 3.9). Assumes nothing.
use Rattle.std.specs.Prelude.{◌≡◌, Bool, true, false, ◌||◌, List, map, ℕ, ◌+◌, ◌-◌, ◌*◌, ◌/◌, ◌≤◌, ◌<◌, eqb, ltb, ℤ, pos, nat_abs, length, get_or, if◌then◌else◌}
use Rattle.definitions.specs.declared.View.{View}
use Rattle.definitions.specs.Limits.{cells, list_limit, record_width, window_limit}
use Rattle.definitions.specs.Lists.{range, select}
use Rattle.definitions.specs.Vector.{equal_cell}
use Rattle.definitions.specs.Window.{answer_width, chosen, different, larger, lesser}
use Rattle.figures.specs.declared.Extremes.{Extremes}

-- the row that record j uses; those of the records from `from` to before `to`
abbrev pub row_in : (records : List ℤ) (j : ℕ) → ℕ
row_in records j = nat_abs (get_or records (j * record_width) (pos 0))

abbrev pub rows_in : (records : List ℤ) (from to : ℕ) → List ℕ
rows_in records from to = map (row_in records) (range from (to - from))

-- the value of the chosen cell in answer row j; those of the answer rows from `from` to before `to`
abbrev pub value_in : View → (answers : List ℤ) (j : ℕ) → ℤ
value_in view answers j = get_or answers (j * answer_width view.n + (view.cell - 1)) (pos 0)

abbrev pub values_in : View → (answers : List ℤ) (from to : ℕ) → List ℤ
values_in view answers from to = map (value_in view answers) (range from (to - from))

-- a window of the right width, and a cell that there is
pub record Viewable (view : View) : Type 0 where
  pub narrow : view.n ≤ cells
  pub some : 1 ≤ view.width
  pub few : view.width ≤ window_limit
  pub first : 1 ≤ view.cell
  pub last : view.cell ≤ view.n

-- so many answer rows are in an area
abbrev pub Rows : View → (answers : List ℤ) (count : ℕ) → Type 0
Rows view answers count = count * answer_width view.n ≤ length answers

-- ---- rows

-- how often a number stands in a list
abbrev pub uses : (r : ℕ) → List ℕ → ℕ
uses r numbers = length (select (eqb r) numbers)

-- each row's uses in the window before record i, and how many rows it used
pub record Counted (records : List ℤ) (width i : ℕ) (area : List ℕ) (count : ℕ) : Type 0 where
  pub long : length area ≡ list_limit
  pub used : (r : ℕ) → r < list_limit → get_or area r 0 ≡ uses r (rows_in records (i - width) i)
  pub counted : count ≡ different (rows_in records (i - width) i)

-- records up to record i, whose rows are rows of a list
pub record Named (records : List ℤ) (i : ℕ) : Type 0 where
  pub sent : i < length records / record_width
  pub rows : (j : ℕ) → j ≤ i → row_in records j < list_limit

-- ---- extremes

-- the smallest and the largest of some numbers
pub record Spans (numbers : List ℤ) (e : Extremes) : Type 0 where
  pub smallest : e.smallest ≡ chosen lesser numbers
  pub largest : e.largest ≡ chosen larger numbers

-- the extremes of the window before record i do not tell those of the next: it is empty, or the value that leaves it
-- is one of them
abbrev pub is_stale : View → (answers : List ℤ) (i : ℕ) → Extremes → Bool
is_stale view answers i e =
    let x = value_in view answers (i - view.width) in
    if eqb i 0 then true
    else if ltb i view.width then false
    else equal_cell x e.smallest || equal_cell x e.largest
