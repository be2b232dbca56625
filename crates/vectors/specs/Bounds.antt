-- What the functions on vectors ask of their callers. Assumes nothing.
use Rattle.std.specs.Prelude.{ℕ, ◌≤◌, ◌<◌, length, get_or}
use Rattle.definitions.specs.Limits.{cells}
use Rattle.definitions.specs.Group.{Exchange}

-- two numbers at most this large in absolute value have a sum and a difference that fit; every limit is below it
abbrev pub headroom : ℕ
headroom = 1_000_000_000

-- s has room in a vector, and each of its numbers is one of the cells, from 1
abbrev pub NamesCells : Exchange → Type 0
NamesCells s = (length s ≤ cells) × ((j : ℕ) → j < length s → (0 < get_or s j 0) × (get_or s j 0 ≤ cells))
