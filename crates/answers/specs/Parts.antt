-- What the parts of the code write. Assumes nothing.
use Rattle.std.specs.Prelude.{List, ℕ, zero, suc, ℤ, pos, get_or}
use Rattle.definitions.specs.Lent.{chunks}
use Rattle.vectors.specs.Areas.{Lent}
use Rattle.answers.specs.Text.{decimalℤ}
use Rattle.answers.specs.Answers.{entry_text, table_text}

-- number j of a line, with a space before it unless it is the first
unfoldable pub placed_text : (line : List ℤ) (j : ℕ) → List ℕ
placed_text line zero = decimalℤ (get_or line zero (pos 0))
placed_text line (suc j) = entry_text (get_or line (suc j) (pos 0))

-- a first line, a line for each of the first rows of `width` lent numbers, END
abbrev pub table_text_in : (word counts : Lent ℕ) (width count : ℕ) (numbers : Lent ℤ) → List ℕ
table_text_in word counts width count numbers =
    table_text word.entry.now counts.entry.now (chunks width count numbers.entry.now)
