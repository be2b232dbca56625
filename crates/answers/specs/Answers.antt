-- Specification 9.1 to 9.3: the text of each answer. Assumes nothing.
use Rattle.definitions.specs.Refusals.{Outcome, accepted}
use Rattle.std.specs.declared.result.Result.TheVariants.{Err}
use Rattle.std.specs.Prelude.{List, [], ◌∷◌, ◌++◌, map, ℕ, ℤ, length}
use Rattle.definitions.specs.declared.Answer.{Answer}
use Rattle.definitions.specs.declared.Answer.TheVariants.{Moves, Split, Passed}
use Rattle.definitions.specs.Lists.{concat}
use Rattle.definitions.specs.Lent.{chunks}
use Rattle.answers.specs.Text.{decimal, decimalℤ}

-- ---- lines

-- the bytes of the space and of the line feed
abbrev pub space : ℕ
space = 32

abbrev pub line_feed : ℕ
line_feed = 10

-- a count, and an entry, with a space before it
abbrev pub count_text : ℕ → List ℕ
count_text n = space ∷ decimal n

abbrev pub entry_text : ℤ → List ℕ
entry_text z = space ∷ decimalℤ z

-- 9: numbers with one space between
unfoldable pub numbers_text : List ℤ → List ℕ
numbers_text [] = []
numbers_text (z ∷ zs) = decimalℤ z ++ concat (map entry_text zs)

-- a line of numbers
unfoldable pub line_text : List ℤ → List ℕ
line_text numbers = numbers_text numbers ++ (line_feed ∷ [])

-- a line for each
unfoldable pub lines_text : List (List ℤ) → List ℕ
lines_text lines = concat (map line_text lines)

-- a line that begins with a word: the word and the counts
unfoldable pub head_text : (word counts : List ℕ) → List ℕ
head_text word counts = word ++ concat (map count_text counts) ++ (line_feed ∷ [])

-- ---- words: MOVES, SPLIT, PASSED and REFUSED
abbrev pub moves_word : List ℕ
moves_word = 77 ∷ 79 ∷ 86 ∷ 69 ∷ 83 ∷ []

abbrev pub split_word : List ℕ
split_word = 83 ∷ 80 ∷ 76 ∷ 73 ∷ 84 ∷ []

abbrev pub passed_word : List ℕ
passed_word = 80 ∷ 65 ∷ 83 ∷ 83 ∷ 69 ∷ 68 ∷ []

abbrev pub refused_word : List ℕ
refused_word = 82 ∷ 69 ∷ 70 ∷ 85 ∷ 83 ∷ 69 ∷ 68 ∷ []

-- the last line: END
abbrev pub end_line : List ℕ
end_line = 69 ∷ 78 ∷ 68 ∷ line_feed ∷ []

-- ---- answers

-- a first line, a line for each row of numbers, END
unfoldable pub table_text : (word counts : List ℕ) (lines : List (List ℤ)) → List ℕ
table_text word counts lines = head_text word counts ++ lines_text lines ++ end_line

-- 9.1: the rows of a list, with the members of the group, the rows stored and the sums tried
unfoldable pub moves_text : (g k sums : ℕ) (rows : List (List ℤ)) → List ℕ
moves_text g k sums rows = table_text moves_word (length rows ∷ g ∷ k ∷ sums ∷ []) rows

-- 9.2: pieces
unfoldable pub split_text : (pieces : List (List ℤ)) → List ℕ
split_text pieces = table_text split_word (length pieces ∷ []) pieces

-- 9.3: a single line
unfoldable pub passed_text : (rows sums : ℕ) → List ℕ
passed_text rows sums = head_text passed_word (rows ∷ sums ∷ [])

unfoldable pub refused_text : (number place : ℕ) → List ℕ
refused_text number place = head_text refused_word (number ∷ place ∷ [])

-- the lines of numbers that the text of an answer has
abbrev pub line_count : Outcome Answer → ℕ
line_count (accepted (Moves rows members stored sums)) = rows
line_count (accepted (Split pieces rows members stored sums)) = pieces
line_count (accepted (Passed rows sums)) = 0
line_count (Err r) = 0

-- THE TEXT OF AN ANSWER whose lines of numbers are these
unfoldable pub answer_text : Outcome Answer → (lines : List (List ℤ)) → List ℕ
answer_text (accepted (Moves rows members stored sums)) lines = moves_text members stored sums lines
answer_text (accepted (Split pieces rows members stored sums)) lines = split_text lines
answer_text (accepted (Passed rows sums)) lines = passed_text rows sums
answer_text (Err r) lines = refused_text r.number r.place

-- .. whose lines are the first rows of `width` numbers
abbrev pub rows_text : Outcome Answer → (width : ℕ) (numbers : List ℤ) → List ℕ
rows_text answer width numbers = answer_text answer (chunks width (line_count answer) numbers)
