-- Specification 9.4: how long a text can be, by the limits. Assumes nothing.
use Rattle.definitions.specs.Refusals.{Outcome, accepted}
use Rattle.std.specs.declared.result.Result.TheVariants.{Err}
use mathlib.Core.List.{List, [], ◌∷◌, Memᴰ}
use Rattle.std.specs.Prelude.{ℕ, ◌+◌, ◌*◌, ◌≤◌, ◌<◌, ◌^◌, ℤ, nat_abs, length}
use Rattle.definitions.specs.declared.Answer.{Answer}
use Rattle.definitions.specs.declared.Answer.TheVariants.{Moves, Split, Passed}
use Rattle.definitions.specs.Limits.{cells, entry_limit, group_limit, list_limit, split_limit, piece_width, lent_pieces}
use Rattle.definitions.specs.Completion.{sum_count}
use Rattle.answers.specs.Text.{digit_count}
use Rattle.answers.specs.Answers.{end_line, head_text, moves_word}

-- the bytes of the longest line: each number has its sign, its digits and the space or line feed behind it
abbrev pub line_limit : (width limit : ℕ) → ℕ
line_limit width limit = width * (2 + digit_count limit)

-- the greatest counts of a first line of MOVES
abbrev pub moves_counts : List ℕ
moves_counts = list_limit ∷ group_limit ∷ list_limit ∷ sum_count group_limit list_limit ∷ []

-- THE BYTES OF THE LONGEST TEXT: the first line with the greatest counts, all rows that a list can have, and END
unfoldable pub text_limit : ℕ
text_limit = length (head_text moves_word moves_counts) + list_limit * line_limit cells entry_limit + length end_line

-- each line has at most `width` numbers, none past `limit`
abbrev pub LinesWithin : (width limit : ℕ) (lines : List (List ℤ)) → Type 0
LinesWithin width limit lines =
    (line : List ℤ) → Memᴰ line lines → (length line ≤ width) × ((z : ℤ) → Memᴰ z line → nat_abs z ≤ limit)

-- an answer and its lines as they come from the areas that programs lend; a single line may have any counts of 64 bits
abbrev pub WithinLimits : Outcome Answer → (lines : List (List ℤ)) → Type 0
WithinLimits (accepted (Moves rows members stored sums)) lines =
    (length lines ≤ list_limit)
    × (members ≤ group_limit)
    × (stored ≤ list_limit)
    × (sums ≤ sum_count group_limit list_limit)
    × LinesWithin cells entry_limit lines
WithinLimits (accepted (Split pieces rows members stored sums)) lines =
    (length lines ≤ lent_pieces) × LinesWithin piece_width split_limit lines
WithinLimits (accepted (Passed rows sums)) lines = (rows < 2 ^ 64) × (sums < 2 ^ 64)
WithinLimits (Err r) lines = (r.number < 2 ^ 64) × (r.place < 2 ^ 64)
