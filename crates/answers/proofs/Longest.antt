-- NO TEXT IS LONGER than the limit of Specification 9.4: the longest first line, as many rows as a list can have,
-- each with the longest
-- entries, and END. Assumes nothing.
use Rattle.definitions.specs.Refusals.{Outcome, accepted}
use Rattle.std.specs.declared.result.Result.TheVariants.{Err}
use mathlib.Core.Path.{◌≡◌, refl, ◌∙◌, ap}
use mathlib.Core.List.{List, [], ◌∷◌, ◌++◌, map, Memᴰ}
use mathlib.Core.Logic.{⊎_elim}
use Prim.Native.Nat.{ℕ, zero, suc, ◌+◌, ◌*◌, ◌/◌, ◌≤◌, ◌<◌, ◌^◌}
use native.Mathlib.Nat.{suc-mul, mul-le-mul_right}
use native.Mathlib.Omega.{arith}
use borrow.Author.Tests.{leb-true}
use lib.IntN.{ℤ, pos, negsuc, nat_abs}
use lib.ListN.{length, length-append}
use Rattle.definitions.specs.declared.Answer.{Answer}
use Rattle.definitions.specs.declared.Answer.TheVariants.{Moves, Split, Passed}
use Rattle.definitions.specs.Limits.{cells, entry_limit, list_limit, split_limit, piece_width, lent_pieces}
use Rattle.definitions.specs.Lists.{concat}
use Rattle.definitions.specs.Completion.{sum_count}
use Rattle.answers.specs.Text.{digits, decimal, decimalℤ, digit_count}
use Rattle.answers.specs.Answers.{line_feed, count_text, entry_text, numbers_text, line_text, lines_text, head_text}
use Rattle.answers.specs.Answers.{moves_word, split_word, passed_word, refused_word, end_line, table_text, moves_text}
use Rattle.answers.specs.Answers.{split_text, passed_text, refused_text, answer_text}
use Rattle.answers.specs.Lengths.{line_limit, moves_counts, text_limit, LinesWithin, WithinLimits}
use Rattle.answers.proofs.Pages.{either}
use Rattle.answers.proofs.Digits.{decimal-small, decimal-more}

-- ---- numbers
-- how many digits
length-small : (n : ℕ) → n < 10 → length (decimal n) ≡ 1
length-small n h = ap length (decimal-small n h)

length_more : (n : ℕ) → 10 ≤ n → length (decimal n) ≡ length (decimal (n / 10)) + 1
length_more n h = ap length (decimal-more n h) ∙ length-append (decimal (n / 10)) _

-- a greater number has no fewer digits
grows-up-to : (top m n : ℕ) → n < top → m ≤ n → length (decimal m) ≤ length (decimal n)
grows-up-to zero m n h k = absurd (omega arith)
grows-up-to (suc top) m n h k =
    ⊎_elim
    (λ b. ⊎_elim
    (λ a. omega (arith, length_more m a, length_more n b, grows-up-to top (m / 10) (n / 10) (omega arith) (omega arith)))
    (λ a. omega (arith, length-small m a, length_more n b))
    (either 10 m))
    (λ b. omega (arith, length-small m (omega arith), length-small n b))
    (either 10 n)

decimal-grows : (m n : ℕ) → m ≤ n → length (decimal m) ≤ length (decimal n)
decimal-grows m n h = grows-up-to (suc n) m n (omega arith) h

-- the sign takes one byte
entry-short : (limit : ℕ) (z : ℤ) → nat_abs z ≤ limit → length (decimalℤ z) ≤ 1 + length (decimal limit)
entry-short limit (pos n) h = omega (arith, decimal-grows n limit h)
entry-short limit (negsuc n) h = omega (arith, decimal-grows (suc n) limit h)

-- ---- lines

-- texts of at most `bound` bytes each
texts-short : {A : Type 0} (text : A → List ℕ) (bound : ℕ) (xs : List A)
    → ((x : A) → Memᴰ x xs → length (text x) ≤ bound) → length (concat (map text xs)) ≤ length xs * bound
unfolding concat
texts-short text bound [] h = omega arith
texts-short text bound (x ∷ xs) h =
    omega
    (arith, length-append (text x) (concat (map text xs)), suc-mul (length xs) bound, h x (Memᴰ.head refl), texts-short text bound xs (λ y m. h y (Memᴰ.tail m)))

-- a line within it
line-short : (width limit : ℕ) (line : List ℤ) → 1 ≤ width → length line ≤ width
    → ((z : ℤ) → Memᴰ z line → nat_abs z ≤ limit) → length (line_text line) ≤ line_limit width limit
unfolding line_text numbers_text
line-short width limit [] w h k = omega (arith, mul-le-mul_right {m = 1} {n = width} (2 + digit_count limit) w)
line-short width limit (z ∷ line) w h k =
    let bound = 2 + digit_count limit in
    let rest = concat (map entry_text line) in
    let few : suc (length line) * bound ≤ width * bound =
    mul-le-mul_right {m = suc (length line)} {n = width} bound h in
    let short : length rest ≤ length line * bound =
    texts-short entry_text bound line (λ y m. let e = entry-short limit y (k y (Memᴰ.tail m)) in omega arith) in
    omega
    (arith, length-append (decimalℤ z ++ rest) (line_feed ∷ []), length-append (decimalℤ z) rest, suc-mul (length line) bound, entry-short limit z (k z (Memᴰ.head refl)))

-- at most `most` such lines
lines-short : (width limit most : ℕ) (lines : List (List ℤ)) → 1 ≤ width → length lines ≤ most
    → LinesWithin width limit lines → length (lines_text lines) ≤ most * line_limit width limit
unfolding lines_text
lines-short width limit most lines w h k =
    let short =
    texts-short line_text (line_limit width limit) lines
    (λ line m. line-short width limit line w (k line m).0 (k line m).1) in
    omega (arith, mul-le-mul_right {m = length lines} {n = most} (line_limit width limit) h)

-- ---- first lines

-- counts that are at most others
data UpTo : List ℕ → List ℕ → Type 0 where
  none : UpTo [] []
  and : {m n : ℕ} {ms ns : List ℕ} → m ≤ n → UpTo ms ns → UpTo (m ∷ ms) (n ∷ ns)

-- have no longer texts
counts-grow : {ms ns : List ℕ} → UpTo ms ns → length (concat (map count_text ms)) ≤ length (concat (map count_text ns))
unfolding concat
counts-grow none = omega arith
counts-grow (and {m = m} {n = n} {ms = ms} {ns = ns} h t) =
    omega
    (arith, length-append (count_text m) (concat (map count_text ms)), length-append (count_text n) (concat (map count_text ns)), decimal-grows m n h, counts-grow t)

-- the parts of a first line
length-head : (word counts : List ℕ)
    → length (head_text word counts) ≡ length word + length (concat (map count_text counts)) + 1
unfolding head_text
length-head word counts =
    length-append (word ++ concat (map count_text counts)) (line_feed ∷ [])
    ∙ ap (λ (k : ℕ). k + 1) (length-append word (concat (map count_text counts)))

-- so a first line is no longer than that of the greatest counts
head-grows : (word : List ℕ) {ms ns : List ℕ} → UpTo ms ns → length (head_text word ms) ≤ length (head_text word ns)
head-grows word {ms} {ns} h = omega (arith, length-head word ms, length-head word ns, counts-grow h)

-- ---- answers
-- the parts of a text with END
length-table : (word counts : List ℕ) (lines : List (List ℤ))
    → length (table_text word counts lines) ≡ length (head_text word counts) + length (lines_text lines) + length end_line
unfolding table_text
length-table word counts lines =
    length-append (head_text word counts ++ lines_text lines) end_line
    ∙ ap (λ (k : ℕ). k + length end_line) (length-append (head_text word counts) (lines_text lines))

-- the bytes of the longest of the other texts
abbrev split_most : ℕ
split_most =
    length (head_text split_word (lent_pieces ∷ [])) + lent_pieces * line_limit piece_width split_limit + length end_line

abbrev word_most : (word : List ℕ) → ℕ
word_most word = length (head_text word (2 ^ 64 ∷ 2 ^ 64 ∷ []))

-- they are no longer than the longest MOVES
split-most : split_most ≤ text_limit
unfolding text_limit head_text concat decimal digits sum_count
split-most = leb-true split_most text_limit refl

passed-most : word_most passed_word ≤ text_limit
unfolding text_limit head_text concat decimal digits sum_count
passed-most = leb-true (word_most passed_word) text_limit refl

refused-most : word_most refused_word ≤ text_limit
unfolding text_limit head_text concat decimal digits sum_count
refused-most = leb-true (word_most refused_word) text_limit refl

-- a single line of two counts
single-short : (word : List ℕ) (a b : ℕ) → a < 2 ^ 64 → b < 2 ^ 64 → length (head_text word (a ∷ b ∷ [])) ≤ word_most word
single-short word a b h k =
    let h' : a ≤ 2 ^ 64 = omega arith in
    let k' : b ≤ 2 ^ 64 = omega arith in
    head-grows word (and h' (and k' none))

-- THE THEOREM, for every answer within the limits
pub text-short : (answer : Outcome Answer) (lines : List (List ℤ)) → WithinLimits answer lines
    → length (answer_text answer lines) ≤ text_limit
unfolding text_limit answer_text moves_text split_text passed_text refused_text
text-short (accepted (Moves rows members stored sums)) lines h =
    let counts = length lines ∷ members ∷ stored ∷ sums ∷ [] in
    let head : length (head_text moves_word counts) ≤ length (head_text moves_word moves_counts) =
    head-grows moves_word (and h.0 (and h.1 (and h.2 (and h.3 none)))) in
    let body : length (lines_text lines) ≤ list_limit * line_limit cells entry_limit =
    lines-short cells entry_limit list_limit lines (omega arith) h.0 h.4 in
    omega (arith, length-table moves_word counts lines)
text-short (accepted (Split pieces rows members stored sums)) lines h =
    let head : length (head_text split_word (length lines ∷ [])) ≤ length (head_text split_word (lent_pieces ∷ [])) =
    head-grows split_word (and h.0 none) in
    let body : length (lines_text lines) ≤ lent_pieces * line_limit piece_width split_limit =
    lines-short piece_width split_limit lent_pieces lines (omega arith) h.0 h.1 in
    omega (arith, length-table split_word (length lines ∷ []) lines, split-most)
text-short (accepted (Passed rows sums)) lines h = omega (arith, single-short passed_word rows sums h.0 h.1, passed-most)
text-short (Err r) lines h =
    omega (arith, single-short refused_word r.number r.place h.0 h.1, refused-most)
