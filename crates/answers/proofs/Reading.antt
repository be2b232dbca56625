-- A line that begins with a word says its counts (Specification 9): no other counts have the same text. Assumes
-- nothing.
use Rattle.std.specs.Prelude.{if◌then◌else◌}
use mathlib.Core.Path.{◌≡◌, refl, sym, ◌∙◌, ap}
use mathlib.Core.List.{List, [], ◌∷◌, ◌++◌, map, append_assoc}
use mathlib.Core.Logic.{⊎_elim}
use Prim.Native.Nat.{ℕ, zero, suc, ◌+◌, ◌-◌, ◌*◌, ◌/◌, ◌%◌, ◌<◌}
use native.Mathlib.Omega.{arith}
use borrow.Author.Tests.{le-ltb}
use lib.Dec.{ltb}
use lib.ListN.{length, drop}
use lib.Seq.{drop-append_seam}
use Rattle.definitions.specs.Lists.{concat}
use Rattle.answers.specs.Text.{digit_zero, decimal}
use Rattle.answers.specs.Answers.{line_feed, count_text, head_text}
use Rattle.answers.proofs.Pages.{either}
use Rattle.answers.proofs.Digits.{decimal-small, decimal-more}

-- the numbers of a text, each ended by a byte below the digits; so far the digits of `value` were read
counts-in : (value : ℕ) (text : List ℕ) → List ℕ
counts-in value [] = []
counts-in value (byte ∷ text) =
    let more = counts-in (value * 10 + (byte - digit_zero)) text in
    if ltb byte digit_zero then value ∷ counts-in 0 text else more

-- a digit is read
digit-read : (value digit : ℕ) (text : List ℕ)
    → counts-in value ((digit_zero + digit) ∷ text) ≡ counts-in (value * 10 + digit) text
unfolding counts-in
digit-read value digit text =
    rw (le-ltb (digit_zero + digit) digit_zero (omega arith))
    (ap (λ (k : ℕ). counts-in (value * 10 + k) text) (let e : digit_zero + digit - digit_zero ≡ digit = omega arith in e))

-- a number is read
number_read : (top n : ℕ) (text : List ℕ) → n < top → counts-in 0 (decimal n ++ text) ≡ counts-in n text
number_read zero n text h = absurd (omega arith)
number_read (suc top) n text h =
    ⊎_elim
    (λ b.
    ap (λ (l : List ℕ). counts-in 0 (l ++ text)) (decimal-more n b)
    ∙ ap (counts-in 0) (append_assoc (decimal (n / 10)) ((digit_zero + n % 10) ∷ []) text)
    ∙ number_read top (n / 10) ((digit_zero + n % 10) ∷ text) (omega arith)
    ∙ digit-read (n / 10) (n % 10) text
    ∙ ap (λ (k : ℕ). counts-in k text) (let e : n / 10 * 10 + n % 10 ≡ n = omega arith in e))
    (λ b.
    ap (λ (l : List ℕ). counts-in 0 (l ++ text)) (decimal-small n b)
    ∙ digit-read 0 (n % 10) text
    ∙ ap (λ (k : ℕ). counts-in k text) (let e : 0 * 10 + n % 10 ≡ n = omega arith in e))
    (either 10 n)

-- the counts of a line are read
line_read : (value : ℕ) (counts : List ℕ)
    → counts-in value (concat (map count_text counts) ++ (line_feed ∷ [])) ≡ value ∷ counts
unfolding concat counts-in
line_read value [] = refl
line_read value (n ∷ counts) =
    ap (λ (l : List ℕ). value ∷ counts-in 0 l)
    (append_assoc (decimal n) (concat (map count_text counts)) (line_feed ∷ []))
    ∙ ap (λ (l : List ℕ). value ∷ l) (number_read (suc n) n _ (omega arith) ∙ line_read n counts)

-- THE COUNTS OF A LINE, from its text
pub head-says : (word : List ℕ) {ms ns : List ℕ} → head_text word ms ≡ head_text word ns → ms ≡ ns
unfolding head_text
head-says word {ms} {ns} e =
    let same = sym (counted ms) ∙ ap (λ (l : List ℕ). counts-in 0 (drop (length word) l)) e ∙ counted ns in cc
  where
    counted : (counts : List ℕ) → counts-in 0 (drop (length word) (head_text word counts)) ≡ 0 ∷ counts
    counted counts =
        ap (λ (l : List ℕ). counts-in 0 (drop (length word) l))
        (append_assoc word (concat (map count_text counts)) (line_feed ∷ []))
        ∙ ap (counts-in 0) (drop-append_seam word _)
        ∙ line_read 0 counts
