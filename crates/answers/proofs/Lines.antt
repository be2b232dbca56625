-- Lines that are written number by number, and rows that are written line by line. Assumes nothing.
use mathlib.Core.Path.{◌≡◌, refl, sym, ◌∙◌, ap}
use mathlib.Core.List.{List, [], ◌∷◌, ◌++◌, map, append_assoc, append-nil}
use Prim.Native.Nat.{ℕ, zero, suc, ◌+◌, ◌-◌, ◌*◌, ◌<◌}
use native.Mathlib.Nat.{not-suc-le-zero, le_of_suc-le-suc, zero-mul, suc-mul}
use native.Mathlib.Numerals.{add-one}
use native.Mathlib.Omega.{arith}
use lib.IntN.{ℤ, pos}
use lib.ListN.{length, get_or, take, drop}
use lib.Seq.{drop-drop}
use Rattle.definitions.specs.Lists.{concat}
use Rattle.definitions.specs.Lent.{chunks}
use Rattle.answers.specs.Text.{decimalℤ}
use Rattle.answers.specs.Answers.{entry_text, numbers_text, line_text, lines_text}
use Rattle.answers.specs.Parts.{placed_text}

-- the texts of one element more: by the successor, and as the code counts
module _ {A : Type 0} (text : A → List ℕ) where
  texts-next : (xs : List A) (i : ℕ) (d : A) → i < length xs
      → concat (map text (take i xs)) ++ text (get_or xs i d) ≡ concat (map text (take (suc i) xs))
  unfolding concat
  texts-next [] i d h = absurd (not-suc-le-zero h)
  texts-next (x ∷ xs) zero d h = sym (append-nil (text x))
  texts-next (x ∷ xs) (suc i) d h =
      append_assoc (text x) (concat (map text (take i xs))) (text (get_or xs i d))
      ∙ ap (λ (l : List ℕ). text x ++ l) (texts-next xs i d (le_of_suc-le-suc h))

  pub texts-more : (xs : List A) (i : ℕ) (d : A) → i < length xs
      → concat (map text (take i xs)) ++ text (get_or xs i d) ≡ concat (map text (take (i + 1) xs))
  texts-more xs i d h = texts-next xs i d h ∙ ap (λ (k : ℕ). concat (map text (take k xs))) (sym (add-one i))

-- one number more of a line
numbers-next : (line : List ℤ) (j : ℕ) → j < length line
    → numbers_text (take j line) ++ placed_text line j ≡ numbers_text (take (suc j) line)
unfolding numbers_text placed_text concat
numbers-next [] j h = absurd (not-suc-le-zero h)
numbers-next (z ∷ line) zero h = sym (append-nil (decimalℤ z))
numbers-next (z ∷ line) (suc j) h =
    append_assoc (decimalℤ z) (concat (map entry_text (take j line))) (entry_text (get_or line j (pos 0)))
    ∙ ap (λ (l : List ℕ). decimalℤ z ++ l) (texts-next entry_text line j (pos 0) (le_of_suc-le-suc h))

pub numbers_more : (line : List ℤ) (j : ℕ) → j < length line
    → numbers_text (take j line) ++ placed_text line j ≡ numbers_text (take (j + 1) line)
numbers_more line j h = numbers-next line j h ∙ ap (λ (k : ℕ). numbers_text (take k line)) (sym (add-one j))

-- number j by its place
pub placed_first : (line : List ℤ) (j : ℕ) → j ≡ 0 → decimalℤ (get_or line j (pos 0)) ≡ placed_text line j
unfolding placed_text
placed_first line zero e = refl
placed_first line (suc j) e = absurd (omega arith)

pub placed-next : (line : List ℤ) (j : ℕ) → (j ≡ 0 → ⊥) → entry_text (get_or line j (pos 0)) ≡ placed_text line j
unfolding placed_text
placed-next line zero n = absurd (n refl)
placed-next line (suc j) n = refl

-- one row more
lines_next : (width i : ℕ) (numbers : List ℤ)
    → lines_text (chunks width i numbers) ++ line_text (take width (drop (i * width) numbers)) ≡ lines_text (chunks width (suc i) numbers)
unfolding lines_text chunks concat
lines_next width zero numbers =
    ap (λ (k : ℕ). line_text (take width (drop k numbers))) (zero-mul width)
    ∙ sym (append-nil (line_text (take width numbers)))
lines_next width (suc i) numbers =
    let e : suc i * width ≡ width + i * width = omega (arith, suc-mul i width) in
    let rest = drop width numbers in
    append_assoc (line_text (take width numbers)) (lines_text (chunks width i rest))
    (line_text (take width (drop (suc i * width) numbers)))
    ∙ ap (λ (l : List ℕ). line_text (take width numbers) ++ l)
    (ap (λ (x : List ℤ). lines_text (chunks width i rest) ++ line_text (take width x)) (ap (λ (k : ℕ). drop k numbers) e ∙ sym (drop-drop (i * width) width numbers))
    ∙ lines_next width i rest)

-- .. as the part of the area from `from` to `from + width`
pub lines_more : (width i from : ℕ) (numbers : List ℤ) → from ≡ i * width
    → lines_text (chunks width i numbers) ++ line_text (take (from + width - from) (drop from numbers)) ≡ lines_text (chunks width (i + 1) numbers)
lines_more width i from numbers e =
    let w : from + width - from ≡ width = omega arith in
    ap (λ (k : ℕ). lines_text (chunks width i numbers) ++ line_text (take k (drop from numbers))) w
    ∙ ap (λ (k : ℕ). lines_text (chunks width i numbers) ++ line_text (take width (drop k numbers))) e
    ∙ lines_next width i numbers
    ∙ ap (λ (k : ℕ). lines_text (chunks width k numbers)) (sym (add-one i))
