-- The text of an answer by its cases, with the rows of an area as its lines. Assumes nothing.
use Rattle.definitions.specs.Refusals.{Outcome, accepted, refused}
use mathlib.Core.Path.{◌≡◌, refl, sym, ◌∙◌, ap}
use mathlib.Core.List.{List, [], ◌∷◌}
use Prim.Native.Nat.{ℕ, zero, suc}
use lib.IntN.{ℤ}
use lib.ListN.{length, drop}
use Rattle.definitions.specs.declared.Answer.{Answer}
use Rattle.definitions.specs.declared.Answer.TheVariants.{Moves, Split, Passed}
use Rattle.definitions.specs.Lent.{chunks}
use Rattle.answers.specs.Answers.{moves_word, split_word, passed_word, refused_word, head_text, table_text, moves_text}
use Rattle.answers.specs.Answers.{split_text, passed_text, refused_text, answer_text, rows_text}

-- how many rows
rows-counted : (width count : ℕ) (numbers : List ℤ) → count ≡ length (chunks width count numbers)
unfolding chunks
rows-counted width zero numbers = refl
rows-counted width (suc count) numbers = ap suc (rows-counted width count (drop width numbers))

module _ (width : ℕ) (numbers : List ℤ) where
  -- by the answer
  abbrev text_of : Outcome Answer → List ℕ
  text_of answer = rows_text answer width numbers

  -- what the code writes in each case is that text
  pub moves-text : {answer : Outcome Answer} {rows members stored sums : ℕ} → answer ≡ accepted (Moves rows members stored sums)
      → table_text moves_word (rows ∷ members ∷ stored ∷ sums ∷ []) (chunks width rows numbers) ≡ text_of answer
  unfolding answer_text moves_text
  moves-text {answer} {rows} {members} {stored} {sums} e =
      ap (λ (k : ℕ). table_text moves_word (k ∷ members ∷ stored ∷ sums ∷ []) (chunks width rows numbers))
      (rows-counted width rows numbers)
      ∙ ap text_of (sym e)

  pub split_text_lem : {answer : Outcome Answer} {pieces rows members stored sums : ℕ}
      → answer ≡ accepted (Split pieces rows members stored sums)
      → table_text split_word (pieces ∷ []) (chunks width pieces numbers) ≡ text_of answer
  unfolding answer_text split_text
  split_text_lem {answer} {pieces} e =
      ap (λ (k : ℕ). table_text split_word (k ∷ []) (chunks width pieces numbers)) (rows-counted width pieces numbers)
      ∙ ap text_of (sym e)

  pub passed-text : {answer : Outcome Answer} {rows sums : ℕ} → answer ≡ accepted (Passed rows sums)
      → head_text passed_word (rows ∷ sums ∷ []) ≡ text_of answer
  unfolding answer_text passed_text
  passed-text e = ap text_of (sym e)

  pub refused-text : {answer : Outcome Answer} {number place : ℕ} → answer ≡ refused number place
      → head_text refused_word (number ∷ place ∷ []) ≡ text_of answer
  unfolding answer_text refused_text
  refused-text e = ap text_of (sym e)
