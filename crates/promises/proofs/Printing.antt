-- What a printed text means (Specification 1.3 and 11): by its first word, and REFUSED 15 0. Assumes nothing.
use Rattle.definitions.specs.Refusals.{Outcome, accepted, refused}
use Rattle.std.specs.declared.result.Result.TheVariants.{Err}
use mathlib.Core.Path.{◌≡◌, refl, sym, ◌∙◌, ap, ap₂, subst}
use mathlib.Core.List.{List, [], ◌∷◌}
use Prim.Native.Nat.{ℕ}
use native.Mathlib.Omega.{arith}
use lib.IntN.{ℤ}
use lib.ListN.{get_or, take}
use Rattle.definitions.specs.declared.Answer.{Answer}
use Rattle.definitions.specs.declared.Answer.TheVariants.{Moves, Split as SplitAnswer, Passed}
use Rattle.orders.specs.declared.Service.{Service}
use Rattle.orders.specs.declared.Service.TheVariants.{List as ListService, Split as SplitService}
use Rattle.orders.specs.declared.Service.TheVariants.{Check as CheckService}
use Rattle.answers.specs.Answers.{answer_text, head_text, moves_text, passed_text, refused_text}
use Rattle.answers.specs.Answers.{refused_word, split_text, table_text}
use Rattle.answers.proofs.Reading.{head-says}
use Rattle.promises.specs.Services.{printed, served}
use Rattle.promises.specs.Promise.{CheckPrinted, Listed, ListPrinted, Outside, Parted, PassKept, Prints}
use Rattle.promises.specs.Promise.{SplitPrinted}
use Rattle.promises.proofs.Orders.{Found}
use Rattle.promises.proofs.Cases.{IsRefusal, found-unless}
use Rattle.promises.proofs.Meaning.{check-means, list-means, outside-split, passing-check, split-means}
use Rattle.promises.proofs.Meaning.{split-outside-file}

-- the first byte of a refusal's text, R
abbrev first_byte : ℕ
first_byte = get_or refused_word 0 0

-- the answer is not a refusal where its text begins with another letter
not-refused : (answer : Outcome Answer) (lines : List (List ℤ)) {text : List ℕ} → answer_text answer lines ≡ text
    → ¬ (get_or text 0 0 ≡ first_byte) → ¬ (IsRefusal answer)
unfolding answer_text refused_text head_text
not-refused (accepted (Moves rows members stored sums)) lines e other h = h
not-refused (accepted (SplitAnswer pieces rows members stored sums)) lines e other h = h
not-refused (accepted (Passed rows sums)) lines e other h = h
not-refused (Err r) lines e other h = other (sym (ap (λ (t : List ℕ). get_or t 0 0) e))

-- so that the service found something
found-printed : (service : Service) (file : List ℕ) {text : List ℕ} → printed service file ≡ text
    → ¬ (get_or text 0 0 ≡ first_byte) → Found service file
unfolding printed
found-printed service file e other =
    found-unless service file refl (not-refused (served service file).answer (served service file).lines e other)

-- a text of a refusal is that of no other answer
refusal-printed : (answer : Outcome Answer) (lines : List (List ℤ)) (number place : ℕ)
    → answer_text answer lines ≡ refused_text number place → answer ≡ refused number place
unfolding answer_text moves_text split_text passed_text refused_text table_text head_text
refusal-printed (accepted (Moves rows members stored sums)) lines number place e =
    absurd (omega (arith, ap (λ (t : List ℕ). get_or t 0 0) e))
refusal-printed (accepted (SplitAnswer pieces rows members stored sums)) lines number place e =
    absurd (omega (arith, ap (λ (t : List ℕ). get_or t 0 0) e))
refusal-printed (accepted (Passed rows sums)) lines number place e = absurd (omega (arith, ap (λ (t : List ℕ). get_or t 0 0) e))
refusal-printed (Err r) lines number place e =
    let same = head-says refused_word {ms = r.number ∷ r.place ∷ []} {ns = number ∷ place ∷ []} e in
    let y : r.number ≡ number = cc in
    let z : r.place ≡ place = cc in
    ap₂ refused y z

-- ---- the three programs
module _ (file : List ℕ) {count : ℕ} {area : List ℕ} where
  -- list_moves
  pub list-printed : Prints ListService file count area → ListPrinted file count area
  list-printed P = record {
    prints = P;
    accepted = λ rest e.
        let F = found-printed ListService file (sym P.text ∙ e) (λ h. omega (arith, h)) in
        subst (Listed file) (sym P.text) (list-means file F);
  }

  -- split_moves
  pub split-printed : Prints SplitService file count area → SplitPrinted file count area
  unfolding printed answer_text
  split-printed P = record {
    prints = P;
    accepted = λ rest e.
        let F = found-printed SplitService file (sym P.text ∙ e) (λ h. omega (arith, h)) in
        subst (Parted file) (sym P.text) (split-means file F);
    outside = outside;
    exactly = λ Q. (outside, λ O. P.text ∙ ap text (outside-split file Q O));
  }
    where
      lines : List (List ℤ)
      lines = (served SplitService file).lines

      text : Outcome Answer → List ℕ
      text answer = answer_text answer lines

      outside : take count area ≡ refused_text 15 0 → Outside file
      outside e =
          let r = refusal-printed (served SplitService file).answer lines 15 0 (sym P.text ∙ e) in
          split-outside-file file r

  -- check_moves
  pub check-printed : Prints CheckService file count area → CheckPrinted file count area
  check-printed P = record {
    prints = P;
    accepted = λ rest e.
        let F = found-printed CheckService file (sym P.text ∙ e) (λ h. omega (arith, h)) in
        subst (PassKept file count) (sym P.text) (check-means file count F (omega (arith, P.counts)));
    passes = λ size text Q. P.text ∙ sym (passing-check file Q).1;
  }
