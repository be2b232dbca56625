-- How a C call ends (Specification 9.4): a refusal, a text that is longer than the area, or the text. Assumes nothing.
use Rattle.definitions.specs.Refusals.{Outcome, refused}
use mathlib.Core.Path.{◌≡◌, refl, sym, ap, ◌∙◌, subst}
use mathlib.Core.List.{List}
use Prim.Native.Nat.{ℕ, ◌≤◌, ◌<◌}
use borrow.Author.Tests.{leb-true, leb-false}
use lib.Dec.{leb}
use lib.IntN.{pos}
use lib.ListN.{length, replicate, take}
use lib.Seq.{take-append_seam}
use Rattle.definitions.specs.declared.Answer.{Answer}
use Rattle.definitions.specs.Lent.{filled}
use Rattle.theory.proofs.Counting.{if-cases}
use Rattle.theory.proofs.Areas.{filled-nothing}
use Rattle.theory.proofs.Refused.{Reported}
use Rattle.orders.specs.declared.Service.{Service}
use Rattle.orders.specs.declared.Service.TheVariants.{List as ListService, Split as SplitService}
use Rattle.orders.specs.declared.Service.TheVariants.{Check as CheckService}
use Rattle.answers.specs.Refusal.{refusal_of}
use Rattle.promises.specs.Services.{CallEnd, call_end, end_by, printed, served, text_end}
use Rattle.promises.proofs.Orders.{Found}
use Rattle.promises.proofs.Cases.{Case, case-of, finds, refuses}

-- the three ends
pub data Ending (service : Service) (file : List ℕ) (size : ℕ) (end : CallEnd) : Type 0 where
  turned : (number place : ℕ) → (served service file).answer ≡ refused number place → Reported 22 number place
      → end.result ≡ refusal_of number place → end.area ≡ replicate size 0 → Ending service file size end
  short : Found service file → size < length (printed service file) → end.result ≡ refusal_of 6 0
      → end.area ≡ replicate size 0 → Ending service file size end
  laid : Found service file → length (printed service file) ≤ size → end.result ≡ pos (length (printed service file))
      → take (length (printed service file)) end.area ≡ printed service file → Ending service file size end

module _ (file : List ℕ) (size : ℕ) where
  -- a refusal ends as its number and place
  pub refused-result : (service : Service) {number place : ℕ} → (served service file).answer ≡ refused number place
      → (call_end service file size).result ≡ refusal_of number place
  unfolding call_end end_by
  refused-result service e = ap (λ (a : Outcome Answer). (end_by size a (printed service file)).result) e

  -- what was found ends as its text
  found-text : (service : Service) → Found service file
      → call_end service file size ≡ text_end size (printed service file)
  unfolding call_end end_by
  found-text ListService F = ap (λ (a : Outcome Answer). end_by size a (printed ListService file)) F.answers
  found-text SplitService F = ap (λ (a : Outcome Answer). end_by size a (printed SplitService file)) F.answers
  found-text CheckService F = ap (λ (a : Outcome Answer). end_by size a (printed CheckService file)) F.answers

  -- with room for it, or not
  text-ending : (service : Service) → Found service file
      → Ending service file size (text_end size (printed service file))
  unfolding text_end filled
  text-ending service F =
      if-cases (Ending service file size) (leb (length (printed service file)) size)
      (λ e. laid F (leb-true _ _ e) refl (take-append_seam (printed service file) _))
      (λ e. short F (leb-false _ _ e) refl (filled-nothing 0 size))

  -- EVERY CALL ends in one of them
  pub ending : (service : Service) → Ending service file size (call_end service file size)
  unfolding call_end end_by
  ending service = go (case-of service file)
    where
      go : Case service file → Ending service file size (call_end service file size)
      go (refuses number place q r) =
          let e = ap (λ (a : Outcome Answer). end_by size a (printed service file)) q in
          turned number place q r (ap (λ (x : CallEnd). x.result) e)
          (ap (λ (x : CallEnd). x.area) e ∙ filled-nothing 0 size)
      go (finds F) = subst (Ending service file size) (sym (found-text service F)) (text-ending service F)
