-- How a lent call for C ends, whichever it is: as the call without counts, or with a refusal. Assumes nothing.
use Rattle.definitions.specs.Refusals.{Outcome, refused}
use mathlib.Core.Path.{◌≡◌, refl, sym, ap₂, ◌∙◌}
use mathlib.Core.Bool.{Bool, true, false}
use mathlib.Core.List.{List}
use Prim.Native.Nat.{ℕ, zero, suc, ◌≤◌, ◌<◌}
use native.Mathlib.Omega.{arith}
use borrow.Author.Tests.{le-leb, le-ltb, leb-true}
use lib.Dec.{leb}
use lib.IntN.{ℤ, pos, neg_ℤ}
use lib.ListN.{length}
use lib.Signed.{lt_z}
use Rattle.definitions.specs.declared.Answer.{Answer}
use Rattle.theory.proofs.Refused.{Reported}
use Rattle.answers.specs.Refusal.{place_factor, refusal_code, refusal_of}
use Rattle.answers.proofs.Refusals.{number-low, refusal-negative, refusal-says}
use Rattle.lent.specs.Ends.{Reports, counts_of, if_roomy, result_of}
use Rattle.lent.specs.Promise.{Returned}
use Rattle.lent.proofs.Reporting.{returned-all, returned-none, returned-refusal}

-- ---- the sign of a result

-- a number that is not 0 has a negative below zero
below : (m : ℕ) → 1 ≤ m → lt_z (neg_ℤ (pos m)) (pos 0) ≡ true
below zero h = absurd (omega arith)
below (suc m) h = refl

-- so a refusal is below zero
pub refusal-below : (number place : ℕ) → 1 ≤ number → lt_z (refusal_of number place) (pos 0) ≡ true
unfolding refusal_of
refusal-below number place h = below (refusal_code number place) (omega arith)

-- and a count is not
pub count-above : (k : ℕ) → lt_z (pos k) (pos 0) ≡ false
count-above k = le-ltb k 0 (omega arith)

-- ---- the ends

-- an answer that is no refusal
abbrev pub Counts : Outcome Answer → Type 0
Counts answer = (k : ℕ) × (result_of answer ≡ pos k)

-- a call with its answer, and how it ends with a refusal
module _ {E : Type 0} (answer_of : E → Outcome Answer) (call : E) (refused_as : (number place : ℕ) → E) where
  -- what is due with a counts area of `size` numbers
  abbrev pub due : (size : ℕ) → E
  due size = if_roomy (answer_of call) size call (refused_as 6 0)

  -- the two ends of a call that reports its answer
  pub data Ending (result : ℤ) (counts : List ℕ) : Type 0 where
    given : Counts (answer_of call) → length (counts_of (answer_of call)) ≤ length counts → due (length counts) ≡ call
        → Returned (answer_of call) result counts → Ending result counts
    turned : (number place : ℕ) → 1 ≤ number → due (length counts) ≡ refused_as number place
        → Returned (refused number place) result counts → Ending result counts

  -- the two ends of the call itself: no refusal, or one that may be reported
  pub data Called : Type 0 where
    counts : Counts (answer_of call) → Called
    refuses : {last : ℕ} (number place : ℕ) → answer_of call ≡ refused number place → call ≡ refused_as number place
        → Reported last number place → Called

  module _ {result : ℤ} {area : List ℕ} (R : Reports (answer_of call) (length area) result area) where
    -- EVERY CALL ENDS in one of them
    pub ending : Called → Ending result area
    unfolding if_roomy
    ending (counts k) = go (leb (length (counts_of (answer_of call))) (length area)) refl
      where
        go : (b : Bool) → leb (length (counts_of (answer_of call))) (length area) ≡ b → Ending result area
        go true e = given k (leb-true _ _ e) (rw e) (returned-all R e)
        go false e = turned 6 0 (omega arith) (rw e) (returned-none R e)
    ending (refuses number place e f r) =
        let roomy : leb (length (counts_of (answer_of call))) (length area) ≡ true =
        rw e (le-leb 0 (length area) (omega arith)) in
        turned number place r.some (rw roomy f) (returned-refusal R e)

    -- a result that is a refusal, and not 6, is that of the call
    pub refusal-called : Called → (number place : ℕ) → 1 ≤ number → number < place_factor → ¬ (number ≡ 6)
        → result ≡ refusal_of number place → answer_of call ≡ refused number place
    refusal-called (counts k) number place some h other q =
        go (leb (length (counts_of (answer_of call))) (length area)) refl
      where
        go : (b : Bool) → leb (length (counts_of (answer_of call))) (length area) ≡ b
            → answer_of call ≡ refused number place
        go true e = refusal-negative number place k.0 some (sym q ∙ (returned-all R e).results ∙ k.1)
        go false e =
            absurd
            (other (sym (refusal-says 6 0 number place (omega arith) h (sym (returned-none R e).results ∙ q)).0))
    refusal-called (refuses a b e f r) number place some h other q =
        let s = refusal-says a b number place (number-low r) h (sym (returned-refusal R e).results ∙ q) in
        e ∙ ap₂ refused s.0 s.1
