-- What a call reports of an answer (Specification 1.1 and 9.4). Assumes nothing.
use Rattle.definitions.specs.Refusals.{Outcome, refused}
use Rattle.std.specs.Prelude.{if◌then◌else◌}
use mathlib.Core.Path.{◌≡◌, refl, sym, ap, ◌∙◌, subst}
use mathlib.Core.Bool.{Bool, true, false}
use mathlib.Core.List.{List, []}
use Prim.Native.Nat.{ℕ, ◌≤◌, ◌<◌}
use native.Mathlib.Omega.{arith}
use borrow.Author.Tests.{le-leb, lt-leb}
use lib.Dec.{leb}
use lib.IntN.{ℤ, pos}
use lib.ListN.{length, get_or}
use Rattle.definitions.specs.declared.Answer.{Answer}
use Rattle.definitions.specs.Lent.{filled}
use Rattle.answers.specs.Refusal.{refusal_of}
use Rattle.lent.specs.Ends.{Gives, Reports, counted, counts_of, if_roomy, result_of}
use Rattle.lent.specs.Promise.{Returned}

-- ---- numbers that are given

-- with room
pub gives_all : (numbers : List ℕ) (size : ℕ) {result : ℤ} {counts : List ℕ} → length numbers ≤ size
    → result ≡ pos (get_or numbers 0 0) → counts ≡ filled 0 size numbers → Gives numbers size result counts
gives_all numbers size h e f = record {
  results = rw (le-leb (length numbers) size h) e;
  counts_hold = rw (le-leb (length numbers) size h) f;
}

-- without
pub gives_none : (numbers : List ℕ) (size : ℕ) {result : ℤ} {counts : List ℕ} → size < length numbers
    → result ≡ refusal_of 6 0 → counts ≡ filled 0 size [] → Gives numbers size result counts
gives_none numbers size h e f = record {
  results = rw (lt-leb (length numbers) size h) e;
  counts_hold = rw (lt-leb (length numbers) size h) f;
}

-- ---- answers that are reported

-- the counts of an answer are given
pub reports-given : (answer : Outcome Answer) {size : ℕ} {result : ℤ} {counts : List ℕ}
    → result_of answer ≡ pos (get_or (counts_of answer) 0 0) → Gives (counts_of answer) size result counts
    → Reports answer size result counts
unfolding if_roomy
reports-given answer {size} e G = record {
  results = G.results ∙ first (leb (length (counts_of answer)) size);
  counts_hold = G.counts_hold ∙ ap (filled 0 size) (all (leb (length (counts_of answer)) size));
}
  where
    first : (b : Bool)
        → (if b then pos (get_or (counts_of answer) 0 0) else refusal_of 6 0) ≡ result_of (if b then answer else refused 6 0)
    first true = sym e
    first false = refl

    all : (b : Bool) → (if b then counts_of answer else []) ≡ counts_of (if b then answer else refused 6 0)
    all true = refl
    all false = refl

-- a refusal
pub reports-refused : {number place size : ℕ} {result : ℤ} {counts : List ℕ} → result ≡ refusal_of number place
    → counts ≡ filled 0 size [] → Reports (refused number place) size result counts
unfolding if_roomy
reports-refused {size = size} e f = record {
  results = rw (le-leb 0 size (omega arith)) e;
  counts_hold = rw (le-leb 0 size (omega arith)) f;
}

-- the same answer, said otherwise
pub reports-as : {answer answer' : Outcome Answer} {size : ℕ} {result : ℤ} {counts : List ℕ} → answer ≡ answer'
    → Reports answer' size result counts → Reports answer size result counts
reports-as {size = size} {result} {counts} e R = subst (λ (a : Outcome Answer). Reports a size result counts) (sym e) R

-- the same result, and the same size, said otherwise
pub reports-result : {answer : Outcome Answer} {size size' : ℕ} {result result' : ℤ} {counts : List ℕ} → size ≡ size'
    → result' ≡ result → Reports answer size result counts → Reports answer size' result' counts
reports-result {answer} {result' = result'} {counts} e f R =
    subst (λ (k : ℕ). Reports answer k result' counts) e
    (record { results = f ∙ R.results; counts_hold = R.counts_hold })

-- ---- what was returned
module _ {answer : Outcome Answer} {result : ℤ} {counts : List ℕ} (R : Reports answer (length counts) result counts) where
  -- the answer that was made
  returned-as : {made : Outcome Answer} → counted answer (length counts) ≡ made → Returned made result counts
  returned-as e = record {
    results = R.results ∙ ap result_of e;
    counts_hold = R.counts_hold ∙ ap (λ (a : Outcome Answer). filled 0 (length counts) (counts_of a)) e;
  }

  -- with room
  pub returned-all : leb (length (counts_of answer)) (length counts) ≡ true → Returned answer result counts
  unfolding if_roomy
  returned-all e = returned-as (rw e)

  -- without
  pub returned-none : leb (length (counts_of answer)) (length counts) ≡ false → Returned (refused 6 0) result counts
  unfolding if_roomy
  returned-none e = returned-as (rw e)

  -- a refusal is returned as it is
  pub returned-refusal : {number place : ℕ} → answer ≡ refused number place
      → Returned (refused number place) result counts
  returned-refusal e =
      subst (λ (a : Outcome Answer). Returned a result counts) e (returned-all (rw e (le-leb 0 (length counts) (omega arith))))
