-- THE C CALLS keep their promises (Specification 9.4 and 11): by the result and the area that the definition gives.
-- Assumes nothing.
use Rattle.definitions.specs.Refusals.{accepted, refused}
use mathlib.Core.Path.{◌≡◌, sym, ap, ap₂, ◌∙◌, subst}
use mathlib.Core.List.{List}
use Prim.Native.Nat.{ℕ, ◌≤◌}
use native.Mathlib.Omega.{arith}
use lib.IntN.{ℤ, pos, negsuc}
use lib.ListN.{length, replicate, take}
use Rattle.definitions.specs.declared.Answer.TheVariants.{Passed}
use Rattle.orders.specs.declared.Service.{Service}
use Rattle.orders.specs.declared.Service.TheVariants.{List as ListService, Split as SplitService}
use Rattle.orders.specs.declared.Service.TheVariants.{Check as CheckService}
use Rattle.answers.specs.Refusal.{refusal_of}
use Rattle.answers.proofs.Refusals.{number-low, refusal-negative, refusal-says}
use Rattle.promises.specs.Services.{call_end, printed, served}
use Rattle.promises.specs.Promise.{CallKept, CheckCalled, HandsOut, ListCalled, Listed, Outside, Parted}
use Rattle.promises.specs.Promise.{PassKept, Passing, SplitCalled}
use Rattle.promises.proofs.Orders.{Found}
use Rattle.promises.proofs.Meaning.{check-means, list-means, outside-split, passing-check, split-means}
use Rattle.promises.proofs.Meaning.{split-outside-file}
use Rattle.promises.proofs.Ends.{Ending, ending, laid, refused-result, short, turned}

-- ---- every call
module _ (service : Service) (file : List ℕ) (size : ℕ) {result : ℤ} {area : List ℕ}
    (r : result ≡ (call_end service file size).result) (a : area ≡ (call_end service file size).area) where
  -- a negative number leaves zeros
  pub call_kept : CallKept service file size result area
  call_kept = record { results = r; area_holds = a; zeros = λ k e. zeros k (sym r ∙ e) (ending file size service) }
    where
      zeros : (k : ℕ) → (call_end service file size).result ≡ negsuc k
          → Ending service file size (call_end service file size) → area ≡ replicate size 0
      zeros k e (turned number place q m x y) = a ∙ y
      zeros k e (short F h x y) = a ∙ y
      zeros k e (laid F h x y) = let z : ◌≡◌ {A = ℕ} 0 1 = cc in absurd (omega arith)

  -- what was found, and its text in the area
  pub record Lies (k : ℕ) : Type 0 where
    pub found : Found service file
    pub room : length (printed service file) ≤ size
    pub text : printed service file ≡ take k area

  -- so it is where the result is a length
  pub length-lies : (k : ℕ) → result ≡ pos k → Lies k
  length-lies k e = go (sym r ∙ e) (ending file size service)
    where
      go : (call_end service file size).result ≡ pos k → Ending service file size (call_end service file size) → Lies k
      go p (turned number place q m x y) = refusal-negative number place k m.some (sym x ∙ p)
      go p (short F h x y) = refusal-negative 6 0 k (omega arith) (sym x ∙ p)
      go p (laid F h x y) =
          let same : length (printed service file) ≡ k = cc in
          let here : take k area ≡ printed service file =
          ap (λ (n : ℕ). take n area) (sym same) ∙ ap (take (length (printed service file))) a ∙ y in
          record { found = F; room = h; text = sym here }

-- ---- the three calls

-- sukoreta_list
pub list-called : (file : List ℕ) (size : ℕ) {result : ℤ} {area : List ℕ}
    → result ≡ (call_end ListService file size).result → area ≡ (call_end ListService file size).area
    → ListCalled file size result area
list-called file size r a = record {
  call = call_kept ListService file size r a;
  accepted = λ k e.
      let l = length-lies ListService file size r a k e in
      subst (Listed file) l.text (list-means file l.found);
}

-- 15 alone has the result of 15
fifteen : (file : List ℕ) (size : ℕ) → (call_end SplitService file size).result ≡ refusal_of 15 0
    → Ending SplitService file size (call_end SplitService file size) → (served SplitService file).answer ≡ refused 15 0
fifteen file size p (turned number place q m x y) =
    let s = refusal-says number place 15 0 (number-low m) (omega arith) (sym x ∙ p) in
    q ∙ ap₂ refused s.0 s.1
fifteen file size p (short F h x y) =
    absurd (let s = refusal-says 6 0 15 0 (omega arith) (omega arith) (sym x ∙ p) in omega (arith, s.0))
fifteen file size p (laid F h x y) =
    refusal-negative 15 0 (length (printed SplitService file)) (omega arith) (sym p ∙ x)

-- sukoreta_split
pub split-called : (file : List ℕ) (size : ℕ) {result : ℤ} {area : List ℕ}
    → result ≡ (call_end SplitService file size).result → area ≡ (call_end SplitService file size).area
    → SplitCalled file size result area
split-called file size {result} {area} r a = record {
  call = call_kept SplitService file size r a;
  accepted = λ k e.
      let l = length-lies SplitService file size r a k e in
      subst (Parted file) l.text (split-means file l.found);
  outside = outside;
  exactly = λ P. (outside, λ O. r ∙ refused-result file size SplitService (outside-split file P O));
}
  where
    outside : result ≡ refusal_of 15 0 → Outside file
    outside q = split-outside-file file (fifteen file size (sym r ∙ q) (ending file size SplitService))

-- sukoreta_check
pub check-called : (file : List ℕ) (size : ℕ) {result : ℤ} {area : List ℕ}
    → result ≡ (call_end CheckService file size).result → area ≡ (call_end CheckService file size).area
    → CheckCalled file size result area
check-called file size {result} {area} r a = record {
  call = call_kept CheckService file size r a;
  accepted = λ k e.
      let l = length-lies CheckService file size r a k e in
      subst (PassKept file size) l.text (check-means file size l.found l.room);
  passes = λ text P. let p = passing-check file P in passes text P p.0 p.1 (ending file size CheckService);
}
  where
    passes : (text : List ℕ) → Passing file size text → {rows sums : ℕ}
        → (served CheckService file).answer ≡ accepted (Passed rows sums) → text ≡ printed CheckService file
        → Ending CheckService file size (call_end CheckService file size)
        → HandsOut text result area
    passes text P q e (turned number place q' m x y) = let z : ◌≡◌ {A = ℕ} 0 1 = cc in absurd (omega arith)
    passes text P q e (short F h x y) = absurd (let l = P.roomy in omega (arith, ap length e))
    passes text P q e (laid F h x y) = record {
      results = r ∙ x ∙ ap (λ (t : List ℕ). pos (length t)) (sym e);
      area_holds = ap₂ (λ (t s : List ℕ). take (length t) s) e a ∙ y ∙ sym e;
    }
