-- How a C call ends and what a program prints, by what was written into the answer area (Specification 9.4). Assumes
-- nothing.
use Rattle.definitions.specs.declared.Refusal.{Refusal}
use Rattle.definitions.specs.Refusals.{Outcome, accepted, refused}
use Rattle.std.specs.declared.result.Result.TheVariants.{Err}
use mathlib.Core.Path.{◌≡◌, refl, sym, ◌∙◌, ap, ap₂}
use mathlib.Core.List.{List}
use Prim.Native.Nat.{ℕ, ◌-◌, ◌≤◌, ◌<◌}
use native.Mathlib.Omega.{arith}
use lib.IntN.{ℤ, pos}
use lib.ListN.{length, take, replicate}
use lib.Seq.{length-take-le, take-append_seam}
use borrow.Author.Tests.{le-leb, lt-leb}
use Rattle.definitions.specs.declared.Answer.{Answer}
use Rattle.definitions.specs.declared.Answer.TheVariants.{Moves, Split, Passed}
use Rattle.definitions.specs.Limits.{order_limit}
use Rattle.definitions.specs.Lent.{filled}
use Rattle.theory.proofs.Areas.{filled-nothing}
use Rattle.orders.specs.declared.Service.{Service}
use Rattle.answers.specs.Answers.{answer_text, rows_text}
use Rattle.answers.specs.Lengths.{text_limit}
use Rattle.answers.specs.Page.{Laid}
use Rattle.answers.specs.Refusal.{refusal_of}
use Rattle.answers.proofs.Pages.{laid-fits, laid-long}
use Rattle.answers.proofs.Refusals.{number-low}
use Rattle.promises.specs.Services.{CallEnd, call_end, end_by, printed, refused_end, served, text_end}
use Rattle.promises.specs.Promise.{ForInput, Prints}
use Rattle.promises.proofs.Bounds.{served-short}
use Rattle.promises.proofs.Cases.{served-reported}
use Rattle.promises.proofs.Prefix.{prints-input}
use Rattle.services.specs.Answered.{Ends, Serves, Small, TextIn}

-- ---- C calls

-- the same result, said otherwise
pub ends_as : {due : CallEnd} {result result' : ℤ} {area : List ℕ} → result' ≡ result → Ends due result area
    → Ends due result' area
ends_as e E = record { results = e ∙ E.results; area_holds = E.area_holds }

-- the same end, said otherwise
pub ends_same : {due due' : CallEnd} {result : ℤ} {area : List ℕ} → due ≡ due' → Ends due result area
    → Ends due' result area
ends_same e E =
    record
    { results = E.results ∙ ap (λ (x : CallEnd). x.result) e; area_holds = E.area_holds ∙ ap (λ (x : CallEnd). x.area) e }

-- any answer but a refusal ends with its text
pub ends-text : (size : ℕ) (answer : Outcome Answer) (text : List ℕ)
    → ((r : Refusal) → answer ≡ Err r → ⊥) → text_end size text ≡ end_by size answer text
unfolding end_by
ends-text size (accepted (Moves rows members stored sums)) text h = refl
ends-text size (accepted (Split pieces rows members stored sums)) text h = refl
ends-text size (accepted (Passed rows sums)) text h = refl
ends-text size (Err r) text h = absurd (h r refl)

-- an area of zeros after a refusal
pub ends-refused : (size number place : ℕ) {result : ℤ} {area : List ℕ} → result ≡ refusal_of number place
    → area ≡ replicate size 0 → Ends (refused_end size number place) result area
ends-refused size number place e z = record { results = e; area_holds = z ∙ sym (filled-nothing 0 size) }

module _ {n : ℕ} {area : List ℕ} {end : ℕ} {text : List ℕ} (w : Laid n area end text) where
  -- a text that fits
  pub ends-laid : end ≤ n → Ends (text_end n text) (pos end) area
  unfolding text_end
  ends-laid h =
      let f = laid-fits w h in
      ends_same (rw (le-leb (length text) n f.0)) (record { results = ap pos f.1; area_holds = f.2 })

  -- a text that is longer than the area
  pub ends-long : {result : ℤ} → n < end → result ≡ refusal_of 6 0 → Ends (text_end n text) result area
  unfolding text_end
  ends-long h e =
      let f = laid-long w h in
      ends_same (rw (lt-leb (length text) n f.0)) (ends-refused n 6 0 e f.2)

  -- ---- programs

  -- a text that fits stands at the start of the area
  pub text-laid : end ≤ n → length area ≡ n → TextIn text n end area
  text-laid h l =
      let f = laid-fits w h in
      let inside : end ≤ length area = omega arith in
      record {
        sized = l;
        counted = (inside, sym (length-take-le end area inside));
        counts = λ fits. f.1;
        area_holds = λ fits. f.2;
      }

  -- a text that is longer than the area
  pub text-long : n < end → length area ≡ n → TextIn text n 0 area
  text-long h l =
      let f = laid-long w h in
      record {
        sized = l;
        counted = (omega arith, sym (length-take-le 0 area (omega arith)));
        counts = λ fits. absurd (omega arith);
        area_holds = λ fits. absurd (omega arith);
      }

-- ---- what is served

-- the refusal of a file, if it is one, can be returned
small_of : (service : Service) (file : List ℕ) (answer : Outcome Answer) → (served service file).answer ≡ answer → Small answer
small_of service file (Err q) e =
    let r = served-reported service file q.number q.place e in
    (number-low r, r.near)
small_of service file (accepted (Moves rows members stored sums)) e = tt
small_of service file (accepted (Split pieces rows members stored sums)) e = tt
small_of service file (accepted (Passed rows sums)) e = tt

module _ (service : Service) (file : List ℕ) {answer : Outcome Answer} {width : ℕ} {numbers : List ℤ}
    (S : Serves (served service file) answer width numbers) where
  -- its text is the one that is printed
  served-text : rows_text answer width numbers ≡ printed service file
  unfolding printed
  served-text = ap₂ answer_text S.answers S.lines

  -- it can be returned
  pub served-returns : Small answer
  served-returns = small_of service file answer (sym S.answers)

  -- A C CALL that ends with what is served
  pub served-ends : (size : ℕ) {result : ℤ} {area : List ℕ}
      → Ends (end_by size answer (rows_text answer width numbers)) result area
      → Ends (call_end service file size) result area
  unfolding call_end
  served-ends size = ends_same (ap₂ (end_by size) S.answers served-text)

  -- A PROGRAM that prints it has room for it, where it has room for the longest text
  pub served-prints : {size count : ℕ} {area : List ℕ} → text_limit ≤ size
      → TextIn (rows_text answer width numbers) size count area → Prints service file count area
  unfolding filled
  served-prints {size} {count} {area} room T =
      let text = printed service file in
      let fits : length (rows_text answer width numbers) ≤ size =
      omega (arith, room, ap length served-text, served-short service file) in
      let counts : count ≡ length text = T.counts fits ∙ ap length served-text in
      let holds : area ≡ filled 0 size text = T.area_holds fits ∙ ap (filled 0 size) served-text in
      record {
        counts = counts;
        area_holds = holds ∙ ap (λ (k : ℕ). filled 0 k text) (sym T.sized);
        text = ap₂ take counts holds ∙ take-append_seam text (replicate (size - length text) 0);
      }

  -- for every input of which it read the first bytes, where it has room for enough of them
  pub served-input : (room : ℕ) {size count : ℕ} {area : List ℕ} → order_limit ≤ room → text_limit ≤ size
      → TextIn (rows_text answer width numbers) size count area
      → ForInput room file (λ input. Prints service input count area)
  served-input room enough roomy T = prints-input service enough (served-prints roomy T)
