-- What holds of each command of the scan (Specification 8.3): where it goes on, where the order is accepted, where it is refused. Assumes nothing.
use Rattle.definitions.specs.Refusals.{Outcome, accepted}
use Rattle.std.specs.declared.result.Result.TheVariants.{Err}
use mathlib.Core.Path.{◌≡◌, refl}
use mathlib.Core.Bool.{Bool, false, ◌&&◌, ◌||◌}
use mathlib.Core.List.{List}
use Prim.Native.Nat.{ℕ, ◌+◌, ◌*◌, ◌≤◌, ◌<◌}
use native.Mathlib.Nat.{le_trans, mul-le-mul}
use native.Mathlib.Omega.{arith}
use lib.Dec.{leb, ltb}
use lib.ListN.{length, drop}
use borrow.Author.Tests.{leb-true, lt-ltb, ltb-true, ltb-false}
use Rattle.definitions.specs.Limits.{cells, generator_limit, exchange_limit, list_limit, bare_limit}
use Rattle.theory.proofs.Counting.{if-cases}
use Rattle.theory.proofs.Tests.{and-false-right, and-true-right, or-false-left, or-false-right}
use Rattle.commands.specs.declared.Command.{Command}
use Rattle.commands.specs.declared.Command.TheVariants.{End}
use Rattle.commands.specs.declared.Reading.{Reading}
use Rattle.commands.specs.declared.Reading.TheVariants.{Known, Unknown, Past}
use Rattle.commands.specs.Commands.{image_code, code_of, command_at, operands_of}
use Rattle.commands.specs.Decode.{byte_at}
use Rattle.commands.proofs.Known.{known_at}
use Rattle.orders.specs.declared.Service.{Service}
use Rattle.orders.specs.declared.Phase.{Phase}
use Rattle.orders.specs.declared.Phase.TheVariants.{Empty, Generators, Exchanges, Images, Vectors, Rows, Paired, Done}
use Rattle.orders.specs.declared.Counts.{Counts}
use Rattle.orders.specs.declared.Progress.{Progress}
use Rattle.orders.specs.declared.Step.{Step}
use Rattle.orders.specs.declared.Step.TheVariants.{Next, Stop}
use Rattle.orders.specs.Grammar.{counted_by, is_image_due, may_stand, one_if, too_many}
use Rattle.orders.specs.Scan.{Few, Within, refuse, past_by, passed, admitted, step_from, step_of}
use Rattle.orders.proofs.Grammar.{Head, generators, exchanges, Body, head, images, Stands, size, generator, exchange, image, next-image, vector, row, further, coefficients, list-end, split-end, check-end, paired-end, stands}
use Rattle.orders.proofs.Sizes.{Reached, length_most, in_head, in_body, far}

-- ---- what is kept

-- where an IMAGE came, all that are due have come
abbrev pub Exact : Counts → Type 0
Exact c = 1 ≤ c.images → c.exchanges * c.generators ≤ c.images

-- what is known of the IMAGEs that have come, by the phase
abbrev pub Imaged : Phase → Counts → Type 0
Imaged Empty c = c.images ≡ 0
Imaged Generators c = c.images ≡ 0
Imaged Exchanges c = c.images ≡ 0
Imaged Images c = Unit {0}
Imaged Vectors c = Exact c
Imaged Rows c = Exact c
Imaged Paired c = Exact c
Imaged Done c = Exact c

-- a scan that goes on
pub record Sound (order : List ℕ) (s : Progress) : Type 0 where
  pub within : Within order s
  pub reached : Reached s.at s.phase s.counts
  pub imaged : Imaged s.phase s.counts

-- a refusal: one of 1 to 6, at an offset of the order or at its end
pub record TurnedDown (order : List ℕ) (number place : ℕ) : Type 0 where
  pub least : 1 ≤ number
  pub most : number ≤ 6
  pub inside : place ≤ length order

-- what a scan answers: an accepted order keeps the limits, and has all IMAGEs or none
abbrev pub Answered : (order : List ℕ) → Outcome Counts → Type 0
Answered order (accepted c) = (Few c × (length order ≤ length_most)) × Exact c
Answered order (Err r) = TurnedDown order r.number r.place

-- where a command at `at` goes on, it does so further on
abbrev pub Kept : (order : List ℕ) (at : ℕ) → Step → Type 0
Kept order at (Next t) = Sound order t × (at < t.at)
Kept order at (Stop found) = Answered order found

-- a refusal with one of the numbers 1 to 6
refused-at : (order : List ℕ) (at number place : ℕ) → 1 ≤ number → number ≤ 6 → place ≤ length order → Kept order at (refuse number place)
refused-at order at number place l m h = record { least = l; most = m; inside = h }

-- ---- the IMAGEs

-- none came before the exchanges
head-imaged : (c : Counts) {h : Phase} → Head h → Imaged h c → c.images ≡ 0
head-imaged c generators i = i
head-imaged c exchanges i = i

-- what closes stands where none is left
body-exact : (c : Counts) {due : Bool} {h : Phase} → Body due h → is_image_due c ≡ due → Imaged h c → Exact c
unfolding is_image_due
body-exact c (head k) e i some = absurd (omega (arith, head-imaged c k i))
body-exact c images e i some = ltb-false c.images (c.exchanges * c.generators) e

-- an IMAGE that stands is due
images-due : {v : Service} {due : Bool} {h : Phase} {x : Command} (c : Counts) → Stands v due h x → is_image_due c ≡ due → Few c → c.images + one_if x image_code ≤ c.exchanges * c.generators
unfolding one_if is_image_due
images-due c (image p) e few = omega (arith, ltb-true c.images (c.exchanges * c.generators) e)
images-due c (next-image p) e few = omega (arith, ltb-true c.images (c.exchanges * c.generators) e)
images-due c (size p) e few = omega arith
images-due c (generator p) e few = omega arith
images-due c (exchange p k) e few = omega arith
images-due c (vector p k) e few = omega arith
images-due c (row p k) e few = omega arith
images-due c (further p) e few = omega arith
images-due c (coefficients p) e few = omega arith
images-due c (list-end p k) e few = omega arith
images-due c (split-end p) e few = omega arith
images-due c (check-end p k) e few = omega arith
images-due c (paired-end p) e few = omega arith

-- what is due becomes no less
still-due : (c : Counts) (x : Command) → c.images + one_if x image_code ≤ c.exchanges * c.generators → (counted_by c x).images ≤ (counted_by c x).exchanges * (counted_by c x).generators
still-due c x h = le_trans h (mul-le-mul (omega arith) (omega arith))

-- ---- a whole command that may stand

-- what the test of 6 says of the counts with a command, of so many cells and IMAGEs
few-of : (c : Counts) → too_many c ≡ false → c.cells ≤ cells → c.images ≤ c.exchanges * c.generators → Few c
few-of c e n i =
    let a = ltb generator_limit c.generators in
    let b = ltb exchange_limit c.exchanges in
    let d = ltb list_limit c.rows in
    let bare = ltb 0 c.images && ltb bare_limit c.generators in
    let f = or-false-left (a || b || d) bare e in
    let g = or-false-left (a || b) d f in
    record {
      cells-ok = n;
      generators-ok = ltb-false generator_limit c.generators (or-false-left a b g);
      exchanges-ok = ltb-false exchange_limit c.exchanges (or-false-right a b g);
      images-ok = i;
      rows_ok = ltb-false list_limit c.rows (or-false-right (a || b) d f);
      bare-ok = λ h. ltb-false bare_limit c.generators (and-false-right (ltb 0 c.images) (ltb bare_limit c.generators) (or-false-right (a || b || d) bare e) (lt-ltb 0 c.images (omega arith)));
    }

-- what is known of it
record May (order : List ℕ) (due : Bool) (s : Progress) (x : Command) : Type 0 where
  few : Few s.counts
  reached : Reached s.at s.phase s.counts
  imaged : Imaged s.phase s.counts
  told : is_image_due s.counts ≡ due
  starts : operands_of x ≡ s.at + 1
  within : Within order (past_by s x)

module _ (order : List ℕ) where
  abbrev progress : ℕ → Phase → Counts → Progress
  progress at h c = record { at = at; phase = h; counts = c }

  -- END is the last byte
  ended : {due : Bool} (at : ℕ) (h : Phase) (c : Counts) (p : ℕ) → Exact c → May order due (progress at h c) (End p) → Kept order at (passed order (past_by (progress at h c) (End p)) (End p))
  unfolding passed one_if
  ended at h c p exact m =
      let starts = m.starts in
      if-cases (Kept order at) (ltb p (length order))
      (λ e. refused-at order at 4 p (omega arith) (omega arith) (let l = ltb-true p (length order) e in omega arith))
      (λ e. ((m.within.few, (let l = ltb-false p (length order) e in omega (arith, far h at c m.few m.reached))), (λ i. omega (arith, exact (omega arith)))))

  -- each command in its turn
  kept-passed : {v : Service} {due : Bool} {h : Phase} {x : Command} (at : ℕ) (c : Counts) → Stands v due h x → May order due (progress at h c) x → Kept order at (passed order (past_by (progress at h c) x) x)
  unfolding passed one_if
  kept-passed at c (size p) m =
      let n = byte_at (drop p order) 0 in
      let starts = m.starts in
      let r = m.reached in
      let i = m.imaged in
      if-cases (Kept order at) (leb 1 n && leb n cells)
      (λ e.
      let few = m.within.few in
      let most = leb-true n cells (and-true-right (leb 1 n) (leb n cells) e) in (
        record {
          within = record {
            inside = m.within.inside;
            few = record { cells-ok = most; generators-ok = few.generators-ok; exchanges-ok = few.exchanges-ok; images-ok = few.images-ok; rows_ok = few.rows_ok; bare-ok = few.bare-ok };
          };
          reached = omega arith;
          imaged = omega arith;
        },
        omega arith,
      ))
      (λ e. refused-at order at 5 0 (omega arith) (omega arith) (omega arith))
  kept-passed at c (generator p) m =
      let few = m.few in
      let starts = m.starts in
      let r = m.reached in
      let i = m.imaged in
      (record { within = m.within; reached = omega arith; imaged = omega arith }, omega arith)
  kept-passed at c (exchange p k) m =
      let few = m.few in
      let starts = m.starts in
      let r = in_head at c k m.reached in
      let i = head-imaged c k m.imaged in
      (record { within = m.within; reached = omega arith; imaged = omega arith }, omega arith)
  kept-passed at c (image p) m = let few = m.few in let starts = m.starts in let r = m.reached in (record { within = m.within; reached = omega arith; imaged = tt }, omega arith)
  kept-passed at c (next-image p) m = let few = m.few in let starts = m.starts in let r = m.reached in (record { within = m.within; reached = omega arith; imaged = tt }, omega arith)
  kept-passed at c (vector p k) m =
      let few = m.few in
      let starts = m.starts in
      let r = in_body at c k m.reached in
      let exact = body-exact c k m.told m.imaged in
      (record { within = m.within; reached = omega arith; imaged = λ i. omega (arith, exact (omega arith)) }, omega arith)
  kept-passed at c (row p k) m =
      let few = m.few in
      let starts = m.starts in
      let r = in_body at c k m.reached in
      let exact = body-exact c k m.told m.imaged in
      (record { within = m.within; reached = omega arith; imaged = λ i. omega (arith, exact (omega arith)) }, omega arith)
  kept-passed at c (further p) m =
      let few = m.few in
      let starts = m.starts in
      let r = m.reached in
      (record { within = m.within; reached = omega arith; imaged = λ i. omega (arith, m.imaged (omega arith)) }, omega arith)
  kept-passed at c (coefficients p) m =
      let few = m.few in
      let starts = m.starts in
      let r = m.reached in
      (record { within = m.within; reached = omega arith; imaged = λ i. omega (arith, m.imaged (omega arith)) }, omega arith)
  kept-passed {v} {due} {h} at c (list-end p k) m = ended at h c p (body-exact c k m.told m.imaged) m
  kept-passed {v} {due} {h} at c (split-end p) m = ended at h c p m.imaged m
  kept-passed {v} {due} {h} at c (check-end p k) m = ended at h c p (body-exact c k m.told m.imaged) m
  kept-passed {v} {due} {h} at c (paired-end p) m = ended at h c p m.imaged m

  -- ---- one command

  -- a command that may stand
  kept-admitted : {v : Service} (s : Progress) (x : Command) → Sound order s → command_at order s.at ≡ Known x → Stands v (is_image_due s.counts) s.phase x → Kept order s.at (admitted order s.at (past_by s x) x)
  unfolding admitted
  kept-admitted s x sound k stand =
      let t = past_by s x in
      let w = sound.within.inside in
      if-cases (Kept order s.at) (too_many t.counts) (λ f. refused-at order s.at 6 s.at (omega arith) (omega arith) w) (λ f.
      if-cases (Kept order s.at) (ltb (length order) t.at) (λ g. refused-at order s.at 1 s.at (omega arith) (omega arith) w) (λ g.
      kept-passed s.at s.counts stand (record {
        few = sound.within.few;
        reached = sound.reached;
        imaged = sound.imaged;
        told = refl;
        starts = (known_at order s.at x k).0;
        within = record { inside = ltb-false (length order) t.at g; few = few-of t.counts f sound.within.few.cells-ok (still-due s.counts x (images-due s.counts stand refl sound.within.few)) };
      })))

  -- what stands there
  kept_from : (v : Service) (s : Progress) (r : Reading) → Sound order s → command_at order s.at ≡ r → Kept order s.at (step_from v order s r)
  unfolding step_from
  kept_from v s Past sound k = refused-at order s.at 1 (length order) (omega arith) (omega arith) (omega arith)
  kept_from v s Unknown sound k = refused-at order s.at 2 s.at (omega arith) (omega arith) sound.within.inside
  kept_from v s (Known x) sound k =
      if-cases (Kept order s.at) (may_stand v (is_image_due s.counts) s.phase (code_of x)) (λ e. kept-admitted s x sound k (stands v (is_image_due s.counts) s.phase x e))
      (λ e. refused-at order s.at 3 s.at (omega arith) (omega arith) sound.within.inside)

  -- one command
  pub kept : (v : Service) (s : Progress) → Sound order s → Kept order s.at (step_of v order s)
  unfolding step_of
  kept v s sound = kept_from v s (command_at order s.at) sound refl
