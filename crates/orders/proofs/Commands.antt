-- The commands of an accepted order: they are those that were counted, and the order has exactly their length (Specification 8.3). Assumes nothing.
use Rattle.definitions.specs.Refusals.{Outcome, accepted}
use mathlib.Core.Path.{◌≡◌, refl, sym, ap, subst, subst⁻¹, ◌∙◌}
use mathlib.Core.Bool.{Bool, false, ◌&&◌}
use mathlib.Core.List.{List, [], ◌∷◌}
use Prim.Native.Nat.{ℕ, zero, suc, ◌+◌, ◌*◌, ◌≤◌}
use native.Mathlib.Omega.{arith}
use lib.Dec.{leb, ltb}
use lib.ListN.{length, drop}
use borrow.Author.Tests.{leb-true, ltb-false}
use Rattle.definitions.specs.Limits.{cells}
use Rattle.theory.proofs.Counting.{if-cases}
use Rattle.theory.proofs.Members.{Each, each_nil, each-cons}
use Rattle.theory.proofs.Tests.{and-true-left}
use Rattle.commands.specs.declared.Command.{Command}
use Rattle.commands.specs.declared.Command.TheVariants.{Size, End}
use Rattle.commands.specs.declared.Reading.{Reading}
use Rattle.commands.specs.declared.Reading.TheVariants.{Known, Unknown, Past}
use Rattle.commands.specs.Commands.{generator_code, exchange_code, image_code, row_code, coefficients_code, vector_code, behind, code_of, command_at, operands_of}
use Rattle.commands.specs.Decode.{byte_at}
use Rattle.commands.proofs.Known.{known_at, past-at}
use Rattle.orders.specs.declared.Service.{Service}
use Rattle.orders.specs.declared.Service.TheVariants.{List as ListService, Split, Check}
use Rattle.orders.specs.declared.Phase.{Phase}
use Rattle.orders.specs.declared.Phase.TheVariants.{Empty, Generators, Exchanges, Images, Vectors, Rows, Paired, Done}
use Rattle.orders.specs.declared.Counts.{Counts}
use Rattle.orders.specs.declared.Progress.{Progress}
use Rattle.orders.specs.declared.Step.{Step}
use Rattle.orders.specs.Grammar.{counted_by, is_image_due, may_stand, one_if, phase_after, too_many}
use Rattle.orders.specs.Scan.{refuse, past_by, passed, admitted, step_from, step_of, after, scan_from, scan_of, start}
use Rattle.orders.specs.Operands.{LiesIn, Readable, bytes_of, commands_from, commands_in, many}
use Rattle.orders.proofs.Grammar.{Head, generators, exchanges, Body, head, images, Stands, size, generator, exchange, image, next-image, vector, row, further, coefficients, list-end, split-end, check-end, paired-end, stands}
use Rattle.orders.proofs.Scans.{accepted-exact, accepted-few}

-- ---- what is left of an accepted order

-- a row that was read is followed by its coefficients
abbrev owed : Phase → ℕ
owed Rows = 1
owed Empty = 0
owed Generators = 0
owed Exchanges = 0
owed Images = 0
owed Vectors = 0
owed Paired = 0
owed Done = 0

-- the vectors of a service
abbrev pub vector_count : Service → ℕ
vector_count ListService = 0
vector_count Split = 1
vector_count Check = 0

-- those that are still to be read
abbrev due : Service → Phase → ℕ
due v Empty = vector_count v
due v Generators = vector_count v
due v Exchanges = vector_count v
due v Images = vector_count v
due v Vectors = 0
due v Rows = 0
due v Paired = 0
due v Done = 0

-- the cells are known, and no generator follows
abbrev Fixed : (s c : Counts) (commands : List Command) → Type 0
Fixed s c commands = (c.cells ≡ s.cells) × (many generator_code commands ≡ 0)

-- what the counts c of the whole order owe to those so far, by the phase
abbrev Settled : Phase → (s c : Counts) (commands : List Command) → Type 0
Settled Empty s c commands = 1 ≤ c.cells
Settled Generators s c commands = c.cells ≡ s.cells
Settled Exchanges s c commands = Fixed s c commands
Settled Images s c commands = Fixed s c commands
Settled Vectors s c commands = Fixed s c commands
Settled Rows s c commands = Fixed s c commands
Settled Paired s c commands = Fixed s c commands
Settled Done s c commands = Fixed s c commands

-- the commands that are left at an offset, s being counted so far and c in all
record Left (v : Service) (order : List ℕ) (h : Phase) (at : ℕ) (s c : Counts) (commands : List Command) : Type 0 where
  whole : Each (LiesIn order c.cells c.generators) commands
  long : at + bytes_of c.cells c.generators commands ≡ length order
  generators-left : s.generators + many generator_code commands ≡ c.generators
  exchanges-left : s.exchanges + many exchange_code commands ≡ c.exchanges
  images-left : s.images + many image_code commands ≡ c.images
  rows_left : s.rows + many row_code commands ≡ c.rows
  coefficients-left : many coefficients_code commands ≡ many row_code commands + owed h
  vectors-left : many vector_code commands ≡ due v h
  settled : Settled h s c commands

-- among generators, exchanges and images
body-owed : {d : Bool} {h : Phase} → Body d h → owed h ≡ 0
body-owed (head generators) = refl
body-owed (head exchanges) = refl
body-owed images = refl

body-due : (v : Service) {d : Bool} {h : Phase} → Body d h → due v h ≡ vector_count v
body-due v (head generators) = refl
body-due v (head exchanges) = refl
body-due v images = refl

body-settled : (s c : Counts) (commands : List Command) {d : Bool} {h : Phase} → Body d h → Fixed s c commands → Settled h s c commands
body-settled s c commands (head generators) f = f.0
body-settled s c commands (head exchanges) f = f
body-settled s c commands images f = f

-- the cells are known there
body-sized : {d : Bool} {h : Phase} → Body d h → h ≡ Empty → ⊥
body-sized (head generators) e = let z : ◌≡◌ {A = ℕ} 0 1 = cc in omega arith
body-sized (head exchanges) e = let z : ◌≡◌ {A = ℕ} 0 1 = cc in omega arith
body-sized images e = let z : ◌≡◌ {A = ℕ} 0 1 = cc in omega arith

-- an exchange stands among them
headed : {h : Phase} → Head h → Body false h
headed k = head k

module _ (order : List ℕ) where
  -- END is the last command
  left_end : {v : Service} {d : Bool} {h : Phase} (at p : ℕ) (s : Counts) → Stands v d h (End p) → p ≡ at + 1 → length order ≡ p → Left v order h at s (counted_by s (End p)) (End p ∷ [])
  unfolding bytes_of many one_if
  left_end {v} {d} {h} at p s stand e l = record {
    whole = each-cons {x = End p} (omega arith) each_nil;
    long = omega arith;
    generators-left = omega arith;
    exchanges-left = omega arith;
    images-left = omega arith;
    rows_left = omega arith;
    coefficients-left = owes stand;
    vectors-left = dues stand;
    settled = settles stand;
  }
    where
      owes : {v : Service} {d : Bool} {h : Phase} → Stands v d h (End p) → 0 ≡ 0 + owed h
      owes (list-end p k) = omega (arith, body-owed k)
      owes (split-end p) = refl
      owes (check-end p k) = omega (arith, body-owed k)
      owes (paired-end p) = refl

      dues : {v : Service} {d : Bool} {h : Phase} → Stands v d h (End p) → 0 ≡ due v h
      dues (list-end p k) = sym (body-due ListService k)
      dues (split-end p) = refl
      dues (check-end p k) = sym (body-due Check k)
      dues (paired-end p) = refl

      settles : {v : Service} {d : Bool} {h : Phase} → Stands v d h (End p) → Settled h s (counted_by s (End p)) (End p ∷ [])
      settles (list-end p k) = body-settled s (counted_by s (End p)) (End p ∷ []) k (refl, refl)
      settles (split-end p) = (refl, refl)
      settles (check-end p k) = body-settled s (counted_by s (End p)) (End p ∷ []) k (refl, refl)
      settles (paired-end p) = (refl, refl)

  -- the operands of a command that goes on take with the counts of all what they take with those so far
  same_end : {v : Service} {d : Bool} {h : Phase} {x : Command} (at : ℕ) (s c : Counts) (commands : List Command) → Stands v d h x → Left v order (phase_after x) at (counted_by s x) c commands
      → behind x c.cells c.generators ≡ behind x s.cells s.generators
  unfolding one_if
  same_end at s c commands (size p) left = refl
  same_end at s c commands (generator p) left = let n = left.settled in omega arith
  same_end at s c commands (exchange p k) left = let n = left.settled.0 in omega arith
  same_end at s c commands (image p) left = let m = left.settled.1 in let g = left.generators-left in omega arith
  same_end at s c commands (next-image p) left = let m = left.settled.1 in let g = left.generators-left in omega arith
  same_end at s c commands (vector p k) left = let n = left.settled.0 in omega arith
  same_end at s c commands (row p k) left = let n = left.settled.0 in omega arith
  same_end at s c commands (further p) left = let n = left.settled.0 in omega arith
  same_end at s c commands (coefficients p) left = let m = left.settled.1 in let g = left.generators-left in omega arith
  same_end at s c commands (list-end p k) left = refl
  same_end at s c commands (split-end p) left = refl
  same_end at s c commands (check-end p k) left = refl
  same_end at s c commands (paired-end p) left = refl

  -- a command before those that are left, t being counted with it
  left-more : (v : Service) (h : Phase) (x : Command) (at : ℕ) (s t c : Counts) (commands : List Command) → operands_of x ≡ at + 1 → behind x c.cells c.generators ≤ length order
      → t.generators ≡ s.generators + one_if x generator_code → t.exchanges ≡ s.exchanges + one_if x exchange_code → t.images ≡ s.images + one_if x image_code → t.rows ≡ s.rows + one_if x row_code
      → one_if x coefficients_code + owed (phase_after x) ≡ one_if x row_code + owed h → one_if x vector_code + due v (phase_after x) ≡ due v h → Settled h s c (x ∷ commands)
      → Left v order (phase_after x) (behind x c.cells c.generators) t c commands → Left v order h at s c (x ∷ commands)
  unfolding bytes_of many
  left-more v h x at s t c commands starts fits g e i r owes dues settles left =
      let long = left.long in
      let gl = left.generators-left in
      let el = left.exchanges-left in
      let il = left.images-left in
      let rl = left.rows_left in
      let cl = left.coefficients-left in
      let vl = left.vectors-left in
      record {
        whole = each-cons {x = x} fits left.whole;
        long = omega arith;
        generators-left = omega arith;
        exchanges-left = omega arith;
        images-left = omega arith;
        rows_left = omega arith;
        coefficients-left = omega arith;
        vectors-left = omega arith;
        settled = settles;
      }

  -- a command that goes on
  left_step : {v : Service} {d : Bool} {h : Phase} {x : Command} (at : ℕ) (s c : Counts) (commands : List Command) → Stands v d h x → operands_of x ≡ at + 1 → behind x c.cells c.generators ≤ length order
      → Left v order (phase_after x) (behind x c.cells c.generators) (counted_by s x) c commands → (phase_after x ≡ Done → ⊥) → (h ≡ Empty → ⊥) → Left v order h at s c (x ∷ commands)
  unfolding one_if many
  left_step {v} {d} {h} {x} at s c commands (size p) starts fits left go sized = absurd (sized refl)
  left_step {v} {d} {h} {x} at s c commands (generator p) starts fits left go sized =
      left-more v h x at s (counted_by s x) c commands starts fits refl refl refl refl refl (omega arith) left.settled left
  left_step {v} {d} {h} {x} at s c commands (exchange p k) starts fits left go sized =
      left-more v h x at s (counted_by s x) c commands starts fits refl refl refl refl (omega (arith, body-owed (headed k))) (omega (arith, body-due v (headed k))) (body-settled s c (x ∷ commands) (headed k) (left.settled.0, omega (arith, left.settled.1))) left
  left_step {v} {d} {h} {x} at s c commands (image p) starts fits left go sized =
      left-more v h x at s (counted_by s x) c commands starts fits refl refl refl refl refl (omega arith) (left.settled.0, omega (arith, left.settled.1)) left
  left_step {v} {d} {h} {x} at s c commands (next-image p) starts fits left go sized =
      left-more v h x at s (counted_by s x) c commands starts fits refl refl refl refl refl (omega arith) (left.settled.0, omega (arith, left.settled.1)) left
  left_step {v} {d} {h} {x} at s c commands (vector p k) starts fits left go sized =
      left-more v h x at s (counted_by s x) c commands starts fits refl refl refl refl (omega (arith, body-owed k)) (omega (arith, body-due v k)) (body-settled s c (x ∷ commands) k (left.settled.0, omega (arith, left.settled.1))) left
  left_step {v} {d} {h} {x} at s c commands (row p k) starts fits left go sized =
      left-more v h x at s (counted_by s x) c commands starts fits refl refl refl refl (omega (arith, body-owed k)) (omega (arith, body-due v k)) (body-settled s c (x ∷ commands) k (left.settled.0, omega (arith, left.settled.1))) left
  left_step {v} {d} {h} {x} at s c commands (further p) starts fits left go sized =
      left-more v h x at s (counted_by s x) c commands starts fits refl refl refl refl refl refl (left.settled.0, omega (arith, left.settled.1)) left
  left_step {v} {d} {h} {x} at s c commands (coefficients p) starts fits left go sized =
      left-more v h x at s (counted_by s x) c commands starts fits refl refl refl refl refl refl (left.settled.0, omega (arith, left.settled.1)) left
  left_step {v} {d} {h} {x} at s c commands (list-end p k) starts fits left go sized = absurd (go refl)
  left_step {v} {d} {h} {x} at s c commands (split-end p) starts fits left go sized = absurd (go refl)
  left_step {v} {d} {h} {x} at s c commands (check-end p k) starts fits left go sized = absurd (go refl)
  left_step {v} {d} {h} {x} at s c commands (paired-end p) starts fits left go sized = absurd (go refl)

-- ---- the scan and the commands

module _ (order : List ℕ) (c : Counts) where
  abbrev n : ℕ
  n = c.cells

  abbrev m : ℕ
  m = c.generators

  -- a command that was read, and those behind it
  pub next-commands : (fuel at : ℕ) (x : Command) → command_at order at ≡ Known x → commands_from (suc fuel) order n m at ≡ x ∷ commands_from fuel order n m (behind x n m)
  unfolding commands_from
  next-commands fuel at x k = rw k

  -- no command is left
  pub no-commands : (fuel at : ℕ) → length order ≤ at → commands_from fuel order n m at ≡ []
  unfolding commands_from
  no-commands zero at h = refl
  no-commands (suc fuel) at h = rw (past-at order at h)

  -- what an accepted scan says of the commands that are left
  abbrev Says : (v : Service) (fuel : ℕ) → Progress → Outcome Counts → Type 0
  Says v fuel s found = found ≡ accepted c → Left v order s.phase s.at s.counts c (commands_from fuel order n m s.at)

  -- a refusal is no acceptance
  refused_says : (v : Service) (fuel : ℕ) (s : Progress) (rest : Progress → Outcome Counts) (number place : ℕ) → Says v fuel s (after (refuse number place) rest)
  unfolding after
  refused_says v fuel s rest number place e = absurd (let z : ◌≡◌ {A = ℕ} 0 1 = cc in omega arith)

  -- a command that goes on to t, where it says it of those behind
  says-next : {v : Service} {d : Bool} {h : Phase} {x : Command} (fuel at : ℕ) (s : Counts) → Stands v d h x → command_at order at ≡ Known x → behind x s.cells s.generators ≤ length order
      → Left v order (phase_after x) (behind x s.cells s.generators) (counted_by s x) c (commands_from fuel order n m (behind x s.cells s.generators))
      → (phase_after x ≡ Done → ⊥) → (h ≡ Empty → ⊥) → Left v order h at s c (commands_from (suc fuel) order n m at)
  says-next {v} {d} {h} {x} fuel at s stand k fits left go sized =
      let rest = commands_from fuel order n m (behind x s.cells s.generators) in
      let same = same_end order (behind x s.cells s.generators) s c rest stand left in
      let left' = subst⁻¹ (λ (a : ℕ). Left v order (phase_after x) a (counted_by s x) c (commands_from fuel order n m a)) same left in
      subst⁻¹ (Left v order h at s c) (next-commands fuel at x k)
      (left_step order at s c (commands_from fuel order n m (behind x n m)) stand (known_at order at x k).0 (omega arith) left' go sized)

  -- SIZE with so many cells
  sized-says : {v : Service} (fuel at : ℕ) (s : Counts) (p : ℕ) → command_at order at ≡ Known (Size p) → behind (Size p) 0 0 ≤ length order → (cells : ℕ) → 1 ≤ cells
      → Left v order Generators (behind (Size p) 0 0) (record { cells = cells; generators = s.generators + one_if (Size p) generator_code; exchanges = s.exchanges + one_if (Size p) exchange_code; images = s.images + one_if (Size p) image_code; rows = s.rows + one_if (Size p) row_code }) c (commands_from fuel order n m (behind (Size p) 0 0))
      → Left v order Empty at s c (commands_from (suc fuel) order n m at)
  unfolding one_if
  sized-says {v} fuel at s p k fits cells some left =
      subst⁻¹ (Left v order Empty at s c) (next-commands fuel at (Size p) k)
      (left-more order v Empty (Size p) at s _ c (commands_from fuel order n m (behind (Size p) n m)) (known_at order at (Size p) k).0 fits refl refl refl refl refl (omega arith) (let e = left.settled in omega arith) left)

  -- END, and nothing behind it
  end-says : {v : Service} {d : Bool} {h : Phase} (fuel at : ℕ) (s : Counts) (p : ℕ) → Stands v d h (End p) → command_at order at ≡ Known (End p) → behind (End p) s.cells s.generators ≤ length order
      → Says v (suc fuel) (record { at = at; phase = h; counts = s }) (after (passed order (past_by (record { at = at; phase = h; counts = s }) (End p)) (End p)) (scan_from fuel v order))
  unfolding passed after
  end-says {v} {d} {h} fuel at s p stand k fits =
      if-cases (λ (x : Step). Says v (suc fuel) (record { at = at; phase = h; counts = s }) (after x (scan_from fuel v order))) (ltb p (length order))
      (λ e. refused_says v (suc fuel) (record { at = at; phase = h; counts = s }) (scan_from fuel v order) 4 p)
      (λ e q.
      let last = ltb-false p (length order) e in
      let same : counted_by s (End p) ≡ c = cc in
      let starts = known_at order at (End p) k in
      let left = subst (λ (d : Counts). Left v order h at s d (End p ∷ [])) same (left_end order at p s stand starts.0 (omega arith)) in
      let none = no-commands fuel (behind (End p) n m) (omega arith) in
      subst⁻¹ (Left v order h at s c) (next-commands fuel at (End p) k ∙ ap (λ (l : List Command). End p ∷ l) none) left)

  -- a whole command that may stand, where it is said of every progress behind it
  says-passed : {v : Service} {d : Bool} {h : Phase} {x : Command} (fuel at : ℕ) (s : Counts) → Stands v d h x → command_at order at ≡ Known x → behind x s.cells s.generators ≤ length order
      → ((t : Progress) → Says v fuel t (scan_from fuel v order t))
      → Says v (suc fuel) (record { at = at; phase = h; counts = s }) (after (passed order (past_by (record { at = at; phase = h; counts = s }) x) x) (scan_from fuel v order))
  unfolding passed after
  says-passed {v} fuel at s (size p) k fits rest =
      let size_of = byte_at (drop p order) 0 in
      if-cases (λ (x : Step). Says v (suc fuel) (record { at = at; phase = Empty; counts = s }) (after x (scan_from fuel v order))) (leb 1 size_of && leb size_of cells)
      (λ e q. sized-says fuel at s p k fits size_of (leb-true 1 size_of (and-true-left (leb 1 size_of) (leb size_of cells) e)) (rest _ q))
      (λ e. refused_says v (suc fuel) (record { at = at; phase = Empty; counts = s }) (scan_from fuel v order) 5 0)
  says-passed {v} {d} fuel at s (generator p) k fits rest = λ q. says-next {d = d} fuel at s (generator p) k fits (rest _ q) (λ e. let z : ◌≡◌ {A = ℕ} 0 1 = cc in omega arith) (λ e. let z : ◌≡◌ {A = ℕ} 0 1 = cc in omega arith)
  says-passed {v} {d} fuel at s (exchange p h) k fits rest = λ q. says-next {d = d} fuel at s (exchange p h) k fits (rest _ q) (λ e. let z : ◌≡◌ {A = ℕ} 0 1 = cc in omega arith) (body-sized (headed h))
  says-passed fuel at s (image p) k fits rest = λ q. says-next fuel at s (image p) k fits (rest _ q) (λ e. let z : ◌≡◌ {A = ℕ} 0 1 = cc in omega arith) (λ e. let z : ◌≡◌ {A = ℕ} 0 1 = cc in omega arith)
  says-passed fuel at s (next-image p) k fits rest = λ q. says-next fuel at s (next-image p) k fits (rest _ q) (λ e. let z : ◌≡◌ {A = ℕ} 0 1 = cc in omega arith) (λ e. let z : ◌≡◌ {A = ℕ} 0 1 = cc in omega arith)
  says-passed fuel at s (vector p h) k fits rest = λ q. says-next fuel at s (vector p h) k fits (rest _ q) (λ e. let z : ◌≡◌ {A = ℕ} 0 1 = cc in omega arith) (body-sized h)
  says-passed fuel at s (row p h) k fits rest = λ q. says-next fuel at s (row p h) k fits (rest _ q) (λ e. let z : ◌≡◌ {A = ℕ} 0 1 = cc in omega arith) (body-sized h)
  says-passed {v} {d} fuel at s (further p) k fits rest = λ q. says-next {d = d} fuel at s (further p) k fits (rest _ q) (λ e. let z : ◌≡◌ {A = ℕ} 0 1 = cc in omega arith) (λ e. let z : ◌≡◌ {A = ℕ} 0 1 = cc in omega arith)
  says-passed {v} {d} fuel at s (coefficients p) k fits rest = λ q. says-next {d = d} fuel at s (coefficients p) k fits (rest _ q) (λ e. let z : ◌≡◌ {A = ℕ} 0 1 = cc in omega arith) (λ e. let z : ◌≡◌ {A = ℕ} 0 1 = cc in omega arith)
  says-passed fuel at s (list-end p h) k fits rest = end-says fuel at s p (list-end p h) k fits
  says-passed {v} {d} fuel at s (split-end p) k fits rest = end-says {d = d} fuel at s p (split-end p) k fits
  says-passed fuel at s (check-end p h) k fits rest = end-says fuel at s p (check-end p h) k fits
  says-passed {v} {d} fuel at s (paired-end p) k fits rest = end-says {d = d} fuel at s p (paired-end p) k fits

  -- a command that may stand
  says-admitted : {v : Service} {d : Bool} (fuel : ℕ) (s : Progress) (x : Command) → Stands v d s.phase x → command_at order s.at ≡ Known x → ((t : Progress) → Says v fuel t (scan_from fuel v order t))
      → Says v (suc fuel) s (after (admitted order s.at (past_by s x) x) (scan_from fuel v order))
  unfolding admitted
  says-admitted {v} fuel s x stand k rest =
      let P : Step → Type 0 = λ y. Says v (suc fuel) s (after y (scan_from fuel v order)) in
      if-cases P (too_many (past_by s x).counts) (λ e. refused_says v (suc fuel) s (scan_from fuel v order) 6 s.at) (λ e.
      if-cases P (ltb (length order) (past_by s x).at) (λ f. refused_says v (suc fuel) s (scan_from fuel v order) 1 s.at) (λ f.
      says-passed fuel s.at s.counts stand k (ltb-false (length order) (past_by s x).at f) rest))

  -- what stands there
  says-from : (v : Service) (fuel : ℕ) (s : Progress) (r : Reading) → command_at order s.at ≡ r → ((t : Progress) → Says v fuel t (scan_from fuel v order t))
      → Says v (suc fuel) s (after (step_from v order s r) (scan_from fuel v order))
  unfolding step_from
  says-from v fuel s Past k rest = refused_says v (suc fuel) s (scan_from fuel v order) 1 (length order)
  says-from v fuel s Unknown k rest = refused_says v (suc fuel) s (scan_from fuel v order) 2 s.at
  says-from v fuel s (Known x) k rest =
      if-cases (λ (y : Step). Says v (suc fuel) s (after y (scan_from fuel v order))) (may_stand v (is_image_due s.counts) s.phase (code_of x))
      (λ e. says-admitted fuel s x (stands v (is_image_due s.counts) s.phase x e) k rest) (λ e. refused_says v (suc fuel) s (scan_from fuel v order) 3 s.at)

  -- from any command on
  says : (v : Service) (fuel : ℕ) (s : Progress) → Says v fuel s (scan_from fuel v order s)
  unfolding scan_from step_of
  says v zero s = λ e. absurd (let z : ◌≡◌ {A = ℕ} 0 1 = cc in omega arith)
  says v (suc fuel) s = says-from v fuel s (command_at order s.at) refl (says v fuel)

-- ---- an accepted order

-- its counts keep the limits; its commands are whole, take all its bytes, and are those that were counted; it has all IMAGEs or none
pub record Accepted (v : Service) (order : List ℕ) (c : Counts) : Type 0 where
  pub readable : Readable order c
  pub long : length order ≡ bytes_of c.cells c.generators (commands_in order c)
  pub generators-many : many generator_code (commands_in order c) ≡ c.generators
  pub exchanges-many : many exchange_code (commands_in order c) ≡ c.exchanges
  pub images-many : many image_code (commands_in order c) ≡ c.images
  pub images-due : 1 ≤ c.images → c.images ≡ c.exchanges * c.generators
  pub rows-many : many row_code (commands_in order c) ≡ c.rows
  pub coefficients-many : many coefficients_code (commands_in order c) ≡ c.rows
  pub vectors-many : many vector_code (commands_in order c) ≡ vector_count v

pub accepted-order : (v : Service) (order : List ℕ) (c : Counts) → scan_of v order ≡ accepted c → Accepted v order c
unfolding scan_of commands_in
accepted-order v order c e =
    let left = says order c v (suc (length order)) start e in
    let g = left.generators-left in
    let x = left.exchanges-left in
    let i = left.images-left in
    let r = left.rows_left in
    let k = left.coefficients-left in
    let l = left.long in
    let few = (accepted-few v order c e).0 in
    record {
      readable = record { limited = record { some = left.settled; few = few }; whole = left.whole };
      long = omega arith;
      generators-many = omega arith;
      exchanges-many = omega arith;
      images-many = omega arith;
      images-due = λ h. omega (arith, accepted-exact v order c e h);
      rows-many = omega arith;
      coefficients-many = omega arith;
      vectors-many = left.vectors-left;
    }
