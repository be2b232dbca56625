-- The first bytes of an order decide its scan (Specification 8.3): a scan that goes on stays below the length of the longest order. Assumes nothing.
use Rattle.definitions.specs.Refusals.{Outcome, accepted}
use Rattle.std.specs.Prelude.{if◌then◌else◌}
use mathlib.Core.Path.{◌≡◌, refl, sym, ap, ◌∙◌}
use mathlib.Core.Bool.{◌&&◌}
use mathlib.Core.List.{List}
use Prim.Native.Nat.{ℕ, zero, suc, ◌+◌, ◌≤◌, ◌<◌}
use native.Mathlib.Decide.{dec_lt}
use native.Mathlib.Omega.{arith}
use lib.Dec.{leb}
use lib.ListN.{length, get_or, take, drop}
use lib.Seq.{take_all, length-take-le, get_or-take, get_or-drop}
use borrow.Author.Tests.{lt-ltb, le-ltb}
use Rattle.definitions.specs.Limits.{cells, order_limit}
use Rattle.commands.specs.declared.Command.{Command}
use Rattle.commands.specs.declared.Command.TheVariants.{Size, Generator, Exchange, Row, Coefficients, Vector, Image, End}
use Rattle.commands.specs.declared.Reading.{Reading}
use Rattle.commands.specs.declared.Reading.TheVariants.{Known, Unknown, Past}
use Rattle.commands.specs.Commands.{code_of, command_at, operands_of}
use Rattle.commands.specs.Decode.{byte_at}
use Rattle.commands.proofs.Known.{byte-at, known_at, past-only, width-most}
use Rattle.orders.specs.declared.Service.{Service}
use Rattle.orders.specs.declared.Progress.{Progress}
use Rattle.orders.specs.declared.Counts.{Counts}
use Rattle.orders.specs.declared.Step.{Step}
use Rattle.orders.specs.declared.Step.TheVariants.{Next, Stop}
use Rattle.orders.specs.Grammar.{is_image_due, may_stand}
use Rattle.orders.specs.Scan.{Within, refuse, past_by, sized_by, passed, admitted, step_from, step_of, after, scan_from, scan_of, start}
use Rattle.orders.proofs.Sizes.{length_most, far}
use Rattle.orders.proofs.Steps.{Sound}
use Rattle.orders.proofs.Scans.{moved, one_more, sound-start, accepted-few}

-- ---- one command

-- the bytes that decide are all there
module _ (order : List ℕ) (long : order_limit < length order) where
  -- so many
  prefix-long : length (take order_limit order) ≡ order_limit
  prefix-long = length-take-le order_limit order (omega arith)

  -- the same byte is read
  same-reading : (at : ℕ) → at < order_limit → command_at (take order_limit order) at ≡ command_at order at
  same-reading at h =
      let l : at < length (take order_limit order) = omega (arith, prefix-long) in
      let k : at < length order = omega arith in
      byte-at (take order_limit order) at (get_or order at 0) l (get_or-take order_limit order at 0 h) ∙ sym (byte-at order at (get_or order at 0) k refl)

  -- a whole command that may stand
  same-passed : (t : Progress) (c : Command) → operands_of c < order_limit → passed (take order_limit order) t c ≡ passed order t c
  unfolding passed
  same-passed t (Size p) h =
      let byte : byte_at (drop p (take order_limit order)) 0 ≡ byte_at (drop p order) 0 =
      get_or-drop p (take order_limit order) 0 0 ∙ get_or-take order_limit order (p + 0) 0 (omega arith) ∙ sym (get_or-drop p order 0 0) in
      ap (λ (n : ℕ). if leb 1 n && leb n cells then Next (sized_by t n) else refuse 5 0) byte
  same-passed t (End p) h =
      let l : p < length (take order_limit order) = omega (arith, prefix-long) in
      let k : p < length order = omega arith in
      rw (lt-ltb p (length (take order_limit order)) l, lt-ltb p (length order) k)
  same-passed t (Generator p) h = refl
  same-passed t (Exchange p) h = refl
  same-passed t (Row p) h = refl
  same-passed t (Coefficients p) h = refl
  same-passed t (Vector p) h = refl
  same-passed t (Image p) h = refl

  -- a known command
  same-admitted : (at : ℕ) (t : Progress) (c : Command) → operands_of c < order_limit → t.at ≤ order_limit → admitted (take order_limit order) at t c ≡ admitted order at t c
  unfolding admitted
  same-admitted at t c h k =
      let l : t.at ≤ length (take order_limit order) = omega (arith, prefix-long) in
      let m : t.at ≤ length order = omega arith in
      let e = same-passed t c h in
      rw (le-ltb (length (take order_limit order)) t.at l, le-ltb (length order) t.at m, e)

  -- a command as far as a scan comes
  same_from : (v : Service) (s : Progress) (r : Reading) → Within order s → s.at < length_most → command_at order s.at ≡ r → step_from v (take order_limit order) s r ≡ step_from v order s r
  unfolding step_from
  same_from v s Past w h e = absurd (omega (arith, past-only order s.at e))
  same_from v s Unknown w h e = refl
  same_from v s (Known c) w h e =
      let behind = (known_at order s.at c e).0 in
      let width = width-most c s.counts.cells s.counts.generators in
      let few = w.few in
      ap (λ (x : Step). if may_stand v (is_image_due s.counts) s.phase (code_of c) then x else refuse 3 s.at) (same-admitted s.at (past_by s c) c (omega arith) (omega arith))

  -- one command of the scan
  same_step : (v : Service) (s : Progress) → Within order s → s.at < length_most → step_of v (take order_limit order) s ≡ step_of v order s
  unfolding step_of
  same_step v s w h =
      ap (step_from v (take order_limit order) s) (same-reading s.at (omega arith))
      ∙ same_from v s (command_at order s.at) w h refl

-- ---- the scan

-- the same step, and the same answers where it goes on
same_after : (x : Step) (one two : Progress → Outcome Counts) → ((t : Progress) → x ≡ Next t → one t ≡ two t) → after x one ≡ after x two
unfolding after
same_after (Next t) one two h = h t refl
same_after (Stop found) one two h = refl

-- from any command on
same-scan : (order : List ℕ) → order_limit < length order → (v : Service) (f g : ℕ) (s : Progress) → Sound order s → order_limit < s.at + f → length order < s.at + g
    → scan_from f v (take order_limit order) s ≡ scan_from g v order s
same-scan order long v zero g s sound h k = absurd (omega (arith, far s.phase s.at s.counts sound.within.few sound.reached))
same-scan order long v (suc f) zero s sound h k = absurd (let w = sound.within.inside in omega arith)
same-scan order long v (suc f) (suc g) s sound h k =
    one_more v (take order_limit order) s f (same_step order long v s sound.within (far s.phase s.at s.counts sound.within.few sound.reached))
    ∙ same_after (step_of v order s) (scan_from f v (take order_limit order)) (scan_from g v order)
    (λ t e. let m = moved v order s t sound e in same-scan order long v f g t m.0 (omega (arith, m.1)) (omega (arith, m.1)))
    ∙ sym (one_more v order s g refl)

-- 8.3: the answer to a file is the answer to its first bytes
pub scan-prefix : (v : Service) (order : List ℕ) → scan_of v (take order_limit order) ≡ scan_of v order
unfolding scan_of
scan-prefix v order =
    elim (dec_lt order_limit (length order)) [
      | yes h ↦ same-scan order h v (suc (length (take order_limit order))) (suc (length order)) start (sound-start order) (omega (arith, prefix-long order h)) (omega arith)
      | no h ↦ ap (scan_of v) (take_all order_limit order (omega arith))
    ]

-- an accepted order is no longer than those, so that its numbers are those of its first bytes
pub accepted-whole : (v : Service) (order : List ℕ) (c : Counts) → scan_of v order ≡ accepted c → take order_limit order ≡ order
accepted-whole v order c e = take_all order_limit order (omega (arith, (accepted-few v order c e).1))
