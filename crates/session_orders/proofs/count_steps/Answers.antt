-- `count_steps` meets its contract. The invariant: the count, and that of the steps from there on, are the count of all.
-- Assumes nothing.
use mathlib.Core.Path.{◌≡◌, sym, ◌∙◌, ap}
use mathlib.Core.Bool.{Bool, cond}
use mathlib.Core.List.{List, ◌∷◌}
use Prim.Native.Nat.{ℕ, suc, ◌+◌, ◌<◌}
use native.Mathlib.Numerals.{add-one}
use native.Mathlib.Omega.{arith}
use borrow.Author.Tests.{eq-eqb, ne_eqb}
use lib.Dec.{eqb}
use lib.ListN.{length, drop, get_or, drop_of_length-le}
use lib.Seq.{drop-cons}
use Rattle.definitions.specs.Session.{steps_of}
use Rattle.session_orders.proofs.count_steps.Goals as goal
use Rattle.session_orders.proofs.count_steps.Goals.{then-step-byte, else-step-byte}

-- the steps from place i on, by the test of the byte there
module _ (byte : ℕ) (steps : List ℕ) (i : ℕ) (inside : i < length steps) where
  abbrev rest : ℕ
  rest = steps_of byte (drop (i + 1) steps)

  steps-from : {b : Bool} → eqb (get_or steps i 0) byte ≡ b → steps_of byte (drop i steps) ≡ cond b (suc rest) rest
  unfolding steps_of
  steps-from e =
      ap (steps_of byte) (drop-cons steps i 0 inside ∙ ap (λ (k : ℕ). get_or steps i 0 ∷ drop k steps) (sym (add-one i)))
      ∙ ap (λ (b : Bool). cond b (suc rest) rest) e

pub loop-step-preserved : goal.loop-step-preserved
loop-step-preserved c =
    let steps = c.args.steps.now in
    let byte = c.args.byte in
    let i = c.loop-step.step-index in
    let inside : i < length steps = omega arith in (
      elim c.if-step-byte.branch [ then-step-byte w ↦ omega arith | else-step-byte w ↦ omega arith ],
      omega arith,
      elim c.if-step-byte.branch [
        | then-step-byte w ↦ omega (arith, steps-from byte steps i inside (eq-eqb _ _ w.if-step-byte.true))
        | else-step-byte w ↦ omega (arith, steps-from byte steps i inside (ne_eqb _ _ w.if-step-byte.false))
      ],
    )

pub returns : goal.returns
unfolding steps_of
returns c =
    let steps = c.args.steps.now in
    let byte = c.args.byte in record { counted = omega (arith, c.loop-step.invariant.2, ap (steps_of byte) (drop_of_length-le steps {i = c.loop-step.step-index} (omega arith))) }
