-- `take_steps` meets its contract. The invariant: the steps that are left come to the end of all. Assumes nothing.
use Rattle.definitions.specs.Refusals.{Outcome, accepted}
use Rattle.std.specs.declared.result.Result.TheVariants.{Err}
use mathlib.Core.Path.{◌≡◌, refl, ◌∙◌}
use native.Mathlib.Omega.{arith}
use Rattle.session_orders.proofs.Turns.{Looped, looped-end, looped-finished, looped_is, looped-next}
use Rattle.session_orders.proofs.Turns.{looped-stopped}
use Rattle.session_orders.specs.Ends.{Taken}
use mathlib.Core.List.{List}
use Prim.Native.Nat.{ℕ}
use lib.IntN.{ℤ}
use Rattle.definitions.specs.Completion as Defined
use Rattle.completion.specs.declared.Sizes.{Sizes}
use Rattle.completion.specs.declared.State.{State}
use Rattle.session_orders.proofs.take_steps.Goals as goal

-- a completion that is not under way was turned down
unless-running : {sizes : Sizes} {table : List ℕ} {list : List ℤ} {marks keys : List ℕ} {left : ℕ}
    {end : Defined.Completion} (c : Outcome State) → Looped sizes table list marks keys c left end
    → ((s : State) → c ≡ accepted s → ⊥) → Taken sizes table list marks keys end c
unless-running (Err r) L n = looped-stopped L refl
unless-running (accepted s) L n = absurd (n s refl)

pub loop-left-init : goal.loop-left-init
loop-left-init c = (record { standing = c.requires.standing; same = refl }, refl, refl, refl)

pub returns-in_default : goal.returns-in_default
returns-in_default c = record { taken = unless-running c.loop-left.c c.loop-left.invariant.0 c.in_default.not-Ok }

pub returns-then-s : goal.returns-then-s
returns-then-s c = record { taken = looped-finished (looped_is c.loop-left.invariant.0 c.in-Ok.is) (omega arith) }

pub step-c-requires : goal.step-c-requires
step-c-requires c = record { ready = (looped_is c.loop-left.invariant.0 c.in-Ok.is).standing.ready; left = omega arith }

pub loop-left-preserved : goal.loop-left-preserved
loop-left-preserved c =
    let i = c.loop-left.invariant in
    let L = looped_is i.0 c.in-Ok.is in
    let list-kept = c.step-c.auto.list in
    let marks-kept = c.step-c.auto.marks in (
      looped-next L (omega arith) list-kept marks-kept (omega arith) c.step-c.ensures.stepped,
      list-kept ∙ i.1,
      marks-kept ∙ i.2,
      c.step-c.auto.keys ∙ i.3,
    )

pub returns : goal.returns
returns c = record { taken = looped-end c.loop-left.invariant.0 (omega arith) }
