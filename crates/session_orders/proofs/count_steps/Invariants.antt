-- `count_steps` meets its contract. The invariant: the count, and that of the steps from there on, are the count of all.
-- Assumes nothing.
use mathlib.Core.Path.{◌≡◌}
use Prim.Native.Nat.{◌+◌, ◌≤◌}
use lib.ListN.{length, drop}
use Rattle.definitions.specs.Session.{steps_of}
use Rattle.session_orders.proofs.count_steps.Given as goal

abbrev pub invariant-loop-step : goal.invariant-loop-step
invariant-loop-step l =
    (l.count ≤ l.step-index) × (l.step-index ≤ length l.steps) × (l.count + steps_of l.byte (drop l.step-index l.steps) ≡ steps_of l.byte l.steps)
