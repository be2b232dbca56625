-- `take_steps` meets its contract. The invariant: the steps that are left come to the end of all. Assumes nothing.
use mathlib.Core.Path.{◌≡◌}
use lib.ListN.{length}
use Rattle.session_orders.specs.Ends.{taken_in}
use Rattle.session_orders.proofs.Turns.{Looped}
use Rattle.session_orders.proofs.take_steps.Given as goal

abbrev pub invariant-loop-left : goal.invariant-loop-left
invariant-loop-left l =
    Looped l.sizes l.table l.list l.marks l.keys l.c l.left (taken_in l.sizes l.table l.initial.list l.initial.c l.count)
    × (length l.list ≡ length l.initial.list)
    × (length l.marks ≡ length l.initial.marks)
    × (length l.keys ≡ length l.initial.keys)
