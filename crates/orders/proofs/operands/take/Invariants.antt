-- `take` meets its contract. The invariant: there is room, and the first `j` numbers stand behind those that were
-- filled. Assumes nothing.
use mathlib.Core.Path.{◌≡◌}
use Prim.Native.Nat.{◌+◌, ◌≤◌}
use lib.ListN.{length}
use lib.Seq.{paste}
use Rattle.orders.specs.Walk.{kind_numbers}
use Rattle.orders.proofs.operands.take.Given as goal

abbrev pub invariant-loop-j : goal.invariant-loop-j
invariant-loop-j g l =
    let numbers = kind_numbers g.T.Number.number l.kind l.order l.fn.command in
    (length numbers ≡ l.kind.count) × (l.filled + l.kind.count ≤ length l.initial.area) × (l.area ≡ paste l.initial.area l.filled numbers l.j)
