-- `read` meets its contract. The invariant: the numbers of the commands before `at` are in the area. Assumes nothing.
use Prim.Native.Nat.{◌-◌}
use lib.ListN.{length}
use Rattle.orders.specs.Walk.{numbers_in}
use Rattle.orders.proofs.Walks.{Walking}
use Rattle.orders.proofs.operands.read.Given as goal

abbrev pub invariant-loop-command : goal.invariant-loop-command
invariant-loop-command g l =
    Walking l.kind.code (numbers_in g.T.Number.number l.kind) l.order l.c l.initial.area l.area l.at l.filled

abbrev pub decreases-loop-command : goal.decreases-loop-command
decreases-loop-command g l = length l.order - l.at
