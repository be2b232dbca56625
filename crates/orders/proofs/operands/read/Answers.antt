-- `read` meets its contract. The invariant: the numbers of the commands before `at` are in the area. Assumes nothing.
use native.Mathlib.Omega.{arith}
use Rattle.orders.proofs.Walks.{walk_start, walk_inside, walk-room, walk_turn, walk_end}
use Rattle.orders.proofs.operands.read.Goals as goal

pub loop-command-init : goal.loop-command-init
loop-command-init g c = walk_start c.requires.readable

pub take-filled-requires-clause-inside : goal.take-filled-requires-clause-inside
take-filled-requires-clause-inside g c = λ e. omega (arith, c.requires.kind.1 _ e, walk_inside c.loop-command.invariant c.in-Known.ensures.due)

pub take-filled-requires-clause-room : goal.take-filled-requires-clause-room
take-filled-requires-clause-room g c = walk-room c.loop-command.invariant c.in-Known.ensures.due c.requires.room

pub behind-at-requires-clause-inside : goal.behind-at-requires-clause-inside
behind-at-requires-clause-inside g c = omega (arith, walk_inside c.loop-command.invariant c.in-Known.ensures.due)

pub loop-command-smaller : goal.loop-command-smaller
loop-command-smaller g c = omega (arith, walk_inside c.loop-command.invariant c.in-Known.ensures.due)

pub loop-command-preserved : goal.loop-command-preserved
loop-command-preserved g c = walk_turn c.loop-command.invariant c.in-Known.ensures.due c.behind-at.ensures.next c.take-filled.ensures.taken

pub returns : goal.returns
returns g c = record { read = walk_end c.loop-command.invariant c.command_at.ensures.due c.in_default.not-Known }
