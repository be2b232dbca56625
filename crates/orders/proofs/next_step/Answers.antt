-- `next_step` meets its contract: a command that was read stands inside the order. Assumes nothing.
use mathlib.Core.Path.{sym}
use native.Mathlib.Omega.{arith}
use Rattle.commands.proofs.Known.{known_at}
use Rattle.orders.proofs.next_step.Goals as goal

pub past-t-requires : goal.past-t-requires
past-t-requires c =
    let a = c.args in
    let o = known_at a.order.now a.s.at c.in-Known.command (sym c.in-Known.ensures.due) in
    record { within = (c.requires.within, omega arith) }
