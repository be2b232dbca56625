-- `scan` meets its contract. The invariant: what is left of the scan is the whole scan. Assumes nothing.
use mathlib.Core.Path.{sym}
use native.Mathlib.Omega.{arith}
use Rattle.orders.proofs.Scans.{going_start, going_on, going_end, moved}
use Rattle.orders.proofs.scan.Goals as goal

pub loop-t-init : goal.loop-t-init
loop-t-init c = going_start c.args.service c.args.order.now

pub loop-t-smaller : goal.loop-t-smaller
loop-t-smaller c =
    let o = c.loop-t in
    let m = moved c.args.service c.args.order.now o.s c.in-Next.t o.invariant.sound (sym c.in-Next.ensures.next) in
    omega (arith, m.0.within.inside, m.1)

pub loop-t-preserved : goal.loop-t-preserved
loop-t-preserved c = going_on c.args.service c.args.order.now c.loop-t.s c.in-Next.t c.loop-t.invariant (sym c.in-Next.ensures.next)

pub returns-in-Stop : goal.returns-in-Stop
returns-in-Stop c = record { scanned = going_end c.args.service c.args.order.now c.loop-t.s c.in-Stop.found c.loop-t.invariant (sym c.in-Stop.ensures.next) }
