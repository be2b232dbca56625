-- `scan` meets its contract. The invariant: what is left of the scan is the whole scan. Assumes nothing.
use Prim.Native.Nat.{◌-◌}
use lib.ListN.{length}
use Rattle.orders.proofs.Scans.{Going}
use Rattle.orders.proofs.scan.Given as goal

abbrev pub invariant-loop-t : goal.invariant-loop-t
invariant-loop-t l = Going l.service l.order l.s

abbrev pub decreases-loop-t : goal.decreases-loop-t
decreases-loop-t l = length l.order - l.s.at
