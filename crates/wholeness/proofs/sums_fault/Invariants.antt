-- `sums_fault` meets its contract. The invariant: the sums that are left decide the test as all do, and those before them have
-- remainder zero. The measure: the number of those left. Assumes nothing.
use Prim.Native.Nat.{◌-◌}
use Rattle.wholeness.proofs.Trying.{Trying, all_sums}
use Rattle.wholeness.proofs.sums_fault.Given as goal

abbrev pub invariant-loop-s : goal.invariant-loop-s
invariant-loop-s l = Trying l.shape l.table l.rows l.s

abbrev pub decreases-loop-s : goal.decreases-loop-s
decreases-loop-s l = all_sums l.shape l.table l.rows - l.s.sums
