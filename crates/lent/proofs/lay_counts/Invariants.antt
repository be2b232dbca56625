-- `lay_counts` meets its contract. The loop's invariant: i numbers are laid. Assumes nothing.
use Prim.Native.Nat.{◌-◌}
use lib.ListN.{length, take}
use Rattle.lent.proofs.Laying.{Laying}
use Rattle.lent.proofs.lay_counts.Given as goal

abbrev pub invariant-loop-i : goal.invariant-loop-i
invariant-loop-i l = Laying (take l.k l.numbers) l.initial.area l.area l.i

abbrev pub decreases-loop-i : goal.decreases-loop-i
decreases-loop-i l = length l.initial.area - l.i
