-- `run` meets its contract. The invariant: the sums that are left come to the whole run's end. The measure: their number.
-- Assumes nothing.
use Prim.Native.Nat.{◌-◌}
use Rattle.certified.specs.Noting.{ran_in}
use Rattle.certified.proofs.Turns.{all_sums, Looped}
use Rattle.certified.proofs.run.Given as goal

abbrev pub invariant-loop-s : goal.invariant-loop-s
invariant-loop-s l =
    Looped l.sizes l.table l.list l.marks l.keys l.basis l.coefficients l.s (ran_in l.sizes l.table l.initial.list l.basis l.initial.coefficients l.initial.s)

abbrev pub decreases-loop-s : goal.decreases-loop-s
decreases-loop-s l = all_sums l.sizes l.table - l.s.sums
