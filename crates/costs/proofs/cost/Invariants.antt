-- `cost` meets its contract. The invariant: the sum is the cost of the cells from `i` on. Assumes nothing.
use Rattle.std.proofs.Common.{◌≡◌, drop}
use Rattle.definitions.specs.Plan.{cost}
use Rattle.costs.proofs.cost.Given as goal

abbrev pub invariant-loop-i : goal.invariant-loop-i
invariant-loop-i l = l.sum ≡ cost (drop l.i l.costs) (drop l.i l.v)
