-- `cost` meets its contract. The invariant: the sum is the cost of the cells from `i` on. Assumes nothing.
use Rattle.std.proofs.Common.{rules}
use Rattle.costs.proofs.Sums.{cost-none, sum_fits, sum-read}
use Rattle.costs.proofs.cost.Goals as goal

pub loop-i-init : goal.loop-i-init
loop-i-init c = search (rules, cost-none)

pub overflow_add-sum : goal.overflow_add-sum
overflow_add-sum c = search (rules, sum_fits)

pub loop-i-preserved : goal.loop-i-preserved
loop-i-preserved c = search (rules, sum-read)
