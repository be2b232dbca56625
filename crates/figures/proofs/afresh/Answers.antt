-- `afresh` meets its contract. The invariant: the extremes are those of the values from row `j` on, and of the value behind
-- them. Assumes nothing.
use Rattle.std.proofs.Common.{arith, rules}
use Rattle.figures.proofs.Values.{max-is, min-is, read_more, read_none}
use Rattle.figures.proofs.afresh.Goals as goal

pub loop-j-init : goal.loop-j-init
loop-j-init c = (omega arith, record { smallest = search (rules, read_none); largest = search (rules, read_none) })

pub loop-j-preserved : goal.loop-j-preserved
loop-j-preserved c = (omega arith, record { smallest = search (rules, min-is, read_more); largest = search (rules, max-is, read_more) })
