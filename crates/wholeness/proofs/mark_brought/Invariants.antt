-- `mark_brought` meets its contract. The invariant: the marks and keys of the rows before row `r` are set. Assumes nothing.
use lib.ListN.{take}
use Rattle.definitions.specs.Lent.{vectors_of}
use Rattle.reduction.specs.Areas.{sequences_in}
use Rattle.reduction.specs.Marks.{Marked}
use Rattle.wholeness.proofs.mark_brought.Given as goal

abbrev pub invariant-loop-r : goal.invariant-loop-r
invariant-loop-r l = Marked (sequences_in l.shape l.table) (take l.r (vectors_of l.shape.n l.rows)) l.marks l.keys
