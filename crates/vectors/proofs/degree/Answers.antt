-- `degree` meets its contract. The invariant: each sum, with that of the cells left, is the sum of all cells. Assumes
-- nothing.
use Rattle.std.proofs.Common.{arith, to_z-of_z}
use Rattle.vectors.proofs.Cells.{negative-part, positive-part}
use Rattle.vectors.proofs.Kit.{positive-cell, negative-cell}
use Rattle.vectors.proofs.degree.Goals as goal

pub loop-a-preserved : goal.loop-a-preserved
loop-a-preserved c =
    (omega arith, omega arith, grind (arith, to_z-of_z, positive-cell, positive-part, negative-part), grind (arith, to_z-of_z, negative-cell, positive-part, negative-part))
