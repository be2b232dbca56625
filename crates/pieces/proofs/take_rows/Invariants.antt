-- `take_rows` meets its contract. The invariant: the images of the rows up to `i` are taken. Assumes nothing.
use lib.ListN.{take}
use Rattle.definitions.specs.Split.{placed_orbits}
use Rattle.reduction.specs.Areas.{rows_at, sequences_in}
use Rattle.pieces.specs.Taking.{Takes}
use Rattle.pieces.proofs.take_rows.Given as goal

abbrev pub invariant-loop-i : goal.invariant-loop-i
invariant-loop-i l =
    Takes (placed_orbits 0 (sequences_in l.shape l.table) (take l.i (rows_at l.shape.n l.k l.list))) l.initial.taken l.initial.pieces l.pieces l.taken
