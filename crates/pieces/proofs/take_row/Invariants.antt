-- `take_row` meets its contract. The invariant: the images at the positions up to `p` are taken. Assumes nothing.
use lib.ListN.{take}
use Rattle.definitions.specs.Split.{placed_orbit}
use Rattle.reduction.specs.Areas.{sequences_in}
use Rattle.pieces.specs.Taking.{Takes}
use Rattle.pieces.proofs.take_row.Given as goal

abbrev pub invariant-loop-p : goal.invariant-loop-p
invariant-loop-p l =
    Takes (placed_orbit l.row 0 (take l.p (sequences_in l.shape l.table)) l.v) l.initial.taken l.initial.pieces l.pieces l.taken
