-- `take_row` meets its contract. The invariant: the images at the positions up to `p` are taken. Assumes nothing.
use native.Mathlib.Omega.{arith}
use lib.Seq.{take_all}
use Rattle.definitions.specs.Split.{placed_orbit}
use Rattle.vectors.specs.Bounds.{headroom}
use Rattle.reduction.specs.Areas.{sequences_in}
use Rattle.reduction.proofs.Lent.{image-within, sequences-count}
use Rattle.pieces.proofs.Joining.{takes-nothing}
use Rattle.pieces.proofs.Turns.{ready-position, takes-position}
use Rattle.pieces.proofs.take_row.Goals as goal

pub loop-p-init : goal.loop-p-init
unfolding placed_orbit
loop-p-init c = takes-nothing c.args.t c.args.pieces.now

pub take_both-taken-requires-clause-ready : goal.take_both-taken-requires-clause-ready
take_both-taken-requires-clause-ready c =
    let counted = sequences-count c.args.shape c.args.table.now in
    ready-position c.args.row _ c.args.v c.loop-p.p (omega arith) c.loop-p.invariant counted c.requires.ready

pub take_both-taken-requires-clause-limited : goal.take_both-taken-requires-clause-limited
take_both-taken-requires-clause-limited c =
    rw c.image_at-image.ensures.image (image-within headroom _ c.args.v c.requires.limited)

pub loop-p-preserved : goal.loop-p-preserved
loop-p-preserved c =
    let counted = sequences-count c.args.shape c.args.table.now in
    takes-position c.args.row _ c.args.v c.loop-p.p (omega arith) c.loop-p.invariant
    c.image_at-image.result c.image_at-image.ensures.image c.take_both-taken.ensures.taken

pub returns : goal.returns
returns c =
    let sequences = sequences_in c.args.shape c.args.table.now in
    let counted = sequences-count c.args.shape c.args.table.now in
    record { taken = rw (take_all c.loop-p.p sequences (omega arith)) at c.loop-p.invariant }
