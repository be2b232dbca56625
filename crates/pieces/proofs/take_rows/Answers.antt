-- `take_rows` meets its contract. The invariant: the images of the rows up to `i` are taken. Assumes nothing.
use mathlib.Core.Path.{◌∙◌}
use native.Mathlib.Omega.{arith}
use lib.Seq.{take_all}
use Rattle.definitions.specs.Split.{placed_orbits}
use Rattle.theory.proofs.Rows.{row_at, rows-count}
use Rattle.vectors.specs.Bounds.{headroom}
use Rattle.reduction.specs.Areas.{rows_at}
use Rattle.reduction.proofs.Lent.{row_within, sequences-count}
use Rattle.pieces.proofs.Joining.{takes-nothing}
use Rattle.pieces.proofs.Turns.{ready-row, takes-row}
use Rattle.pieces.proofs.take_rows.Goals as goal

pub loop-i-init : goal.loop-i-init
unfolding placed_orbits
loop-i-init c = takes-nothing c.args.t c.args.pieces.now

pub take_row-taken-requires-clause-ready : goal.take_row-taken-requires-clause-ready
take_row-taken-requires-clause-ready c =
    let members = sequences-count c.args.shape c.args.table.now in
    let counted = rows-count c.args.shape.n c.args.k c.args.list.now in
    ready-row _ _ c.loop-i.i (omega arith) c.loop-i.invariant counted members c.requires.ready

pub take_row-taken-requires-clause-limited : goal.take_row-taken-requires-clause-limited
take_row-taken-requires-clause-limited c =
    rw c.load-row.ensures.made (row_within headroom c.args.list.now _ c.args.shape.n c.requires.listed.area.limited)

pub loop-i-preserved : goal.loop-i-preserved
loop-i-preserved c =
    let counted = rows-count c.args.shape.n c.args.k c.args.list.now in
    takes-row _ _ c.loop-i.i (omega arith) c.loop-i.invariant c.load-row.result
    (c.load-row.ensures.made ∙ row_at c.args.shape.n c.args.k c.loop-i.i c.args.list.now c.loop-i-test.true)
    c.take_row-taken.ensures.taken

pub returns : goal.returns
returns c =
    let rows = rows_at c.args.shape.n c.args.k c.args.list.now in
    let counted = rows-count c.args.shape.n c.args.k c.args.list.now in
    record { taken = rw (take_all c.loop-i.i rows (omega arith)) at c.loop-i.invariant }
