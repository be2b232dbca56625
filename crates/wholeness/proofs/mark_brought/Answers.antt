-- `mark_brought` meets its contract. The invariant: the marks and keys of the rows before row `r` are set. Assumes nothing.
use Rattle.std.proofs.Common.{◌<◌, ◌≤◌, [], length, take, arith}
use Rattle.std.proofs.lemmas.List.{take_more}
use lib.Seq.{length-take-le, take_all}
use Rattle.definitions.specs.Lent.{vectors_of}
use Rattle.theory.proofs.CheckCall.{vectors-count}
use Rattle.vectors.specs.Bounds.{headroom}
use Rattle.vectors.proofs.Rows.{vectors-within}
use Rattle.wholeness.proofs.Given.{rows-limited}
use Rattle.wholeness.proofs.mark_brought.Goals as goal

pub mark_row-requires-clause-limited : goal.mark_row-requires-clause-limited
mark_row-requires-clause-limited c = rw c.vector_at-row.ensures.made (vectors-within headroom c.args.shape.n c.loop-r.r c.args.rows.now c.loop-r-test.true (rows-limited c.requires.brought))

pub loop-r-preserved : goal.loop-r-preserved
loop-r-preserved c =
    let vs = vectors_of c.args.shape.n c.args.rows.now in
    let here : c.loop-r.r < length vs = omega (arith, vectors-count c.args.shape.n c.args.rows.now) in
    rw (take_more vs c.loop-r.r [] here, ← c.vector_at-row.ensures.made) (c.mark_row.ensures.marked (take c.loop-r.r vs) (length-take-le c.loop-r.r vs (omega arith)) c.loop-r.invariant)

pub returns : goal.returns
returns c =
    let vs = vectors_of c.args.shape.n c.args.rows.now in
    let all : length vs ≤ c.loop-r.r = omega (arith, vectors-count c.args.shape.n c.args.rows.now) in
    record { marked = rw (take_all c.loop-r.r vs all) at c.loop-r.invariant }
