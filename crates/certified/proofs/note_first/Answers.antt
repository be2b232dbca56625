-- `note_first` meets its contract. The loop's invariant: the first r rows are those of the first p generators, and their
-- coefficients are noted. Assumes nothing.
use Rattle.certified.proofs.FirstNotes.{first-end, first-onward, first_past, first-same, first-start}
use Rattle.certified.proofs.note_first.Goals as goal
use Rattle.certified.proofs.note_first.Goals.{then-r-stored, else-r-stored}

pub loop-p-init : goal.loop-p-init
loop-p-init c = λ h. first-start c.args.sizes.shape c.args.table.now c.args.basis.now c.args.coefficients.now

pub loop-p-preserved : goal.loop-p-preserved
loop-p-preserved c = λ h.
    elim c.if-r-stored.branch [
      | then-r-stored q ↦ first-same q.coefficients-is q.r-is (first-onward (c.requires.stored h) (c.loop-p.invariant h) c.loop-p-test.true q.if-r-stored.true q.note_generator-r.ensures.noted)
      | else-r-stored q ↦ first-same q.coefficients-is q.r-is (first_past (c.requires.stored h) (c.loop-p.invariant h) c.loop-p-test.true q.if-r-stored.false)
    ]

pub returns : goal.returns
returns c = record { noted = λ h. first-end (c.requires.stored h) (c.loop-p.invariant h) c.loop-p-test.false c.args.sizes.limit }
