-- `put_rows` meets its contract. The invariant: the first i rows are written. Assumes nothing.
use native.Mathlib.Omega.{arith}
use Rattle.definitions.specs.Lists.{concat}
use Rattle.definitions.specs.Lent.{chunks}
use Rattle.answers.specs.Answers.{lines_text}
use Rattle.answers.proofs.Pages.{wrote_none, wrote-append, wrote_as}
use Rattle.answers.proofs.Lines.{lines_more}
use Rattle.answers.proofs.put_rows.Goals as goal

pub loop-i-init : goal.loop-i-init
unfolding lines_text chunks concat
loop-i-init c = (omega arith, wrote_none c.args.area.now c.args.at)

pub loop-i-preserved : goal.loop-i-preserved
loop-i-preserved c =
    let o = c.loop-i in (
      omega arith,
      wrote_as (wrote-append o.invariant.1 c.put_line-end.ensures.wrote)
          (lines_more c.args.width o.i o.from c.args.numbers.now o.invariant.0),
    )
