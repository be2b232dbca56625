-- `put_line` meets its contract. The invariant: the first j numbers are written. Assumes nothing.
use mathlib.Core.Path.{ap}
use Rattle.std.proofs.lemmas.List.{take_all}
use native.Mathlib.Omega.{arith}
use Rattle.answers.specs.Answers.{numbers_text, line_text}
use Rattle.answers.proofs.Pages.{wrote_none, wrote-append, wrote_as}
use Rattle.answers.proofs.Lines.{numbers_more}
use Rattle.answers.proofs.put_line.Goals as goal

pub loop-j-init : goal.loop-j-init
unfolding numbers_text
loop-j-init c = wrote_none c.args.area.now c.args.at

pub loop-j-preserved : goal.loop-j-preserved
loop-j-preserved c =
    let o = c.loop-j in
    wrote_as (wrote-append o.invariant c.put_entry-end.ensures.wrote) (numbers_more c.args.line.now o.j (omega arith))

pub returns : goal.returns
unfolding line_text
returns c =
    let o = c.loop-j in
    let numbers = wrote_as o.invariant (ap numbers_text (take_all o.j c.args.line.now (omega arith))) in
    record { wrote = wrote-append numbers c.put_byte.ensures.wrote }
