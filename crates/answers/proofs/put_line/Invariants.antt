-- `put_line` meets its contract. The invariant: the first j numbers are written. Assumes nothing.
use lib.ListN.{take}
use Rattle.answers.specs.Answers.{numbers_text}
use Rattle.answers.specs.Page.{Wrote}
use Rattle.answers.proofs.put_line.Given as goal

abbrev pub invariant-loop-j : goal.invariant-loop-j
invariant-loop-j l = Wrote l.initial.area l.area l.at l.end (numbers_text (take l.j l.line))
