-- `put_head` meets its contract. The invariant: the first counts are written. Assumes nothing.
use mathlib.Core.List.{map}
use lib.ListN.{take}
use Rattle.definitions.specs.Lists.{concat}
use Rattle.answers.specs.Answers.{count_text}
use Rattle.answers.specs.Page.{Wrote}
use Rattle.answers.proofs.put_head.Given as goal

abbrev pub invariant-loop-count : goal.invariant-loop-count
invariant-loop-count l =
    Wrote l.initial.area l.area l.initial.end l.end (concat (map count_text (take l.count-index l.counts)))
