-- `draw_records` meets its contract: the records one by one, each with its answer row. Assumes nothing.
use Rattle.draws.proofs.Running.{Runs}
use Rattle.draws.proofs.draw_records.Given as goal

abbrev pub invariant-loop-i : goal.invariant-loop-i
invariant-loop-i l =
    Runs l.view l.extent l.list l.group l.initial.table l.records l.answers l.uses l.i l.figures l.table
