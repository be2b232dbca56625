-- `afresh` meets its contract. The invariant: the extremes are those of the values from row `j` on, and of the value behind
-- them. Assumes nothing.
use Rattle.std.proofs.Common.{◌≤◌, [], ◌∷◌, ◌++◌}
use Rattle.figures.specs.Window.{Spans, values_in}
use Rattle.figures.proofs.afresh.Given as goal

abbrev pub invariant-loop-j : goal.invariant-loop-j
invariant-loop-j l =
    (l.from ≤ l.j) × Spans (values_in l.view l.answers l.j l.to ++ l.value ∷ []) (record { smallest = l.smallest; largest = l.largest })
