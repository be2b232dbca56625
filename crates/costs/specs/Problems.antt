-- The tests of a problem in lent areas, by the definitions (Specification 3.10). Assumes nothing.
use Rattle.definitions.specs.Refusals.{Fault}
use Rattle.std.specs.Prelude.{List, [], ℕ, ℤ, length}
use Rattle.definitions.specs.Refusals.{fault_where}
use Rattle.definitions.specs.Plan.{Problem, is_misplanned}
use Rattle.vectors.specs.Areas.{Lent}

-- what a planner sends, in lent areas
abbrev pub problem_in : (start upper costs : Lent ℤ) (budget : ℕ) → Problem
problem_in start upper costs budget =
    record { start = start.entry.now; upper = upper.entry.now; costs = costs.entry.now; budget = budget }

-- 26 of a start and its upper bounds
abbrev pub bounds_fault : (start upper : List ℤ) → Fault
bounds_fault start upper =
    fault_where 26 (length start) (is_misplanned (record { start = start; upper = upper; costs = []; budget = 0 }))
