-- `reach` meets its contract. The invariant: the sum is that of the cells from `i` on, each less than 2 ^ 32.
-- Assumes nothing.
use Rattle.std.proofs.Common.{◌≡◌, ◌≤◌, ◌-◌, ◌*◌, ◌^◌, drop}
use Rattle.definitions.specs.Limits.{cells}
use Rattle.definitions.specs.Plan.{reach}
use Rattle.costs.proofs.reach.Given as goal

abbrev pub invariant-loop-i : goal.invariant-loop-i
invariant-loop-i l = (l.sum ≤ (cells - l.i) * 2 ^ 32) × (l.sum ≡ reach (drop l.i l.upper) (drop l.i l.x))
