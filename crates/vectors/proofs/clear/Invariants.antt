-- `clear` meets its contract. The invariant: the area is that at entry with zeros from `at` to `i`. Assumes nothing.
use Rattle.std.proofs.Common.{◌≡◌, ◌≤◌, ◌-◌, length}
use Rattle.theory.proofs.Turns.{blanked}
use Rattle.vectors.proofs.clear.Given as goal

abbrev pub invariant-loop-i : goal.invariant-loop-i
invariant-loop-i g l = (l.i - l.at ≤ length l.area - l.at) × (l.area ≡ blanked l.zero l.initial.area l.at l.i)
