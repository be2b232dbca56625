-- `weight` meets its contract. The invariant: the sum and the weight of the cells left are the weight. Assumes
-- nothing.
use Rattle.std.proofs.Common.{◌≡◌, ◌≤◌, ◌+◌, ◌*◌, ◌^◌, drop}
use Rattle.definitions.specs.Vector.{weight}
use Rattle.vectors.proofs.weight.Given as goal

abbrev pub invariant-loop-a : goal.invariant-loop-a
invariant-loop-a l = (l.sum ≤ l.a-index * 2 ^ 32) × (l.sum + weight (drop l.a-index l.fn.v) ≡ weight l.fn.v)
