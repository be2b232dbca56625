-- `degree` meets its contract. The invariant: each sum, with that of the cells left, is the sum of all cells. Assumes
-- nothing.
use Rattle.std.proofs.Common.{◌≡◌, ◌≤◌, ◌+◌, ◌*◌, ◌^◌, drop}
use Rattle.definitions.specs.Vector.{negative, positive_sum}
use Rattle.vectors.proofs.degree.Given as goal

abbrev pub invariant-loop-a : goal.invariant-loop-a
invariant-loop-a l =
    (l.positive_sum ≤ l.a-index * 2 ^ 32)
    × (l.negative_sum ≤ l.a-index * 2 ^ 32)
    × (l.positive_sum + positive_sum (drop l.a-index l.fn.v) ≡ positive_sum l.fn.v)
    × (l.negative_sum + positive_sum (negative (drop l.a-index l.fn.v)) ≡ positive_sum (negative l.fn.v))
