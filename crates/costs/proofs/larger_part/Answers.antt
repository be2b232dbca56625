-- `larger_part` meets its contract. Assumes nothing.
use Rattle.std.proofs.Common.{arith}
use Rattle.std.proofs.lemmas.Int.{ints}
use Rattle.definitions.specs.Plan.{is_bounded}
use Rattle.costs.proofs.larger_part.Goals as goal

pub overflow_sub-rest : goal.overflow_sub-rest
unfolding is_bounded
overflow_sub-rest c = grind (arith, ints)

pub overflow_cast-result : goal.overflow_cast-result
unfolding is_bounded
overflow_cast-result c = grind (arith, ints)

pub returns : goal.returns
unfolding is_bounded
returns c = grind (arith, ints)
