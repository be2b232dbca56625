-- `is_bounded` meets its contract. Assumes nothing.
use Rattle.std.proofs.Common.{arith}
use Rattle.std.proofs.lemmas.Int.{ints}
use Rattle.definitions.specs.Plan.{is_bounded}
use Rattle.costs.proofs.is_bounded.Goals as goal

pub returns : goal.returns
unfolding is_bounded
returns c = grind (arith, ints)
