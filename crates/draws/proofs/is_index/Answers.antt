-- `is_index` meets its contract. Assumes nothing.
use Rattle.std.proofs.Common.{arith}
use Rattle.std.proofs.lemmas.Int.{ints}
use Rattle.definitions.specs.Window.{is_index}
use Rattle.draws.proofs.is_index.Goals as goal

pub returns : goal.returns
unfolding is_index
returns c = grind (arith, ints)
