-- `is_entry` meets its contract. Assumes nothing.
use Rattle.std.proofs.Common.{arith}
use Rattle.std.proofs.lemmas.Int.{ints}
use Rattle.definitions.specs.Window.{is_entry}
use Rattle.draws.proofs.is_entry.Goals as goal

pub returns : goal.returns
unfolding is_entry
returns c = grind (arith, ints)
