-- `short_at` meets its contract: the number of two bytes, with its sign. Assumes nothing.
use Rattle.std.proofs.Common.{arith}
use Rattle.std.proofs.lemmas.Int.{ints}
use Rattle.std.proofs.lemmas.Bool.Decides.{nat_tests}
use Rattle.commands.specs.Decode.{signed_of, little_at}
use Rattle.commands.proofs.short_at.Goals as goal

pub returns : goal.returns
unfolding signed_of little_at
returns c = record { number = grind (arith, ints, nat_tests) }
