-- `refusal` meets its contract. Assumes nothing.
use Rattle.std.proofs.Common.{arith}
use Rattle.std.proofs.lemmas.Int.{ints}
use Rattle.answers.specs.Refusal.{refusal_of}
use Rattle.answers.proofs.refusal.Goals as goal

pub returns : goal.returns
unfolding refusal_of
returns c = record { refused = omega (arith, ints) }
