-- `sign` meets its contract, case by case. Assumes nothing.
use Rattle.definitions.specs.Split.{sign}
use Rattle.pieces.proofs.sign.Goals as goal

pub returns-then-positive : goal.returns-then-positive
unfolding sign
returns-then-positive c = record { sign = rw c.if-positive.true }

pub returns-else-positive : goal.returns-else-positive
unfolding sign
returns-else-positive c = record { sign = rw c.if-positive.false }
