-- `split_sizes` meets its contract. Assumes nothing.
use Rattle.std.proofs.Common.{rules}
use Rattle.definitions.specs.Refusals.{first_fault}
use Rattle.moves.proofs.split_sizes.Goals as goal

pub returns-in_err-cells_fault : goal.returns-in_err-cells_fault
unfolding first_fault
returns-in_err-cells_fault c = search rules

pub returns : goal.returns
unfolding first_fault
returns c = search rules
