-- `pieces_fault` meets its contract. Assumes nothing.
use Rattle.std.proofs.Common.{rules}
use Rattle.definitions.specs.Refusals.{first_fault}
use Rattle.moves.proofs.pieces_fault.Goals as goal

pub returns-in_err-fault_if : goal.returns-in_err-fault_if
unfolding first_fault
returns-in_err-fault_if c = search rules

pub returns : goal.returns
unfolding first_fault
returns c = search rules
