-- `chain_fault` meets its contract: 14 is looked for only where 6 is not met. Assumes nothing.
use Rattle.std.proofs.Common.{rules}
use Rattle.definitions.specs.Refusals.{first_fault}
use Rattle.definitions.specs.Window.{chain_fault}
use Rattle.draws.proofs.chain_fault.Goals as goal

pub returns-in_err-fault_if : goal.returns-in_err-fault_if
unfolding chain_fault first_fault
returns-in_err-fault_if c = search rules

pub returns : goal.returns
unfolding chain_fault first_fault
returns c = search rules
