-- `late_fault` meets its contract, test by test. Assumes nothing.
use Rattle.std.proofs.Common.{rules}
use Rattle.definitions.specs.Refusals.{first_fault}
use Rattle.sessions.proofs.late_fault.Goals as goal

pub lattice_fault-requires : goal.lattice_fault-requires
lattice_fault-requires c = record { numbered = c.requires.numbered (search rules) }

pub returns-in_err-early : goal.returns-in_err-early
unfolding first_fault
returns-in_err-early c = search rules

pub returns-in_err-fault_if : goal.returns-in_err-fault_if
unfolding first_fault
returns-in_err-fault_if c = search rules

pub returns : goal.returns
unfolding first_fault
returns c = search rules
