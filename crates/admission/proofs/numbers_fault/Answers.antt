-- `numbers_fault` meets its contract. Assumes nothing.
use Rattle.std.proofs.Common.{rules}
use Rattle.definitions.specs.Lent.{exchanges_of, generators_of}
use Rattle.definitions.specs.Refusals.{first_fault, numbers_fault}
use Rattle.admission.proofs.numbers_fault.Goals as goal

pub returns-in_err-past_fault : goal.returns-in_err-past_fault
unfolding numbers_fault generators_of exchanges_of first_fault
returns-in_err-past_fault c = search rules

pub returns-in_err-zero_fault : goal.returns-in_err-zero_fault
unfolding numbers_fault generators_of exchanges_of first_fault
returns-in_err-zero_fault c = search rules

pub returns : goal.returns
unfolding numbers_fault generators_of exchanges_of first_fault
returns c = search rules
