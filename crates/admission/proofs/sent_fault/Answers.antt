-- `sent_fault` meets its contract: 5 and 6, and then 7 to 9. Assumes nothing.
use Rattle.std.proofs.Common.{rules}
use Rattle.definitions.specs.Lent.{exchanges_of, generators_of}
use Rattle.definitions.specs.Refusals.{first_fault, numbers_fault}
use Rattle.theory.proofs.Accepted.{cells-none}
use Rattle.admission.proofs.sent_fault.Goals as goal

pub numbers_fault-requires : goal.numbers_fault-requires
numbers_fault-requires c = let d = cells-none c.args.n (search rules) in record { celled = (d.least, d.most) }

pub returns-in_err-cells_fault : goal.returns-in_err-cells_fault
unfolding first_fault
returns-in_err-cells_fault c = search rules

pub returns-in_err-size_fault : goal.returns-in_err-size_fault
unfolding first_fault
returns-in_err-size_fault c = search rules

pub returns : goal.returns
unfolding first_fault numbers_fault generators_of exchanges_of
returns c = search rules
