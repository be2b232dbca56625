-- `admit` meets its contract: 5 to 9, and then 10, and 11 or 23. Assumes nothing.
use Rattle.std.proofs.Common.{rules}
use Rattle.definitions.specs.Refusals.{admission_fault, first_fault, order_fault, unless_fault}
use Rattle.theory.proofs.Sizes.{sizes-of-order}
use Rattle.admission.proofs.admit.Goals as goal

pub tabulate-requires : goal.tabulate-requires
unfolding first_fault
tabulate-requires c = search (rules, sizes-of-order)

pub returns-in_err-sent_fault : goal.returns-in_err-sent_fault
unfolding unless_fault admission_fault order_fault first_fault
returns-in_err-sent_fault c = search rules

pub returns : goal.returns
unfolding unless_fault admission_fault order_fault first_fault
returns c = search rules
