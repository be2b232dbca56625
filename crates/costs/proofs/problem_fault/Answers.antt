-- `problem_fault` meets its contract: each test counts where those before it are not met. Assumes nothing.
use Rattle.std.proofs.Common.{arith, rules}
use Rattle.std.proofs.lemmas.Bool.Decides.{nat_tests}
use Rattle.definitions.specs.Plan.{is_misplanned, problem_fault, problem_fits}
use Rattle.definitions.specs.Refusals.{fault_if, first_fault}
use Rattle.costs.proofs.problem_fault.Goals as goal

pub returns-in_err-fault_if : goal.returns-in_err-fault_if
unfolding problem_fault first_fault
returns-in_err-fault_if c = search rules

pub bounds_fault-requires : goal.bounds_fault-requires
unfolding problem_fits fault_if
bounds_fault-requires c = grind (arith, nat_tests)

pub returns-in_err-bounds_fault : goal.returns-in_err-bounds_fault
unfolding problem_fault first_fault is_misplanned
returns-in_err-bounds_fault c = search rules

pub returns : goal.returns
unfolding problem_fault first_fault is_misplanned
returns c = search rules
