-- `shared_fault` meets its contract. Assumes nothing.
use Rattle.std.proofs.Common.{rules}
use Rattle.definitions.specs.Refusals.{first_fault}
use Rattle.definitions.specs.Session.{shared_fault}
use Rattle.sessions.proofs.Differences.{size-test}
use Rattle.sessions.proofs.shared_fault.Goals as goal

pub returns-in_err-fault_if : goal.returns-in_err-fault_if
unfolding shared_fault first_fault
returns-in_err-fault_if c = search rules

pub returns : goal.returns
unfolding shared_fault first_fault
returns c = search (rules, size-test c.args.n c.args.list)
