-- `early_fault` meets its contract: the shared tests, the order's own up to 9, and a differing exchange. Assumes nothing.
use Rattle.std.proofs.Common.{rules, ◌≡◌, true}
use Rattle.definitions.specs.Lent.{order_of}
use Rattle.admission.specs.Admission.{sent_fault}
use Rattle.definitions.specs.Refusals.{first_fault, no_fault}
use Rattle.definitions.specs.Session.{own_fault}
use Rattle.theory.proofs.Accepted.{cells-none}
use Rattle.theory.proofs.Faults.{tests-none}
use Rattle.sessions.proofs.early_fault.Goals as goal

pub difference_fault-requires : goal.difference_fault-requires
difference_fault-requires c =
    let order = order_of c.args.n c.args.generators.now c.args.exchanges.now c.args.images.now in
    let own : sent_fault order c.args.group true ≡ no_fault = search rules in
    record { some = (cells-none _ (tests-none _ _ own).0).least }

pub returns-in_err-shared : goal.returns-in_err-shared
unfolding first_fault
returns-in_err-shared c = search rules

pub returns-in_err-sent_fault : goal.returns-in_err-sent_fault
unfolding own_fault first_fault
returns-in_err-sent_fault c = search rules

pub returns : goal.returns
unfolding own_fault first_fault
returns c = search rules
