-- `refused_by` meets its contract. Assumes nothing.
use Rattle.std.proofs.Common.{rules}
use Rattle.sessions.proofs.refused_by.Goals as goal

pub returns-in_err-fault : goal.returns-in_err-fault
returns-in_err-fault c = record { refused = λ number place e. search rules }

pub returns : goal.returns
returns c = record { refused = λ number place e. search rules }
