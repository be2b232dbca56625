-- `is_stale` meets its contract: each return is a case of the definition. Assumes nothing.
use Rattle.std.proofs.Common.{rules, tests}
use Rattle.figures.proofs.Values.{same_bits}
use Rattle.figures.proofs.is_stale.Goals as goal

pub returns : goal.returns
returns c = search (rules, tests, same_bits)
