-- `passed` meets its contract. Assumes nothing.
use Rattle.std.proofs.Common.{rules}
use Rattle.definitions.specs.Completion.{sum_count}
use Rattle.moves.proofs.passed.Goals as goal

pub returns : goal.returns
unfolding sum_count
returns c = search rules
