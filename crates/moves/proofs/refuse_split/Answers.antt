-- `refuse_split` meets its contract: the three areas are cleared. Assumes nothing.
use Rattle.std.proofs.Common.{rules}
use Rattle.definitions.specs.Calls.{split_end}
use Rattle.moves.proofs.refuse_split.Goals as goal

pub returns : goal.returns
unfolding split_end
returns c = search rules
