-- `split_listed` meets its contract: 14, and then the rest. Assumes nothing.
use Rattle.moves.proofs.Splits.{ends_refused, parts-past}
use Rattle.moves.proofs.split_listed.Goals as goal

pub returns-in-Err : goal.returns-in-Err
returns-in-Err c = record { ended = ends_refused _ _ _ _ (parts-past _ c.args.found _ _ _ _ c.in-Err.ensures.found) c.refuse_split.ensures.zeros }
