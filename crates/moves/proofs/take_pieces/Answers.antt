-- `take_pieces` meets its contract: the pieces, and then 15 and 16. Assumes nothing.
use mathlib.Core.Path.{◌≡◌, ◌∙◌}
use Rattle.definitions.specs.Vector.{padded}
use Rattle.moves.proofs.Splits.{ends_refused, ends-taken, parts-met, vector-read, vector-within}
use Rattle.moves.proofs.take_pieces.Goals as goal
use Rattle.moves.proofs.take_pieces.Goals.{After-load-v}

-- the vector that was read
read : (c : After-load-v) → c.load-v.result ≡ padded c.args.vector.now
read c = c.load-v.ensures.made ∙ vector-read c.args.n c.args.vector.now c.requires.entered.sized

pub split_rows-taken-requires-clause-limited : goal.split_rows-taken-requires-clause-limited
split_rows-taken-requires-clause-limited c = rw (read (goal.at.split_rows-taken-requires-clause-limited c).After-load-v) (vector-within c.args.vector.now c.requires.entered.entries)

pub returns-in-Err : goal.returns-in-Err
returns-in-Err c =
    record {
      ended = ends_refused _ _ _ _
          (parts-met _ c.args.found _ _ _ _ c.split_rows-taken.ensures.split (read (goal.at.returns-in-Err c).After-load-v) c.requires.entered.entries (rw c.split_rows-taken.auto.pieces at c.in-Err.ensures.met))
          (rw c.split_rows-taken.auto.pieces at c.refuse_split.ensures.zeros);
    }

pub returns : goal.returns
returns c =
    record {
      ended = ends-taken _ c.args.found _ _ _ _ c.split_rows-taken.ensures.split (read (goal.at.returns c).After-load-v) c.requires.entered.entries _ _ c.requires.held.list_held c.requires.held.group_held
          (rw c.split_rows-taken.auto.pieces at c.in_default.ensures.met);
    }
