-- `split_rows` meets its contract: the area is cleared, and the images of all rows are taken from the vector.
-- Assumes nothing.
use lib.ListN.{length}
use Rattle.pieces.proofs.Turns.{takes_all}
use Rattle.pieces.proofs.split_rows.Goals as goal

pub returns : goal.returns
returns c =
    record { split = takes_all c.args.v (length c.args.pieces.now) c.clear.ensures.cleared c.take_rows.ensures.taken }
