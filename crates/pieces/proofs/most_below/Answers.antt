-- `most_below` meets its contract: the number of times is small, and that multiple lies below. Assumes nothing.
use native.Mathlib.Omega.{arith}
use Rattle.pieces.proofs.Multiples.{times-most}
use Rattle.pieces.proofs.most_below.Goals as goal

pub returns : goal.returns
returns c = record { most = times-most c.args.u c.args.v c.times.result (omega arith) (omega arith) c.requires.limited c.times.ensures.counted }
