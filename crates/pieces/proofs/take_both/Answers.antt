-- `take_both` meets its contract: one image is taken, and then its negative. Assumes nothing.
use native.Mathlib.Omega.{arith}
use Rattle.pieces.proofs.Joining.{ready-after, takes-append}
use Rattle.pieces.proofs.take_both.Goals as goal

pub take_image-requires-clause-ready : goal.take_image-requires-clause-ready
take_image-requires-clause-ready c = ready-after 1 2 (omega arith) c.requires.ready c.take_image-once.ensures.taken

pub returns : goal.returns
returns c =
    record { taken = rw c.negative.ensures.made at (takes-append c.take_image-once.ensures.taken c.take_image.ensures.taken) }
