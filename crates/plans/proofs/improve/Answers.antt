-- `improve` meets its contract: marks for all images, their prices, and the descent. Assumes nothing.
use native.Mathlib.Nat.{mul-le-mul}
use native.Mathlib.Omega.{arith}
use Rattle.plans.proofs.improve.Goals as goal

pub mark_rows-requires : goal.mark_rows-requires
mark_rows-requires c = let listed = c.requires.listed in record { shaped = listed.is_table; held = listed.area; room = omega (arith, mul-le-mul listed.few listed.small, c.requires.room) }

pub descend-requires : goal.descend-requires
descend-requires c = record { planning = c.requires.planning; few = c.requires.few; marked = c.mark_rows.ensures.marked; priced = c.price_images.ensures.priced }
