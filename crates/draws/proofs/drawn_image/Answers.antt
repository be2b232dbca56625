-- `drawn_image` meets its contract. Assumes nothing.
use Rattle.std.proofs.Common.{rules}
use Rattle.draws.proofs.Entries.{sign-is}
use Rattle.draws.proofs.Images.{made-negative, made-positive, made-within, position-below, row_inside}
use Rattle.draws.proofs.drawn_image.Goals as goal

pub load-v-requires : goal.load-v-requires
load-v-requires c = search (rules, row_inside)

pub image_at-image-requires-clause-position : goal.image_at-image-requires-clause-position
image_at-image-requires-clause-position c = search (rules, position-below)

pub returns-then-draw-ge0 : goal.returns-then-draw-ge0
returns-then-draw-ge0 c = search (rules, made-positive, sign-is)

pub negative-requires : goal.negative-requires
negative-requires c = search (rules, made-within)

pub returns : goal.returns
returns c = search (rules, made-negative, sign-is)
