-- `add_draw` meets its contract: the entries have headroom, and so has the image. Assumes nothing.
use Rattle.std.proofs.Common.{arith, rules}
use Rattle.definitions.specs.Window.{is_drawable}
use Rattle.draws.proofs.Images.{contingency-within, image-within, names-drawn}
use Rattle.draws.proofs.add_draw.Goals as goal

pub returns-then-not-names : goal.returns-then-not-names
unfolding is_drawable
returns-then-not-names c = grind (arith, names-drawn)

pub plus-table-requires-clause-first_bounded : goal.plus-table-requires-clause-first_bounded
plus-table-requires-clause-first_bounded c = search (rules, contingency-within)

pub plus-table-requires-clause-second_bounded : goal.plus-table-requires-clause-second_bounded
plus-table-requires-clause-second_bounded c = search (rules, image-within)

pub returns : goal.returns
unfolding is_drawable
returns c = grind (arith, names-drawn)
