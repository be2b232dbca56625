-- `sum_coefficients` meets its contract: nothing, then the coefficients of row i, then plus or minus those of the image of row j.
-- Assumes nothing.
use mathlib.Core.Path.{◌≡◌}
use mir.Syntax.{w64}
use mir.Val.{to_z}
use Rattle.std.proofs.Common.{rules}
use Rattle.definitions.specs.Split.{sign}
use Rattle.certified.proofs.Summing.{first-room, second-room, sum_movable, sum-made}
use Rattle.certified.proofs.sum_coefficients.Goals as goal

pub add_times-requires-clause-room : goal.add_times-requires-clause-room
add_times-requires-clause-room c =
    first-room c.args.s c.args.into.now c.requires.notable c.requires.limited c.requires.tried c.requires.sized _ c.clear.ensures.cleared

pub add_image-requires-clause-movable : goal.add_image-requires-clause-movable
add_image-requires-clause-movable c =
    sum_movable c.args.s c.args.into.now c.requires.notable c.requires.limited c.requires.tried c.requires.sized

pub add_image-requires-clause-room : goal.add_image-requires-clause-room
unfolding sign
add_image-requires-clause-room c =
    let signs : to_z w64 c.if-s.sign-bits ≡ sign c.args.s.positive = search rules in
    rw signs (second-room c.args.s c.args.into.now c.requires.notable c.requires.limited c.requires.tried c.requires.sized _ c.clear.ensures.cleared _ c.add_times.ensures.added)

pub returns : goal.returns
unfolding sign
returns c =
    let signs : to_z w64 c.if-s.sign-bits ≡ sign c.args.s.positive = search rules in
    let made = rw signs at c.add_image.ensures.added in
    record { made = sum-made c.args.s c.args.into.now c.requires.notable c.requires.limited c.requires.tried c.requires.sized _ c.clear.ensures.cleared _ c.add_times.ensures.added _ made }
