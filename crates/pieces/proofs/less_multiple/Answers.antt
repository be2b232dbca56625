-- `less_multiple` meets its contract. The invariant: the cells up to `i` are those of the answer. Assumes nothing.
use mathlib.Core.Path.{◌≡◌}
use native.Mathlib.Omega.{arith}
use lib.IntN.{pos}
use lib.ListN.{length}
use Rattle.std.proofs.Common.{rules}
use Rattle.definitions.specs.Limits.{cells}
use Rattle.definitions.specs.Vector.{minus, scale}
use Rattle.theory.proofs.Vector.{length-minus}
use Rattle.theory.proofs.Lattice.{length-scale}
use Rattle.vectors.proofs.Kit.{fill, filled}
use Rattle.pieces.proofs.Multiples.{Turn, products-fit, rests-fit, rests-read}
use Rattle.pieces.proofs.less_multiple.Goals as goal
use Rattle.pieces.proofs.less_multiple.Goals.{In-loop-i, Start}

-- what remains is as long as the vector
less-length : (c : Start) → length (minus c.args.v (scale (pos c.args.count) c.args.u)) ≡ cells
less-length c =
    length-minus cells c.args.v (scale (pos c.args.count) c.args.u) (omega arith) (omega (arith, length-scale (pos c.args.count) c.args.u))

pub overflow_mul-w : goal.overflow_mul-w
overflow_mul-w c = search (rules, products-fit)

pub overflow_sub-w : goal.overflow_sub-w
overflow_sub-w c = search (rules, rests-fit)

pub loop-i-preserved : goal.loop-i-preserved
loop-i-preserved c =
    let l = less-length (goal.at.loop-i-preserved c).Start in
    let turn : Turn c.args.v c.args.u c.args.count c.loop-i.i = search rules in
    fill _ _ c.loop-i.i c.loop-i.invariant (rests-read turn) (omega arith) (omega arith)

pub returns : goal.returns
returns c =
    let l = less-length (goal.at.returns c).Start in
    record { rest = filled _ _ c.loop-i.i c.loop-i.invariant (omega arith) (omega arith) }
