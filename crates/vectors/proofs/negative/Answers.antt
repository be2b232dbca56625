-- `negative` meets its contract: each cell that it makes fits, and is that of the negative. In `returns` the law of a cell
-- takes the name `c`, so that the search reads the one call and not all sixteen. Assumes nothing.
use Rattle.std.proofs.Common.{pos, arith, rules}
use Rattle.definitions.specs.Limits.{cells}
use Rattle.definitions.specs.Vector.{negative}
use Rattle.theory.proofs.Vector.{length-negative}
use Rattle.vectors.proofs.Arrays.{callable-below, made-is}
use Rattle.vectors.proofs.Kit.{negative_fits, negative-at}
use Rattle.vectors.proofs.negative.Goals as goal

pub from_fn-requires : goal.from_fn-requires
from_fn-requires c =
    (omega arith, callable-below (λ i q k. search rules) (λ i l. let fits = negative_fits c.args.v i c.requires.bounded in search rules))

pub returns : goal.returns
returns c = record {
  made =
      made-is (pos 0) (negative c.args.v) cells (omega (arith, length-negative c.args.v))
      (λ i y q l k.
      let fits = negative_fits c.args.v i c.requires.bounded in
      let c = negative-at c.args.v i in
      search rules)
      _ c.from_fn.ensures.items;
}
