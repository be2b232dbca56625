-- `plus` meets its contract: each cell that it makes fits, and is that of the sum. Assumes nothing.
use Rattle.std.proofs.Common.{pos, arith, rules}
use Rattle.definitions.specs.Limits.{cells}
use Rattle.definitions.specs.Vector.{plus}
use Rattle.theory.proofs.Vector.{length-plus}
use Rattle.vectors.proofs.Arrays.{callable-below, made-is}
use Rattle.vectors.proofs.Kit.{sum-fits, plus-at}
use Rattle.vectors.proofs.plus.Goals as goal

pub from_fn-requires : goal.from_fn-requires
from_fn-requires c =
    (omega arith, callable-below (λ i q k. search rules) (λ i l. let fits = sum-fits c.args.u c.args.v i c.requires.first_bounded c.requires.second_bounded in search rules))

pub returns : goal.returns
returns c = record {
  made =
      made-is (pos 0) (plus c.args.u c.args.v) cells (length-plus cells c.args.u c.args.v (omega arith) (omega arith))
      (λ i y q l k.
      let fits = sum-fits c.args.u c.args.v i c.requires.first_bounded c.requires.second_bounded in
      let cell = plus-at c.args.u c.args.v i (omega arith) (omega arith) in
      search rules)
      _ c.from_fn.ensures.items;
}
