-- `is_row` meets its contract: `any` over the places of the rows is a search of the rows. Assumes nothing.
use Rattle.std.proofs.Common.{◌∙◌, [], get_or, length, refl, rules, tests, arith}
use Rattle.std.proofs.lemmas.Iterator.{YieldsList-from_range}
use Rattle.std.proofs.lemmas.Iterator.Search.{any_from_yields_List}
use Rattle.definitions.specs.Vector.{equal, is_member}
use Rattle.definitions.specs.Lent.{vectors_of}
use Rattle.theory.proofs.CheckCall.{vectors-count}
use Rattle.vectors.proofs.Searches.{any-places}
use Rattle.vectors.proofs.is_row.Goals as goal

pub returns : goal.returns
unfolding is_member
returns c = record {
  told =
      any_from_yields_List (λ p. equal (get_or (vectors_of c.args.n c.args.area.now) p []) c.args.v) _ _ _ c.any.ensures.ran (YieldsList-from_range 0 _ (length (vectors_of c.args.n c.args.area.now)) refl (omega (arith, vectors-count c.args.n c.args.area.now))) (λ p b q k. search (rules, tests))
      ∙ any-places (λ u. equal u c.args.v) [] (vectors_of c.args.n c.args.area.now);
}
