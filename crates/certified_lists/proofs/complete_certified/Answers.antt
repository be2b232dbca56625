-- `complete_certified` meets its contract: the list area is cleared, and then steps 1 to 5 with the coefficients of the
-- rows. Assumes nothing.
use mathlib.Core.Path.{◌≡◌, ◌∙◌}
use Rattle.std.proofs.Common.{rules}
use Rattle.std.specs.declared.result.Result.TheVariants.{Err}
use native.Mathlib.Omega.{arith}
use lib.ListN.{length}
use Rattle.definitions.specs.Lent.{list_rows}
use Rattle.moves.proofs.Steps.{cleared-areas}
use Rattle.certified_lists.proofs.Steps.{certified-stopped, stored-noted, certified-ended}
use Rattle.certified_lists.proofs.complete_certified.Goals as goal
use Rattle.certified_lists.proofs.complete_certified.Goals.{After-rows_up_to-limit}

-- the rows of the cleared list area
limit_is : (c : After-rows_up_to-limit) → c.rows_up_to-limit.result ≡ list_rows c.args.shape.n (length c.args.list.now)
unfolding list_rows
limit_is c = rw c.clear.auto.area at c.rows_up_to-limit.ensures.counted

pub complete-requires-clause-areas : goal.complete-requires-clause-areas
complete-requires-clause-areas c =
    cleared-areas c.requires.closed.grouped _ _ (limit_is (goal.at.complete-requires-clause-areas c).After-rows_up_to-limit) c.clear.ensures.cleared (omega arith)

pub finish_certified-rows-requires : goal.finish_certified-rows-requires
finish_certified-rows-requires c =
    let rows = limit_is (goal.at.finish_certified-rows-requires c).After-rows_up_to-limit in
    record {
      noted = stored-noted c.requires.closed _ _ rows c.in_ok-s.s c.in_ok-s.ensures.completed (c.complete.auto.list ∙ c.clear.auto.area)
          (omega (arith, c.complete.auto.marks)) (omega (arith, c.complete.auto.coefficients)) c.requires.room;
    }

pub returns-in_err-s : goal.returns-in_err-s
returns-in_err-s c =
    let e : c.from_residual.result ≡ Err c.in_err-s.field-0.0 = search rules in
    rw e (record { found = certified-stopped c.requires.closed _ _ (limit_is (goal.at.returns-in_err-s c).After-rows_up_to-limit) _ _ c.in_err-s.ensures.completed })

pub returns : goal.returns
returns c =
    let rows = limit_is (goal.at.returns c).After-rows_up_to-limit in
    record {
      found = certified-ended c.requires.closed _ _ rows c.in_ok-s.s c.in_ok-s.ensures.completed (c.complete.auto.list ∙ c.clear.auto.area)
          c.finish_certified-rows.result _ c.finish_certified-rows.ensures.arranged;
    }
