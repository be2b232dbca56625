-- `complete_list` meets its contract: the list area is cleared, and then steps 1 to 5. Assumes nothing.
use mathlib.Core.Path.{◌≡◌, refl, ◌∙◌}
use Rattle.std.proofs.Common.{rules}
use native.Mathlib.Omega.{arith}
use lib.ListN.{length}
use Rattle.definitions.specs.Lent.{list_rows}
use Rattle.definitions.specs.Refusals.{accepted}
use Rattle.std.specs.declared.result.Result.TheVariants.{Err}
use Rattle.completion.specs.Machine.{After, completed_in, sizes_of}
use Rattle.moves.proofs.Steps.{few, cleared-areas, steps-stopped, stored-few, stored-marked, steps-ended}
use Rattle.moves.proofs.Steps.{nothing-notable, plain-after}
use Rattle.moves.proofs.complete_list.Goals as goal
use Rattle.moves.proofs.complete_list.Goals.{After-rows_up_to-limit, In_ok-s}

-- the rows of the cleared list area
limit_is : (c : After-rows_up_to-limit) → c.rows_up_to-limit.result ≡ list_rows c.args.shape.n (length c.args.list.now)
unfolding list_rows
limit_is c = rw c.clear.auto.area at c.rows_up_to-limit.ensures.counted

pub complete-requires-clause-areas : goal.complete-requires-clause-areas
complete-requires-clause-areas c =
    cleared-areas c.requires.grouped _ _ (limit_is (goal.at.complete-requires-clause-areas c).After-rows_up_to-limit) c.clear.ensures.cleared c.requires.room

pub complete-requires-clause-notable : goal.complete-requires-clause-notable
complete-requires-clause-notable c = nothing-notable c.requires.grouped.table _ _ _ refl

-- it comes to the completion, with no coefficients to note
module _ (c : In_ok-s) where
  ended : After c.args.shape c.args.group.now c.complete.new.list c.complete.new.marks c.complete.new.keys (completed_in (sizes_of c.args.shape c.rows_up_to-limit.result) c.args.group.now c.args.generators.now) (accepted c.in_ok-s.s)
  ended = plain-after _ _ _ refl c.in_ok-s.ensures.completed

  long : length c.complete.new.list ≡ length c.args.list.now
  long = c.complete.auto.list ∙ c.clear.auto.area

pub finish-rows-requires-clause-held : goal.finish-rows-requires-clause-held
finish-rows-requires-clause-held c =
    let p = (goal.at.finish-rows-requires-clause-held c).In_ok-s in
    let q = (goal.at.finish-rows-requires-clause-held c).After-rows_up_to-limit in
    stored-marked c.requires.grouped _ _ (limit_is q) c.in_ok-s.s (ended p) (long p) (omega (arith, c.complete.auto.marks, c.requires.room))

pub finish-rows-requires-clause-room : goal.finish-rows-requires-clause-room
finish-rows-requires-clause-room c =
    let p = (goal.at.finish-rows-requires-clause-room c).In_ok-s in
    let q = (goal.at.finish-rows-requires-clause-room c).After-rows_up_to-limit in
    omega (arith, stored-few c.requires.grouped _ _ (limit_is q) c.in_ok-s.s (ended p) (long p), few c.requires.grouped _ _ (limit_is q))

pub returns-in_err-s : goal.returns-in_err-s
returns-in_err-s c =
    let e : c.from_residual.result ≡ Err c.in_err-s.field-0.0 = search rules in
    rw e (record { found = steps-stopped c.requires.grouped _ _ (limit_is (goal.at.returns-in_err-s c).After-rows_up_to-limit) _ _ (plain-after _ _ _ refl c.in_err-s.ensures.completed) })

pub returns : goal.returns
returns c =
    let p = (goal.at.returns c).In_ok-s in
    let q = (goal.at.returns c).After-rows_up_to-limit in
    record { found = steps-ended c.requires.grouped _ _ (limit_is q) c.in_ok-s.s (ended p) (long p) c.finish-rows.result c.finish-rows.ensures.finished }
