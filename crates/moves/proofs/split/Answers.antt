-- `split` meets its contract: 5 and 6, the whole List, and then 14 to 16. Assumes nothing.
use mathlib.Core.Path.{sym, ◌∙◌}
use Rattle.definitions.specs.Calls.{parts_of}
use Rattle.moves.proofs.Ends.{found-refused}
use Rattle.moves.proofs.Splits.{ends_refused, found-held, found_same, parts-sized, parts-unsized, split-promise, vector-sized}
use Rattle.moves.proofs.split.Goals as goal

pub returns-in-Err : goal.returns-in-Err
returns-in-Err c =
    let x = c.refuse_split in
    record { kept = split-promise _ _ _ _ _ (ends_refused _ _ _ _ (parts-unsized _ _ _ _ _ c.in-Err.ensures.met) x.ensures.zeros) x.auto.basis x.auto.group x.auto.pieces }

pub split_listed-requires-clause-held : goal.split_listed-requires-clause-held
split_listed-requires-clause-held c = found-held _ c.in-Ok.ensures.found c.make_list-found.auto.list c.make_list-found.auto.group

pub split_listed-requires-clause-sized : goal.split_listed-requires-clause-sized
split_listed-requires-clause-sized c = vector-sized _ _ _ c.in_default.ensures.met

pub returns-in-Err-found : goal.returns-in-Err-found
unfolding parts_of
returns-in-Err-found c =
    let x = c.refuse_split-in-Err-found in
    let long = c.make_list-found.auto in
    record {
      kept = split-promise _ _ _ _ _
          (ends_refused _ _ _ _ (parts-sized _ _ _ _ _ c.in_default.ensures.met (sym (found-refused _ _ _ c.in-Err-found.ensures.found))) (rw (long.list, long.group) at x.ensures.zeros))
          (x.auto.basis ∙ long.list) (x.auto.group ∙ long.group) x.auto.pieces;
    }

pub returns-in-Ok : goal.returns-in-Ok
returns-in-Ok c =
    let x = c.split_listed in
    let long = c.make_list-found.auto in
    record {
      kept = split-promise _ _ _ _ _
          (rw (long.list, long.group, parts-sized _ _ _ _ _ c.in_default.ensures.met (found_same _ c.in-Ok.ensures.found long.list long.group)) at x.ensures.ended)
          (x.auto.basis ∙ long.list) (x.auto.group ∙ long.group) x.auto.pieces;
    }
