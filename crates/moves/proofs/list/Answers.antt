-- `list` meets its contract: what is found, and zeros after a refusal. Assumes nothing.
use Rattle.moves.proofs.Ends.{promise-accepted, promise-refused, found-refused}
use Rattle.moves.proofs.list.Goals as goal

pub returns-in-Ok : goal.returns-in-Ok
returns-in-Ok c = record { kept = promise-accepted _ _ _ _ _ _ _ c.make_list-found.auto.list c.make_list-found.auto.group c.in-Ok.ensures.found }

pub returns-in-Err : goal.returns-in-Err
returns-in-Err c =
    let long = c.make_list-found.auto in
    record { kept = promise-refused _ _ _ _ _ (found-refused _ _ _ c.in-Err.ensures.found) (rw long.list at c.clear.ensures.cleared) (rw long.group at c.clear-in-Err.ensures.cleared) }
