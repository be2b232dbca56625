-- `check` meets its contract: what is found, and zeros after a refusal. Assumes nothing.
use mathlib.Core.Path.{sym, ◌∙◌}
use Rattle.moves.proofs.Checkings.{check-promise}
use Rattle.moves.proofs.check.Goals as goal

pub returns-then-is_err : goal.returns-then-is_err
returns-then-is_err c =
    let long = c.check_list-found.auto.group in
    record { kept = check-promise _ _ _ _ c.check_list-found.ensures.checked (rw (sym c.if-is_err.ensures.value) (rw long at c.clear.ensures.cleared)) (c.clear.auto.area ∙ long) }

pub returns-else-is_err : goal.returns-else-is_err
returns-else-is_err c =
    record { kept = check-promise _ _ _ _ c.check_list-found.ensures.checked (rw (sym c.if-is_err.ensures.value)) c.check_list-found.auto.group }
