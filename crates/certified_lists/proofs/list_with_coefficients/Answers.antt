-- `list_with_coefficients` meets its contract: what is found, and zeros after a refusal. Assumes nothing.
use mathlib.Core.Path.{sym, ◌∙◌}
use Rattle.certified_lists.proofs.Ends.{promise}
use Rattle.certified_lists.proofs.list_with_coefficients.Goals as goal

pub returns-then-is_err : goal.returns-then-is_err
returns-then-is_err c =
    let long = c.make_certified-found.auto in
    let met = sym c.if-is_err.ensures.value in
    record {
      kept = promise _ _ _ _ c.make_certified-found.ensures.found
          (rw met (rw long.list at c.clear.ensures.cleared)) (rw met (rw long.group at c.clear-then-is_err.ensures.cleared)) (rw met (rw long.coefficients at c.clear-then-is_err-2.ensures.cleared))
          (c.clear.auto.area ∙ long.list) (c.clear-then-is_err.auto.area ∙ long.group) (c.clear-then-is_err-2.auto.area ∙ long.coefficients);
    }

pub returns-else-is_err : goal.returns-else-is_err
returns-else-is_err c =
    let long = c.make_certified-found.auto in
    let none = sym c.if-is_err.ensures.value in
    record { kept = promise _ _ _ _ c.make_certified-found.ensures.found (rw none) (rw none) (rw none) long.list long.group long.coefficients }
