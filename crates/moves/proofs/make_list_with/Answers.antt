-- `make_list_with` meets its contract: 5 to 11, and then the rows. Assumes nothing.
use mathlib.Core.Path.{◌≡◌}
use Rattle.std.proofs.Common.{rules}
use Rattle.std.specs.declared.result.Result.TheVariants.{Err}
use Rattle.moves.proofs.Tables.{grouped-admitted}
use Rattle.moves.proofs.Ends.{finds-unadmitted, finds-admitted}
use Rattle.moves.proofs.make_list_with.Goals as goal

pub complete_list-requires-clause-grouped : goal.complete_list-requires-clause-grouped
complete_list-requires-clause-grouped c = grouped-admitted _ _ c.in_ok-g.ensures.tabled c.admit.auto.group

pub returns-in_err-g : goal.returns-in_err-g
returns-in_err-g c =
    let e : c.from_residual.result ≡ Err c.in_err-g.field-0.0 = search rules in
    rw e (record { found = finds-unadmitted _ _ _ (rw c.whole_rows-fits.ensures.told at c.in_err-g.ensures.tabled) })

pub returns : goal.returns
returns c = record { found = finds-admitted _ _ _ (rw c.whole_rows-fits.ensures.told at c.in_ok-g.ensures.tabled) c.admit.auto.group c.complete_list.ensures.found }
