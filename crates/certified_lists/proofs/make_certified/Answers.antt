-- `make_certified` meets its contract: 5 to 11, and then the rows and their coefficients. Assumes nothing.
use mathlib.Core.Path.{◌≡◌}
use Rattle.std.proofs.Common.{rules}
use Rattle.std.specs.declared.result.Result.TheVariants.{Err}
use Rattle.certified_lists.proofs.Admitted.{closed-admitted, room-admitted}
use Rattle.certified_lists.proofs.Ends.{finds-unadmitted, finds-admitted}
use Rattle.certified_lists.proofs.make_certified.Goals as goal

pub complete_certified-requires : goal.complete_certified-requires
complete_certified-requires c =
    let T = rw c.certified_fits-fits.ensures.told at c.in_ok-g.ensures.tabled in
    record { closed = closed-admitted _ _ _ _ T c.admit.auto.group; room = room-admitted _ _ _ _ T c.admit.auto.group }

pub returns-in_err-g : goal.returns-in_err-g
returns-in_err-g c =
    let e : c.from_residual.result ≡ Err c.in_err-g.field-0.0 = search rules in
    rw e (record { found = finds-unadmitted _ _ _ _ (rw c.certified_fits-fits.ensures.told at c.in_err-g.ensures.tabled) })

pub returns : goal.returns
returns c = record { found = finds-admitted _ _ _ _ (rw c.certified_fits-fits.ensures.told at c.in_ok-g.ensures.tabled) c.admit.auto.group c.complete_certified.ensures.found }
