-- `check_list` meets its contract: 5 to 11, and then 17 to 22. Assumes nothing.
use mathlib.Core.Path.{◌≡◌, sym, ap, ◌∙◌}
use native.Mathlib.Omega.{arith}
use Rattle.std.proofs.Common.{rules}
use Rattle.std.specs.declared.result.Result.TheVariants.{Err}
use Rattle.definitions.specs.Refusals.{accepted}
use Rattle.definitions.specs.declared.Answer.{Answer}
use Rattle.moves.proofs.Tables.{grouped-admitted}
use Rattle.moves.proofs.Checkings.{checks-brought, checks-early, sized-admitted}
use Rattle.moves.proofs.check_list.Goals as goal

pub brought_fault-requires-clause-grouped : goal.brought_fault-requires-clause-grouped
brought_fault-requires-clause-grouped c = grouped-admitted _ _ c.in_ok-g.ensures.tabled c.admit.auto.group

pub brought_fault-requires-clause-sized : goal.brought_fault-requires-clause-sized
brought_fault-requires-clause-sized c = sized-admitted _ _ _ _ (rw c.brought_fits-fits.ensures.told at c.in_ok-g.ensures.tabled) c.admit.auto.group

pub nonzero_div-rows : goal.nonzero_div-rows
nonzero_div-rows c = omega (arith, (grouped-admitted _ _ c.in_ok-g.ensures.tabled c.admit.auto.group).table.positive)

pub passed-requires : goal.passed-requires
passed-requires c =
    record {
      few = (
        (sized-admitted _ _ _ _ (rw c.brought_fits-fits.ensures.told at c.in_ok-g.ensures.tabled) c.admit.auto.group).few,
        (grouped-admitted _ _ c.in_ok-g.ensures.tabled c.admit.auto.group).small,
      );
    }

pub returns-in_err-g : goal.returns-in_err-g
returns-in_err-g c =
    let e : c.from_residual.result ≡ Err c.in_err-g.field-0.0 = search rules in
    rw e (record { checked = checks-early _ _ _ _ (rw c.brought_fits-fits.ensures.told at c.in_err-g.ensures.tabled) })

pub returns-in_err-brought_fault : goal.returns-in_err-brought_fault
returns-in_err-brought_fault c =
    let e : c.from_residual-in_err-brought_fault.result ≡ Err c.in_err-brought_fault.field-0.0 = search rules in
    record { checked = checks-brought _ _ _ _ (rw c.brought_fits-fits.ensures.told at c.in_ok-g.ensures.tabled) c.admit.auto.group (sym c.in_err-brought_fault.was ∙ c.brought_fault.ensures.met) e }

pub returns : goal.returns
returns c =
    record {
      checked = checks-brought _ _ _ _ (rw c.brought_fits-fits.ensures.told at c.in_ok-g.ensures.tabled) c.admit.auto.group (sym c.in_ok-brought_fault.was ∙ c.brought_fault.ensures.met)
          (ap (λ (a : Answer). accepted a) c.passed.ensures.told);
    }
