-- `report_run` meets its contract: the counts of a run, or its refusal. Assumes nothing.
use Rattle.definitions.specs.Refusals.{Outcome}
use mathlib.Core.Path.{◌≡◌, sym, ap, subst, ◌∙◌}
use mathlib.Core.Bool.{true}
use Prim.Native.Nat.{◌^◌}
use native.Mathlib.Omega.{arith}
use borrow.Author.Tests.{leb-true, ltb-true}
use lib.ListN.{length}
use mir.Syntax.{w64}
use mir.ValLaws.{to_z-of_z}
use Rattle.definitions.specs.declared.Run.{Run}
use Rattle.definitions.specs.Lent.{filled}
use Rattle.vectors.proofs.Negatives.{small}
use Rattle.lent.specs.Ends.{RunSmall, is_told, run_counts, run_result}
use Rattle.lent.proofs.report_run.Goals as goal

pub lay_counts-requires : goal.lay_counts-requires
lay_counts-requires c = record { some = omega arith; room = leb-true 5 (length c.args.area.now) (subst (λ (r : Outcome Run). is_told r (length c.args.area.now) ≡ true) c.in-Ok.is c.requires.told) }

pub overflow_cast-result : goal.overflow_cast-result
overflow_cast-result c =
    let h = subst RunSmall c.in-Ok.is c.requires.small in
    record { sfits = h }

pub refusal-requires : goal.refusal-requires
refusal-requires c =
    let e = c.in-Err.is in
    let low = subst RunSmall e c.requires.small in
    let near = ltb-true c.in-Err.refused.place (2 ^ 58) (subst (λ (r : Outcome Run). is_told r (length c.args.area.now) ≡ true) e c.requires.told) in record { fits = omega (arith, low, near) }

pub returns-in-Ok : goal.returns-in-Ok
returns-in-Ok c =
    let e = c.in-Ok.is in record {
      reported = record {
        results = small _ (subst RunSmall e c.requires.small) ∙ sym (ap run_result e);
        counts_hold = c.lay_counts.ensures.laid ∙ sym (ap (λ (r : Outcome Run). filled 0 (length c.args.area.now) (run_counts r)) e);
      };
    }

pub returns-in-Err : goal.returns-in-Err
returns-in-Err c =
    let e = c.in-Err.is in record {
      reported = record {
        results = to_z-of_z w64 c.refusal.result (record { sfits = c.refusal.type_inv }) ∙ c.refusal.ensures.refused ∙ sym (ap run_result e);
        counts_hold = c.lay_counts-in-Err.ensures.laid ∙ sym (ap (λ (r : Outcome Run). filled 0 (length c.args.area.now) (run_counts r)) e);
      };
    }
