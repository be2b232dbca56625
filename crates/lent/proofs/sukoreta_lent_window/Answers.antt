-- `sukoreta_lent_window` meets its contract: the run with its counts, or zeros in every area. Assumes nothing.
use mathlib.Core.Path.{◌≡◌, sym, ap, subst, ◌∙◌}
use mathlib.Core.Bool.{true, false}
use mathlib.Core.List.{[]}
use Prim.Native.Nat.{ℕ}
use native.Mathlib.Omega.{arith}
use lib.IntN.{pos}
use lib.ListN.{length}
use mir.Syntax.{w64}
use mir.ValLaws.{to_z-of_z}
use Rattle.definitions.specs.Lent.{filled, order_of}
use Rattle.lent.specs.Ends.{is_told, run_counts}
use Rattle.lent.proofs.Reporting.{reports-result}
use Rattle.lent.proofs.Windows.{run_small, sizes-same, window-sized, window-told, window-untold}
use Rattle.lent.proofs.sukoreta_lent_window.Goals as goal

pub report_run-requires : goal.report_run-requires
report_run-requires c =
    let l = c.window-run in
    record {
      told = sym c.is_told.ensures.told ∙ c.if-is_told.true;
      small = run_small (window-sized (sizes-same (sym l.auto.list) (sym l.auto.group) (sym l.auto.answers)) l.ensures.kept) (omega arith);
    }

pub returns-then-is_told : goal.returns-then-is_told
returns-then-is_told c =
    let a = c.args in
    let l = c.window-run in
    let k = c.report_run in
    let size : length a.counts.now ≡ length k.new.area = sym k.auto.area in
    let told = sym c.is_told.ensures.told ∙ c.if-is_told.true in
    record {
      kept = window-told (order_of a.n a.generators.now a.exchanges.now a.images.now)
          (record { start = a.start.now; width = a.width; cell = a.cell; records = a.records.now })
          l.new.list l.new.group l.new.answers k.new.area _
          (window-sized (sizes-same (sym l.auto.list) (sym l.auto.group) (sym l.auto.answers)) l.ensures.kept)
          (subst (λ (m : ℕ). is_told l.result m ≡ true) size told)
          (record {
            results = to_z-of_z w64 k.result (record { sfits = k.type_inv }) ∙ k.ensures.reported.results;
            counts_hold = k.ensures.reported.counts_hold ∙ ap (λ (m : ℕ). filled 0 m (run_counts l.result)) size;
          });
    }

pub returns : goal.returns
returns c =
    let a = c.args in
    let l = c.window-run in
    let x = c.clear in
    let y = c.clear-2 in
    let z = c.clear-3 in
    let k = c.report in
    let size : length a.counts.now ≡ length k.new.area = sym k.auto.area in
    let untold = sym c.is_told.ensures.told ∙ c.if-is_told.false in
    record {
      kept = window-untold (order_of a.n a.generators.now a.exchanges.now a.images.now)
          (record { start = a.start.now; width = a.width; cell = a.cell; records = a.records.now })
          x.new.area y.new.area z.new.area k.new.area _
          (window-sized (sizes-same (sym (x.auto.area ∙ l.auto.list)) (sym (y.auto.area ∙ l.auto.group)) (sym (z.auto.area ∙ l.auto.answers))) l.ensures.kept).answer_is
          (subst (λ (m : ℕ). is_told l.result m ≡ false) size untold)
          (reports-result size (to_z-of_z w64 k.result (record { sfits = k.type_inv })) k.ensures.reported)
          (x.ensures.cleared ∙ ap (λ (m : ℕ). filled (pos 0) m []) (sym x.auto.area))
          (y.ensures.cleared ∙ ap (λ (m : ℕ). filled 0 m []) (sym y.auto.area))
          (z.ensures.cleared ∙ ap (λ (m : ℕ). filled (pos 0) m []) (sym z.auto.area));
    }
