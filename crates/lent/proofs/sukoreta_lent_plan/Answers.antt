-- `sukoreta_lent_plan` meets its contract: the plan with its counts, or zeros in every area. Assumes nothing.
use mathlib.Core.Path.{◌≡◌, sym, ap, subst, ◌∙◌}
use mathlib.Core.Bool.{true, false}
use mathlib.Core.List.{[]}
use Prim.Native.Nat.{ℕ}
use lib.IntN.{pos}
use lib.ListN.{length}
use mir.Syntax.{w64}
use mir.ValLaws.{to_z-of_z}
use Rattle.definitions.specs.Lent.{filled, order_of}
use Rattle.lent.specs.Ends.{is_plan_told, plan_counts}
use Rattle.lent.proofs.Reporting.{reports-result}
use Rattle.lent.proofs.Planning.{plan-sized, plan-small, plan-told, plan-untold}
use Rattle.lent.proofs.sukoreta_lent_plan.Goals as goal

pub report_plan-requires : goal.report_plan-requires
report_plan-requires c =
    let l = c.plan-answer in
    record {
      told = sym c.is_plan_told.ensures.told ∙ c.if-is_plan_told.true;
      small = plan-small (plan-sized (sym l.auto.list) (sym l.auto.group) (sym l.auto.plan) l.ensures.kept);
    }

pub returns-then-is_plan_told : goal.returns-then-is_plan_told
returns-then-is_plan_told c =
    let a = c.args in
    let l = c.plan-answer in
    let k = c.report_plan in
    let size : length a.counts.now ≡ length k.new.area = sym k.auto.area in
    let told = sym c.is_plan_told.ensures.told ∙ c.if-is_plan_told.true in
    record {
      kept = plan-told (order_of a.n a.generators.now a.exchanges.now a.images.now)
          (record { start = a.start.now; upper = a.upper.now; costs = a.costs.now; budget = a.budget })
          l.new.list l.new.group l.new.plan k.new.area _
          (plan-sized (sym l.auto.list) (sym l.auto.group) (sym l.auto.plan) l.ensures.kept)
          (subst (λ (m : ℕ). is_plan_told l.result m ≡ true) size told)
          (record {
            results = to_z-of_z w64 k.result (record { sfits = k.type_inv }) ∙ k.ensures.reported.results;
            counts_hold = k.ensures.reported.counts_hold ∙ ap (λ (m : ℕ). filled 0 m (plan_counts l.result)) size;
          });
    }

pub returns : goal.returns
returns c =
    let a = c.args in
    let l = c.plan-answer in
    let x = c.clear in
    let y = c.clear-2 in
    let z = c.clear-3 in
    let k = c.report in
    let size : length a.counts.now ≡ length k.new.area = sym k.auto.area in
    let untold = sym c.is_plan_told.ensures.told ∙ c.if-is_plan_told.false in
    record {
      kept = plan-untold (order_of a.n a.generators.now a.exchanges.now a.images.now)
          (record { start = a.start.now; upper = a.upper.now; costs = a.costs.now; budget = a.budget })
          x.new.area y.new.area z.new.area k.new.area _
          (plan-sized (sym (x.auto.area ∙ l.auto.list)) (sym (y.auto.area ∙ l.auto.group)) (sym (z.auto.area ∙ l.auto.plan)) l.ensures.kept).answer_is
          (subst (λ (m : ℕ). is_plan_told l.result m ≡ false) size untold)
          (reports-result size (to_z-of_z w64 k.result (record { sfits = k.type_inv })) k.ensures.reported)
          (x.ensures.cleared ∙ ap (λ (m : ℕ). filled (pos 0) m []) (sym x.auto.area))
          (y.ensures.cleared ∙ ap (λ (m : ℕ). filled 0 m []) (sym y.auto.area))
          (z.ensures.cleared ∙ ap (λ (m : ℕ). filled (pos 0) m []) (sym z.auto.area));
    }
