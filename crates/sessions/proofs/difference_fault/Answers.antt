-- `difference_fault` meets its contract. The invariant: what is left has the first difference of all. Assumes nothing.
use mathlib.Core.Path.{◌≡◌, refl, sym, subst, ◌∙◌}
use Prim.Native.Nat.{ℕ}
use lib.ListN.{length, drop}
use Rattle.definitions.specs.Session.{difference_from}
use native.Mathlib.Omega.{arith}
use Rattle.sessions.proofs.Differences.{differ-short, differ-long, differ-end, differ-here, differ-next}
use Rattle.sessions.proofs.difference_fault.Goals as goal

pub loop-p-init : goal.loop-p-init
loop-p-init c = (omega arith, omega arith, refl)

pub nonzero_div-result : goal.nonzero_div-result
nonzero_div-result c = omega arith

pub returns-then-others-p : goal.returns-then-others-p
returns-then-others-p c = record { met = sym (differ-short c.args.n c.loop-p.p c.args.exchanges.now c.args.others.now (omega arith) (omega arith)) ∙ c.loop-p.invariant.2 }

pub bounds-exchanges-p : goal.bounds-exchanges-p
bounds-exchanges-p c = omega arith

pub bounds-others-p : goal.bounds-others-p
bounds-others-p c = omega arith

pub nonzero_div-result-then-exchanges-p : goal.nonzero_div-result-then-exchanges-p
nonzero_div-result-then-exchanges-p c = omega arith

pub returns-then-exchanges-p : goal.returns-then-exchanges-p
returns-then-exchanges-p c = record { met = sym (differ-here c.args.n c.loop-p.p c.args.exchanges.now c.args.others.now (omega arith) (omega arith) (λ e. omega arith)) ∙ c.loop-p.invariant.2 }

pub loop-p-preserved : goal.loop-p-preserved
loop-p-preserved c = (omega arith, omega arith, differ-next c.args.n c.loop-p.p c.args.exchanges.now c.args.others.now (omega arith) (omega arith) (omega arith) ∙ c.loop-p.invariant.2)

pub nonzero_div-result-then-exchanges-others : goal.nonzero_div-result-then-exchanges-others
nonzero_div-result-then-exchanges-others c = omega arith

pub returns-then-exchanges-others : goal.returns-then-exchanges-others
returns-then-exchanges-others c =
    let e : c.loop-p.p ≡ length c.args.exchanges.now = omega arith in
    let left = subst (λ (p : ℕ). difference_from c.args.n p (drop p c.args.exchanges.now) (drop p c.args.others.now)
    ≡ difference_from c.args.n 0 c.args.exchanges.now c.args.others.now) e c.loop-p.invariant.2 in
    record { met = sym (differ-long c.args.n _ c.args.exchanges.now c.args.others.now (omega arith) (omega arith)) ∙ left }

pub returns : goal.returns
returns c = record { met = sym (differ-end c.args.n c.loop-p.p c.args.exchanges.now c.args.others.now (omega arith) (omega arith)) ∙ c.loop-p.invariant.2 }
