-- `take` meets its contract. The invariant: there is room, and the first `j` numbers stand behind those that were
-- filled. Assumes nothing.
use mathlib.Core.Path.{sym, ◌∙◌}
use native.Mathlib.Omega.{arith}
use lib.Seq.{paste-zero}
use Rattle.orders.specs.Walk.{kind_numbers}
use Rattle.orders.proofs.Numbers.{kind-none, number-at, numbers-long}
use Rattle.orders.proofs.Walks.{one-more, taken_none}
use Rattle.orders.proofs.operands.take.Goals as goal

pub returns-then-code_of-kind : goal.returns-then-code_of-kind
returns-then-code_of-kind g c =
    let a = c.args in
    let none = kind-none g.T.Number.number a.kind a.order.now a.command (λ e. c.if-code_of-kind.true (c.code_of.ensures.code ∙ e)) in
    record { taken = taken_none (kind_numbers g.T.Number.number a.kind a.order.now a.command) a.filled a.area.now none }

pub loop-j-init : goal.loop-j-init
loop-j-init g c =
    let a = c.args in
    let long = numbers-long g.T.Number.number a.kind a.order.now a.command (sym c.code_of.ensures.code ∙ c.if-code_of-kind.false) in
    (long, omega arith, paste-zero a.area.now a.filled (kind_numbers g.T.Number.number a.kind a.order.now a.command))

pub loop-j-preserved : goal.loop-j-preserved
loop-j-preserved g c =
    let a = c.args in
    let o = c.loop-j in
    let same = sym c.code_of.ensures.code ∙ c.if-code_of-kind.false in
    let at = number-at g.T.Number.number a.kind a.order.now a.command same c.operands_of.result o.j c.operands_of.ensures.start c.loop-j-test.true c.read.ensures.number in
    let more = one-more (kind_numbers g.T.Number.number a.kind a.order.now a.command) a.filled a.area.now o.area o.j c.read.result o.invariant.2 at (omega arith) (omega arith) in
    (o.invariant.0, o.invariant.1, more)
