-- `sukoreta_lent_session` meets its contract: ten counts, or zeros in every area. Assumes nothing.
use mathlib.Core.Path.{sym, ap, ◌∙◌}
use Prim.Native.Nat.{ℕ}
use native.Mathlib.Omega.{arith}
use lib.IntN.{pos}
use mir.Syntax.{w64}
use mir.ValLaws.{to_z-of_z}
use Rattle.definitions.specs.Lent.{filled, order_of}
use Rattle.lent.specs.Ends.{session_counts}
use Rattle.lent.proofs.Reporting.{reports-result}
use Rattle.lent.proofs.Calls.{zeroed}
use Rattle.lent.proofs.Sessions.{session-given, session-short, session-sized}
use Rattle.lent.proofs.sukoreta_lent_session.Goals as goal

pub returns-then-counts-lt-SESSION_COUNTS : goal.returns-then-counts-lt-SESSION_COUNTS
returns-then-counts-lt-SESSION_COUNTS c =
    let a = c.args in
    let x = c.clear in
    let y = c.clear-then-counts-lt-SESSION_COUNTS in
    let k = c.report in
    record {
      kept = session-short (order_of a.n0 a.generators0.now a.exchanges0.now a.images0.now)
          (order_of a.n1 a.generators1.now a.exchanges1.now a.images1.now) a.steps.now x.new.area y.new.area k.new.area
          (omega (arith, c.if-counts-lt-SESSION_COUNTS.true, k.auto.area))
          (reports-result (sym k.auto.area) (to_z-of_z w64 k.result (record { sfits = k.type_inv })) k.ensures.reported)
          (zeroed (pos 0) x.ensures.cleared x.auto.area) (zeroed 0 y.ensures.cleared y.auto.area);
    }

pub returns : goal.returns
returns c =
    let a = c.args in
    let l = c.session-answer in
    let size = c.lay_session.auto.area in
    record {
      kept = session-given (order_of a.n0 a.generators0.now a.exchanges0.now a.images0.now)
          (order_of a.n1 a.generators1.now a.exchanges1.now a.images1.now) a.steps.now l.new.list l.new.group
          c.lay_session.new.area
          (omega (arith, c.if-counts-lt-SESSION_COUNTS.false, size))
          (session-sized (sym l.auto.list) (sym l.auto.group) l.ensures.kept)
          (to_z-of_z w64 c.finished.result (record { sfits = c.finished.type_inv }) ∙ c.finished.ensures.counted)
          (c.lay_session.ensures.laid ∙ ap (λ (k : ℕ). filled 0 k (session_counts l.result)) (sym size));
    }
