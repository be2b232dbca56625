-- `run` meets its contract. The invariant: the sums that are left come to the whole run's end. The measure: their number.
-- Assumes nothing.
use Prim.Native.Nat.{◌<◌}
use native.Mathlib.Omega.{arith}
use Rattle.std.proofs.lemmas.Result.{err_from_is_err_and}
use Rattle.certified.proofs.Turns.{looped-next, looped-less, looped-stop, looped-end}
use Rattle.certified.proofs.run.Goals as goal
use Rattle.certified.proofs.run.Goals.{In-loop-s}

-- a sum is left
left : (c : In-loop-s) → c.loop-s.s.i < c.loop-s.s.stored
left c = let counted = c.loop-s.invariant.ready.counted in omega arith

pub loop-s-smaller : goal.loop-s-smaller
loop-s-smaller c = looped-less c.loop-s.invariant (left (goal.at.loop-s-smaller c).In-loop-s) c.in_ok-s.s c.in_ok-s.ensures.advanced

pub loop-s-preserved : goal.loop-s-preserved
loop-s-preserved c =
    looped-next c.loop-s.invariant (left (goal.at.loop-s-preserved c).In-loop-s) c.in_ok-s.s c.in_ok-s.ensures.advanced
    c.advance.auto.list c.advance.auto.marks c.advance.auto.coefficients

pub returns-in_err-s : goal.returns-in_err-s
returns-in_err-s c =
    let exit = err_from_is_err_and c.from_residual.result c.from_residual.ensures.1 in
    rw (exit.1, exit.2) (record { ran = looped-stop c.loop-s.invariant (left (goal.at.returns-in_err-s c).In-loop-s) c.in_err-s.ensures.advanced })

pub returns : goal.returns
returns c = record { ran = looped-end c.loop-s.invariant c.loop-s-test.false }
