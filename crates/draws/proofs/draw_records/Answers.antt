-- `draw_records` meets its contract: the records one by one, each with its answer row. Assumes nothing.
use Rattle.std.proofs.Common.{arith, rules}
use Rattle.draws.proofs.Running.{records-named, run-begun, run-ended, run_on, run-refused, sum-filled}
use Rattle.draws.proofs.draw_records.Goals as goal

pub loop-i-init : goal.loop-i-init
loop-i-init c = search (rules, run-begun)

pub returns-in_default : goal.returns-in_default
returns-in_default c = record { ran = run-refused _ _ _ _ _ _ c.loop-i.invariant c.loop-i-test.true c.draw_at-draw.ensures.read c.in_default.ensures.drawn }

pub answer-figures-requires-clause-named : goal.answer-figures-requires-clause-named
answer-figures-requires-clause-named c =
    records-named _ _ _ _ _ _ c.loop-i.invariant c.loop-i-test.true c.draw_at-draw.ensures.read c.in-Some.ensures.drawn c.requires.listed

pub answer-figures-requires-clause-filled : goal.answer-figures-requires-clause-filled
answer-figures-requires-clause-filled c =
    sum-filled _ _ _ _ _ _ c.loop-i.invariant c.loop-i-test.true c.draw_at-draw.ensures.read c.in-Some.ensures.drawn c.requires.listed c.requires.same

pub loop-i-preserved : goal.loop-i-preserved
loop-i-preserved c =
    run_on _ _ _ _ _ _ c.loop-i.invariant c.loop-i-test.true c.draw_at-draw.ensures.read c.in-Some.ensures.drawn c.requires.listed
    _ _ _ c.requires.viewable c.requires.same c.answer-figures.auto.answers c.answer-figures.ensures.shows c.answer-figures.ensures.answers

pub returns : goal.returns
returns c = record { ran = run-ended _ _ _ _ _ _ c.loop-i.invariant (omega arith) }
