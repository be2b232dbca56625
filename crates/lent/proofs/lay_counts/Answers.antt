-- `lay_counts` meets its contract. The loop's invariant: i numbers are laid. Assumes nothing.
use native.Mathlib.Omega.{arith}
use lib.ListN.{take, length-take}
use Rattle.lent.proofs.Laying.{laying-start, laying-turn, laying-end}
use Rattle.lent.proofs.lay_counts.Goals as goal

pub loop-i-init : goal.loop-i-init
loop-i-init c = laying-start _ _

pub count_at-requires : goal.count_at-requires
count_at-requires c = record { some = c.requires.some }

pub offset_bounds-area-i : goal.offset_bounds-area-i
offset_bounds-area-i c = omega arith

pub bounds-area-i : goal.bounds-area-i
bounds-area-i c = omega arith

pub loop-i-smaller : goal.loop-i-smaller
loop-i-smaller c = omega arith

pub loop-i-preserved : goal.loop-i-preserved
loop-i-preserved c =
    let l = c.loop-i in
    laying-turn _ _ l.area l.i c.count_at.result l.invariant c.count_at.ensures.count (omega arith)

pub returns : goal.returns
returns c =
    let l = c.loop-i in
    let first = take c.args.k c.args.numbers.now in record {
      laid = laying-end first c.args.area.now l.area l.i l.invariant (omega arith)
          (omega (arith, c.requires.room, length-take c.args.k c.args.numbers.now));
    }
