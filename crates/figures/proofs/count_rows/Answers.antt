-- `count_rows` meets its contract: after the one record has left and before the other comes in, the area counts the
-- records that both windows share. Assumes nothing.
use Rattle.std.proofs.Common.{suc, ◌-◌, rules}
use Rattle.figures.specs.Window.{rows_in}
use Rattle.figures.proofs.Rows.{Tallied, newest-few, newest-in, newest-room, none_left, oldest-left, oldest-less, oldest-some}
use Rattle.figures.proofs.count_rows.Goals as goal
use Rattle.figures.proofs.count_rows.Goals.{Joined-width-i, then-width-i, else-width-i}

pub leave-kept-requires-clause-some : goal.leave-kept-requires-clause-some
leave-kept-requires-clause-some c = search (rules, oldest-some)

pub overflow_sub-kept : goal.overflow_sub-kept
overflow_sub-kept c = search (rules, oldest-less)

-- the one record has left, or none has to
middle : (c : Joined-width-i) → Tallied (rows_in c.args.records.now (suc c.args.i - c.args.width) c.args.i) c.if-width-i.uses c.if-width-i.kept
middle c =
    elim c.if-width-i.branch [
      | then-width-i w ↦ rw (w.uses-is, w.kept-is, w.leave-kept.ensures.used, w.leave-kept.ensures.only) (search (rules, oldest-left))
      | else-width-i w ↦ search (rules, none_left)
    ]

pub enter-requires-clause-few : goal.enter-requires-clause-few
enter-requires-clause-few c = search (rules, newest-few, middle (goal.at.enter-requires-clause-few c).Joined-width-i)

pub overflow_add-result : goal.overflow_add-result
overflow_add-result c = search (rules, newest-room, middle (goal.at.overflow_add-result c).Joined-width-i)

pub returns : goal.returns
returns c =
    record {
      counts = rw (c.enter.ensures.used, c.enter.ensures.first) (search (rules, newest-in, middle (goal.at.returns c).Joined-width-i));
    }
