-- `next_extremes` meets its contract: the window is read afresh, or what leaves it was none of its extremes. Assumes nothing.
use Rattle.std.proofs.Common.{rules}
use Rattle.figures.proofs.Values.{larger-choice, lesser-choice, max-is, min-is, telling, window-moved}
use Rattle.figures.proofs.next_extremes.Goals as goal

pub returns : goal.returns
returns c =
    let t = telling c.args.view c.args.answers.now c.args.i c.args.before c.is_stale.ensures.told c.if-is_stale.false in
    record {
      spans = record {
        smallest = search (rules, min-is, window-moved lesser-choice, t.smallest);
        largest = search (rules, max-is, window-moved larger-choice, t.largest);
      };
    }
