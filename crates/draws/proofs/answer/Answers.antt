-- `answer` meets its contract: the figures of the window, and the row that shows them. Assumes nothing.
use Rattle.std.proofs.Common.{[], ◌∷◌, pos, refl, rules}
use Rattle.draws.proofs.Answering.{counted-few, row-answers, values-shown}
use Rattle.draws.proofs.answer.Goals as goal

pub write_row-requires-clause-few : goal.write_row-requires-clause-few
write_row-requires-clause-few c = search (rules, counted-few)

pub returns-clause-shows : goal.returns-clause-shows
returns-clause-shows c =
    let e = c.next_extremes-extremes.result in
    let numbers = e.smallest ∷ e.largest ∷ pos c.count_rows-different.result ∷ [] in
    record {
      counted = c.count_rows-different.ensures.counts;
      spans = values-shown _ c.args.records.now _ _ _ c.args.table numbers c.requires.viewable c.requires.rows c.write_row.auto.answers c.requires.filled (search rules) (search rules);
    }

pub returns-clause-answers : goal.returns-clause-answers
returns-clause-answers c =
    let e = c.next_extremes-extremes.result in
    let numbers = e.smallest ∷ e.largest ∷ pos c.count_rows-different.result ∷ [] in
    row-answers _ _ _ _ _ _ numbers c.requires.viewable c.requires.rows c.write_row.auto.answers c.requires.filled (search rules) {e = e} (search rules)
    c.count_rows-different.ensures.counts.counted refl
