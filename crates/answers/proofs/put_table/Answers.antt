-- `put_table` meets its contract: three pieces, one behind the other. Assumes nothing.
use Rattle.answers.specs.Answers.{table_text}
use Rattle.answers.proofs.Pages.{wrote-append}
use Rattle.answers.proofs.put_table.Goals as goal

pub returns : goal.returns
unfolding table_text
returns c =
    record {
      wrote = wrote-append (wrote-append c.put_head-head.ensures.wrote c.put_rows-rows.ensures.wrote)
          c.put_text.ensures.wrote;
    }
