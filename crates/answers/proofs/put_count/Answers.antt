-- `put_count` meets its contract. Assumes nothing.
use Rattle.answers.proofs.Pages.{wrote-append}
use Rattle.answers.proofs.put_count.Goals as goal

pub returns : goal.returns
returns c =
    record {
      wrote = wrote-append c.put_byte-next.ensures.wrote
          c.put_natural.ensures.wrote;
    }
