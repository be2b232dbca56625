-- `put_natural` meets its contract: the digits of the tenth part, and the last one. Assumes nothing.
use mathlib.Core.Path.{sym}
use native.Mathlib.Omega.{arith}
use Rattle.answers.proofs.Pages.{wrote-append, wrote_as}
use Rattle.answers.proofs.Digits.{decimal-small, decimal-more}
use Rattle.answers.proofs.+put_natural.Goals as goal

pub returns-then-x-lt10 : goal.returns-then-x-lt10
returns-then-x-lt10 t c =
    record { wrote = wrote_as c.put_byte.ensures.wrote (sym (decimal-small c.args.x (omega arith))) }

pub returns : goal.returns
returns t c =
    record {
      wrote =
          wrote_as (wrote-append c.put_natural-next.ensures.wrote c.put_byte-2.ensures.wrote)
          (sym (decimal-more c.args.x (omega arith)));
    }
