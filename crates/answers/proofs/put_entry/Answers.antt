-- `put_entry` meets its contract. Assumes nothing.
use Rattle.std.proofs.Common.{rules, arith}
use Rattle.std.proofs.lemmas.Int.{to_z-of_z}
use Rattle.answers.proofs.Lines.{placed_first, placed-next}
use Rattle.answers.proofs.Pages.{wrote-append, wrote_as}
use Rattle.answers.proofs.put_entry.Goals as goal

pub returns-then-j-eq0 : goal.returns-then-j-eq0
returns-then-j-eq0 c =
    record { wrote = wrote_as c.put_integer.ensures.wrote (search (rules, placed_first)) }

pub returns : goal.returns
returns c =
    let w = wrote-append c.put_byte-next.ensures.wrote c.put_integer-2.ensures.wrote in
    record { wrote = wrote_as w (grind (arith, to_z-of_z, placed-next)) }
