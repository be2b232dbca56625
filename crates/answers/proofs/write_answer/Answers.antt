-- `write_answer` meets its contract: in each case its text is written into an area of zeros. Assumes nothing.
use mathlib.Core.Path.{◌∙◌, ap}
use Rattle.std.specs.declared.result.Result.TheVariants.{Ok, Err}
use Rattle.theory.proofs.Areas.{filled-nothing}
use Rattle.answers.proofs.Pages.{wrote-laid}
use Rattle.answers.proofs.Cases.{moves-text, split_text_lem, passed-text, refused-text}
use Rattle.answers.proofs.write_answer.Goals as goal

pub returns-in-Ok-Moves : goal.returns-in-Ok-Moves
returns-in-Ok-Moves c =
    let s = c.args in
    let k = c.in-Ok-Moves in
    let text = moves-text s.width s.numbers.now (k.is ∙ ap Ok (rw k.is at k.field-0-is)) in
    record { laid = wrote-laid (c.clear.ensures.cleared ∙ filled-nothing 0 _) text c.put_table.ensures.wrote }

pub returns-in-Ok-Split : goal.returns-in-Ok-Split
returns-in-Ok-Split c =
    let s = c.args in
    let k = c.in-Ok-Split in
    let text = split_text_lem s.width s.numbers.now (k.is ∙ ap Ok (rw k.is at k.field-0-is)) in
    record { laid = wrote-laid (c.clear.ensures.cleared ∙ filled-nothing 0 _) text c.put_table-in-Ok-Split.ensures.wrote }

pub returns-in-Ok-Passed : goal.returns-in-Ok-Passed
returns-in-Ok-Passed c =
    let s = c.args in
    let k = c.in-Ok-Passed in
    let text = passed-text s.width s.numbers.now (k.is ∙ ap Ok (rw k.is at k.field-0-is)) in
    record { laid = wrote-laid (c.clear.ensures.cleared ∙ filled-nothing 0 _) text c.put_head.ensures.wrote }

pub returns-in-Err : goal.returns-in-Err
returns-in-Err c =
    let s = c.args in
    let k = c.in-Err in
    let text = refused-text s.width s.numbers.now (k.is ∙ ap Err k.field-0-is) in
    record { laid = wrote-laid (c.clear.ensures.cleared ∙ filled-nothing 0 _) text c.put_head-in-Err.ensures.wrote }
