-- `advance` meets its contract: the step decides, and where it stores a row the coefficients of that row are noted. Assumes
-- nothing.
use Prim.Native.Nat.{◌+◌}
use Rattle.std.proofs.lemmas.Result.{err_from_is_err_and}
use Rattle.certified.proofs.Advancing.{advanced-noted, advanced-past, advanced-quiet, advanced-stop, notable-fewer}
use Rattle.certified.proofs.Advancing.{row-stored, stored-within, test-more}
use Rattle.certified.proofs.advance.Goals as goal

pub returns-then-basis-t : goal.returns-then-basis-t
returns-then-basis-t c =
    record {
      advanced = advanced-quiet c.args.basis.now c.args.coefficients.now c.requires.ready c.requires.left c.in_ok-t.t
          c.in_ok-t.ensures.stepped c.requires.limited c.if-basis-t.true;
    }

pub note_row-requires-clause-stored : goal.note_row-requires-clause-stored
note_row-requires-clause-stored c =
    let more = test-more c.args.basis.now c.in_ok-t.t.stored c.args.s.stored c.if-basis-t.false in
    row-stored c.requires.ready c.requires.left c.in_ok-t.t c.in_ok-t.ensures.stepped more c.step.auto.list c.step.auto.marks

pub note_row-requires-clause-notable : goal.note_row-requires-clause-notable
note_row-requires-clause-notable c =
    let more = test-more c.args.basis.now c.in_ok-t.t.stored c.args.s.stored c.if-basis-t.false in
    notable-fewer (c.args.s.stored + 1) (stored-within c.requires.ready c.requires.left c.in_ok-t.t c.in_ok-t.ensures.stepped more) c.requires.notable

pub returns-then-note_row : goal.returns-then-note_row
returns-then-note_row c =
    let t = c.in_ok-t.t in
    let more = test-more c.args.basis.now t.stored c.args.s.stored c.if-basis-t.false in
    record {
      advanced = advanced-noted c.args.basis.now c.args.coefficients.now c.requires.ready c.requires.left t
          c.in_ok-t.ensures.stepped more c.note_row.ensures.noted c.requires.limited c.if-note_row.true;
    }

pub returns-in_err-t : goal.returns-in_err-t
returns-in_err-t c =
    let exit = err_from_is_err_and c.from_residual.result c.from_residual.ensures.1 in
    rw (exit.1, exit.2) (record {
      advanced = advanced-stop c.args.basis.now c.args.coefficients.now c.requires.ready c.requires.left c.in_err-t.ensures.stepped;
    })

pub returns : goal.returns
returns c =
    let t = c.in_ok-t.t in
    let more = test-more c.args.basis.now t.stored c.args.s.stored c.if-basis-t.false in
    record {
      advanced = advanced-past c.args.basis.now c.args.coefficients.now c.requires.ready c.requires.left t
          c.in_ok-t.ensures.stepped more c.note_row.ensures.noted c.if-note_row.false;
    }
