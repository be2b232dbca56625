-- `complete` meets its contract: step 1, the coefficients of its rows, and then the run. Assumes nothing.
use Rattle.std.proofs.lemmas.Result.{err_from_is_err_and}
use Rattle.certified.proofs.Joined.{first-noted, first-notable, first-ready, first-stored, first-untried}
use Rattle.certified.proofs.Joined.{joined-run, joined-stop}
use Rattle.certified.proofs.complete.Goals as goal

pub note_first-requires-clause-stored : goal.note_first-requires-clause-stored
note_first-requires-clause-stored c =
    first-stored c.args.sizes c.args.generators.now c.args.basis.now c.in_ok-s.s c.in_ok-s.ensures.begun c.requires.areas
    c.begin.auto.list c.requires.admissible c.requires.own

pub note_first-requires-clause-notable : goal.note_first-requires-clause-notable
note_first-requires-clause-notable c =
    first-notable c.args.sizes c.args.generators.now c.args.basis.now c.in_ok-s.s c.in_ok-s.ensures.begun c.requires.areas
    c.begin.auto.list c.requires.admissible c.requires.notable

pub run-requires-clause-ready : goal.run-requires-clause-ready
run-requires-clause-ready c =
    first-ready c.args.sizes c.args.generators.now c.args.basis.now c.in_ok-s.s c.in_ok-s.ensures.begun c.requires.areas
    c.begin.auto.list c.requires.admissible c.begin.auto.marks

pub run-requires-clause-untried : goal.run-requires-clause-untried
run-requires-clause-untried c = first-untried c.args.sizes c.args.generators.now c.args.basis.now c.in_ok-s.s c.in_ok-s.ensures.begun

pub run-requires-clause-limited : goal.run-requires-clause-limited
run-requires-clause-limited c =
    (first-noted c.args.sizes c.args.generators.now c.args.basis.now c.in_ok-s.s c.in_ok-s.ensures.begun _ c.requires.own
    c.note_first.ensures.noted).limited

pub returns-in_err-s : goal.returns-in_err-s
returns-in_err-s c =
    let exit = err_from_is_err_and c.from_residual.result c.from_residual.ensures.1 in
    rw (exit.1, exit.2) (record {
      completed = joined-stop c.args.sizes c.args.generators.now c.args.basis.now c.in_err-s.ensures.begun;
    })

pub returns : goal.returns
returns c =
    record {
      completed = joined-run c.args.sizes c.args.generators.now c.args.basis.now c.in_ok-s.s c.in_ok-s.ensures.begun _
          c.requires.own c.note_first.ensures.noted c.run.ensures.ran;
    }
