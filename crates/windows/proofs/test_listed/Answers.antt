-- `test_listed` meets its contract: 6 and 14, and then the run. Assumes nothing.
use mathlib.Core.Path.{refl, sym, ◌∙◌}
use lib.ListN.{length}
use Rattle.definitions.specs.Calls.{Listing}
use Rattle.definitions.specs.Window.{Chain, Room}
use Rattle.theory.proofs.Faults.{unmet}
use Rattle.moves.specs.Found.{listing_in}
use Rattle.windows.proofs.Endings.{ends_same, refused-ends, tests-met, tests-unmet}
use Rattle.windows.proofs.test_listed.Goals as goal
use Rattle.windows.proofs.test_listed.Goals.{Start}

module _ (s : Start) where
  abbrev chain : Chain
  chain = record { start = s.args.start.now; width = s.args.view.width; cell = s.args.view.cell; records = s.args.records.now }

  abbrev areas : Room
  areas = record { list = length s.args.list.now; group = length s.args.group.now; answers = length s.args.answers.now }

  abbrev found : Listing
  found = listing_in s.args.view.n s.args.found s.args.list.now s.args.group.now

pub draw_listed-requires : goal.draw_listed-requires
draw_listed-requires c = record { held = c.requires.held; fitting = sym c.chain_fault.ensures.found ∙ unmet c.in_default.not-Err }

pub returns-in-Err : goal.returns-in-Err
returns-in-Err c =
    let s = (goal.at.returns-in-Err c).Start in
    let x = c.refuse in
    let e = sym c.chain_fault.ensures.found ∙ c.in-Err.is in record {
      ended = ends_same (tests-met c.args.view.n (chain s) (areas s) (found s) e) x.ensures.refused.answer_is
          (refused-ends (areas s) _ _ c.args.answers.now refl x.ensures.refused.list_holds x.ensures.refused.group_holds x.ensures.refused.answers_hold);
    }

pub returns : goal.returns
returns c =
    let s = (goal.at.returns c).Start in
    let e = sym c.chain_fault.ensures.found ∙ unmet c.in_default.not-Err in
    record { ended = ends_same (tests-unmet c.args.view.n (chain s) (areas s) (found s) e) refl c.draw_listed.ensures.ended }
