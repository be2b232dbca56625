-- `draw_listed` meets its contract: the run, and what it leaves in the areas. Assumes nothing.
use mathlib.Core.Path.{◌≡◌, refl, subst, ◌∙◌}
use Prim.Native.Nat.{◌*◌, ◌/◌, ◌^◌, ◌≤◌, ◌<◌}
use native.Mathlib.Nat.{mul-le-mul_right}
use native.Mathlib.Omega.{arith}
use lib.ListN.{length}
use Rattle.definitions.specs.Limits.{cells, record_width}
use Rattle.definitions.specs.Vector.{Vector, padded}
use Rattle.definitions.specs.Window.{Room, answer_width}
use Rattle.reduction.specs.declared.Extent.{Extent}
use Rattle.moves.proofs.Splits.{vector-read}
use Rattle.draws.specs.Run.{Ran, visits_of}
use Rattle.windows.proofs.Endings.{Fits, chain_fits_lem, done-few, ends_same, run-answered, run-refused, start-filled}
use Rattle.windows.proofs.draw_listed.Goals as goal
use Rattle.windows.proofs.draw_listed.Goals.{After-draw_records-done, After-load-table, Start}

-- 6 and 14 are not met
fits : (s : Start) → Fits s.args.view s.args.start.now s.args.records.now s.args.answers.now
fits s = chain_fits_lem s.args.view s.args.start.now s.args.records.now s.args.answers.now s.requires.fitting

narrow : (s : Start) → s.args.view.n ≤ cells
narrow s = s.requires.held.table.narrow

pub load-table-requires : goal.load-table-requires
load-table-requires c =
    let s = (goal.at.load-table-requires c).Start in
    record { row = (narrow s, omega (arith, (fits s).sized)) }

-- the start as it was read
read : (c : After-load-table) → c.load-table.result ≡ padded c.args.start.now
read c =
    c.load-table.ensures.made ∙ vector-read c.args.view.n c.args.start.now (fits (goal.at.After-load-table c).Start).sized

pub draw_records-done-requires : goal.draw_records-done-requires
draw_records-done-requires c =
    let s = (goal.at.draw_records-done-requires c).Start in
    let e = read (goal.at.draw_records-done-requires c).After-load-table in record { listed = record { is_table = c.requires.held.table; area = c.requires.held.area; few = c.requires.held.few }; viewable = (fits s).viewable (narrow s); same = refl; begins = (rw e (start-filled c.args.view.n c.args.start.now (narrow s) (fits s).sized), rw e (fits s).entries); roomy = (fits s).roomy }

-- the records that were drawn
module _ (d : After-draw_records-done) where
  abbrev begun : Start
  begun = (goal.at.After-draw_records-done d).Start

  abbrev extent : Extent
  extent = record { shape = record { n = begun.args.view.n; g = begun.args.found.members }; k = begun.args.found.rows }

  abbrev areas : Room
  areas = record { list = length begun.args.list.now; group = length begun.args.group.now; answers = length begun.args.answers.now }

  ran : Ran begun.args.view (visits_of extent begun.args.list.now begun.args.group.now (padded begun.args.start.now) begun.args.records.now) d.draw_records-done.new.answers d.draw_records-done.result
  ran =
      subst (λ (v : Vector). Ran begun.args.view (visits_of extent begun.args.list.now begun.args.group.now v begun.args.records.now) d.draw_records-done.new.answers d.draw_records-done.result)
      (read (goal.at.After-draw_records-done d).After-load-table) d.draw_records-done.ensures.ran

  size : length d.draw_records-done.new.answers ≡ length begun.args.answers.now
  size = d.draw_records-done.auto.answers

  end_fits : d.draw_records-done.result * answer_width begun.args.view.n < 2 ^ 64
  end_fits =
      let a = begun.args in
      let few = done-few a.view a.found a.start.now a.records.now a.list.now a.group.now areas ran size in
      let most = mul-le-mul_right {m = d.draw_records-done.result} {n = length a.records.now / record_width} (answer_width a.view.n) few in
      omega (arith, most, (fits begun).roomy)

pub overflow_mul-end : goal.overflow_mul-end
overflow_mul-end c = record { fits = end_fits (goal.at.overflow_mul-end c).After-draw_records-done }

pub returns-then-done-count : goal.returns-then-done-count
returns-then-done-count c =
    let p = (goal.at.returns-then-done-count c).After-draw_records-done in
    let a = c.args in
    let x = c.refuse in record {
      ended = ends_same refl x.ensures.refused.answer_is
          (run-refused a.view a.found a.start.now a.records.now a.list.now a.group.now (areas p) (ran p) (size p) c.if-done-count.true x.ensures.refused.list_holds x.ensures.refused.group_holds x.ensures.refused.answers_hold);
    }

pub returns : goal.returns
returns c =
    let p = (goal.at.returns c).After-draw_records-done in
    let a = c.args in record { ended = run-answered a.view a.found a.start.now a.records.now a.list.now a.group.now (areas p) (ran p) (size p) c.if-done-count.false c.requires.held refl refl c.clear.ensures.cleared }
