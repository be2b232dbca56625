-- `descend_listed` meets its contract: the descent, and its plan in the plan area. Assumes nothing.
use mathlib.Core.Path.{◌≡◌, refl, sym, ap, subst, ◌∙◌}
use Prim.Native.Nat.{◌≤◌}
use native.Mathlib.Omega.{arith}
use lib.ListN.{length}
use Rattle.definitions.specs.declared.Terms.{Terms}
use Rattle.definitions.specs.Limits.{cells}
use Rattle.definitions.specs.Vector.{Vector, padded}
use Rattle.definitions.specs.Plan.{PlanRoom, Problem, terms_of}
use Rattle.plan_theory.proofs.Problems.{Sound, problem-sound}
use Rattle.moves.proofs.Splits.{vector-read}
use Rattle.reduction.specs.declared.Extent.{Extent}
use Rattle.descents.specs.Steps.{DescendsTo, Planning}
use Rattle.plans.specs.Found.{Measured, planned_in}
use Rattle.plans.proofs.Endings.{descended-ends, descent-measured, sound-planning}
use Rattle.plans.proofs.descend_listed.Goals as goal
use Rattle.plans.proofs.descend_listed.Goals.{After-improve-end, After-load-first, Start}

module _ (s : Start) where
  abbrev problem : Problem
  problem = record { start = s.args.start.now; upper = s.args.upper.now; costs = s.args.costs.now; budget = s.args.budget }

  abbrev areas : PlanRoom
  areas = record { list = length s.args.list.now; group = length s.args.group.now; plan = length s.args.plan.now }

  -- 6, 26 and 27 are not met
  sound : Sound s.args.n problem (length s.args.plan.now)
  sound = problem-sound s.args.n problem (length s.args.plan.now) s.requires.fitting

  narrow : s.args.n ≤ cells
  narrow = s.requires.held.table.narrow

  planning : Planning (terms_of problem) (padded s.args.start.now)
  planning = sound-planning problem narrow sound

-- the three vectors, as they were read
module _ (l : After-load-first) where
  abbrev begun : Start
  begun = (goal.at.After-load-first l).Start

  abbrev read : Terms
  read = record { upper = l.load-upper.result; costs = l.load-costs.result }

  read_is : read ≡ terms_of (problem begun)
  unfolding terms_of
  read_is = λ i. record {
    upper = (l.load-upper.ensures.made ∙ vector-read begun.args.n begun.args.upper.now (sound begun).sized.upper) i;
    costs = (l.load-costs.ensures.made ∙ vector-read begun.args.n begun.args.costs.now (sound begun).sized.costs) i;
  }

  first-is : l.load-first.result ≡ padded begun.args.start.now
  first-is = l.load-first.ensures.made ∙ vector-read begun.args.n begun.args.start.now (sound begun).sized.start

-- the descent from them
module _ (d : After-improve-end) where
  abbrev loads : After-load-first
  loads = (goal.at.After-improve-end d).After-load-first

  abbrev extent : Extent
  extent = record { shape = record { n = loads.args.n; g = loads.args.found.members }; k = loads.args.found.rows }

  descends : DescendsTo (terms_of (problem (begun loads))) extent loads.args.group.now loads.args.list.now loads.args.budget
      (padded loads.args.start.now) d.improve-end.result
  descends =
      let a = loads.args in
      subst (λ (t : Terms). DescendsTo t extent a.group.now a.list.now a.budget (padded a.start.now) d.improve-end.result) (read_is loads)
      (subst (λ (v : Vector). DescendsTo (read loads) extent a.group.now a.list.now a.budget v d.improve-end.result) (first-is loads) d.improve-end.ensures.descended)

pub load-upper-requires : goal.load-upper-requires
load-upper-requires c =
    let s = (goal.at.load-upper-requires c).Start in
    record { row = (narrow s, omega (arith, (sound s).sized.upper)) }

pub load-costs-requires : goal.load-costs-requires
load-costs-requires c =
    let s = (goal.at.load-costs-requires c).Start in
    record { row = (narrow s, omega (arith, (sound s).sized.costs)) }

pub load-first-requires : goal.load-first-requires
load-first-requires c =
    let s = (goal.at.load-first-requires c).Start in
    record { row = (narrow s, omega (arith, (sound s).sized.start)) }

pub improve-end-requires : goal.improve-end-requires
improve-end-requires c =
    let p = (goal.at.improve-end-requires c).After-load-first in
    let s = (goal.at.improve-end-requires c).Start in
    let held = c.requires.held in
    let terms = subst (λ (t : Terms). Planning t c.load-first.result) (sym (read_is p)) (subst (Planning (terms_of (problem s))) (sym (first-is p)) (planning s)) in record { listed = record { is_table = held.table; area = held.area; few = held.few; small = held.small }; planning = terms; few = (sound s).sized.few; room = c.requires.room }

pub store-requires : goal.store-requires
store-requires c =
    let s = (goal.at.store-requires c).Start in
    record { row = (narrow s, omega (arith, (sound s).sized.room)) }

pub conclude-requires : goal.conclude-requires
conclude-requires c = record { measured = subst (λ (t : Terms). Measured t c.improve-end.result) (sym (read_is (goal.at.conclude-requires c).After-load-first)) (descent-measured (descends (goal.at.conclude-requires c).After-improve-end) (planning (goal.at.conclude-requires c).Start)) }

pub returns : goal.returns
returns c =
    let s = (goal.at.returns c).Start in
    let a = c.args in
    let same = c.conclude.ensures.told ∙ ap (λ (t : Terms). planned_in t a.found c.improve-end.result) (read_is (goal.at.returns c).After-load-first) in
    let E = descended-ends a.n a.found (problem s) a.list.now a.group.now (descends (goal.at.returns c).After-improve-end) (areas s) c.requires.held refl refl (planning s) a.plan.now refl (sound s).sized.room c.store.ensures.stored in record { ended = record { answer_is = same ∙ E.answer_is; list_holds = E.list_holds; group_holds = E.group_holds; plan_holds = E.plan_holds } }
