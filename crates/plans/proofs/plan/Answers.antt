-- `plan` meets its contract: the List, and then the tests and the descent. Assumes nothing.
use mathlib.Core.Path.{◌≡◌, refl, ap₂, ◌∙◌}
use Prim.Native.Nat.{ℕ}
use lib.ListN.{length}
use Rattle.definitions.specs.declared.Answer.TheVariants.{Moves}
use Rattle.definitions.specs.Lent.{Order, order_of}
use Rattle.definitions.specs.Refusals.{accepted}
use Rattle.definitions.specs.Calls.{Listing}
use Rattle.definitions.specs.Plan.{PlanRoom, Problem, plan_of, plan_refused}
use Rattle.moves.specs.declared.Numbers.{Numbers}
use Rattle.moves.specs.Found.{listing_in}
use Rattle.moves.specs.Promise.{ListPromise}
use Rattle.moves.proofs.Ends.{finds-is, found-refused, promise-accepted}
use Rattle.moves.proofs.Splits.{Numbered, listed, listed-held, listed_same}
use Rattle.plans.proofs.Endings.{call-listed, call-unlisted, ends_same}
use Rattle.plans.proofs.Promised.{plan-promise}
use native.Mathlib.Omega.{arith}
use Rattle.plans.proofs.plan.Goals as goal
use Rattle.plans.proofs.plan.Goals.{After-make_list_with-found, In-Ok, Start}

-- what was sent, and the sizes of the areas
module _ (s : Start) where
  abbrev sent : Order
  sent = order_of s.args.n s.args.generators.now s.args.exchanges.now s.args.images.now

  abbrev problem : Problem
  problem = record { start = s.args.start.now; upper = s.args.upper.now; costs = s.args.costs.now; budget = s.args.budget }

  abbrev areas : PlanRoom
  areas = record { list = length s.args.list.now; group = length s.args.group.now; plan = length s.args.plan.now }

-- the areas that the List leaves
module _ (f : After-make_list_with-found) where
  abbrev start : Start
  start = (goal.at.After-make_list_with-found f).Start

  long : length f.make_list_with-found.new.list ≡ length start.args.list.now
  long = f.make_list_with-found.auto.list

  wide : length f.make_list_with-found.new.group ≡ length start.args.group.now
  wide = f.make_list_with-found.auto.group

-- the List found something
module _ (k : In-Ok) where
  abbrev f : After-make_list_with-found
  f = (goal.at.In-Ok k).After-make_list_with-found

  abbrev numbers : Numbers
  numbers = k.in-Ok.numbers

  promised : ListPromise (sent (start f)) (length f.args.list.now) (length f.args.group.now) (accepted (Moves numbers.rows numbers.members numbers.stored numbers.sums))
      f.make_list_with-found.new.list f.make_list_with-found.new.group
  promised = promise-accepted (sent (start f)) _ _ _ _ _ _ (long f) (wide f) (finds-is f.make_list_with-found.ensures.found k.in-Ok.is)

  found : Numbered promised (long f) (wide f) numbers
  found = listed promised (long f) (wide f) numbers refl

pub test_listed-requires : goal.test_listed-requires
test_listed-requires c =
    let p = (goal.at.test_listed-requires c).In-Ok in
    let q = (goal.at.test_listed-requires c).After-make_list_with-found in
    record { held = listed-held (promised p) (long q) (wide q) (found p); room = omega (arith, c.make_list_with-found.auto.marks) }

pub returns-in-Err : goal.returns-in-Err
returns-in-Err c =
    let p = (goal.at.returns-in-Err c).After-make_list_with-found in
    let s = (goal.at.returns-in-Err c).Start in
    let x = c.refuse in
    let due = ap₂ (λ (l m : ℕ). plan_refused (record { list = l; group = m; plan = length c.args.plan.now }) c.in-Err.refusal.number c.in-Err.refusal.place) (long p) (wide p)
    ∙ call-unlisted (sent s) (problem s) (areas s) (found-refused (sent s) _ _ (finds-is c.make_list_with-found.ensures.found c.in-Err.is)) in
    let E = ends_same due x.ensures.refused in record {
      kept = plan-promise (sent s) (problem s) (areas s) E.answer_is E.list_holds E.group_holds E.plan_holds
          (x.auto.list ∙ long p) (x.auto.group ∙ wide p) x.auto.plan;
    }

pub returns-in-Ok : goal.returns-in-Ok
returns-in-Ok c =
    let p = (goal.at.returns-in-Ok c).In-Ok in
    let s = (goal.at.returns-in-Ok c).Start in
    let q = (goal.at.returns-in-Ok c).After-make_list_with-found in
    let x = c.test_listed in
    let at : Listing = listing_in c.args.n (numbers p) c.make_list_with-found.new.list c.make_list_with-found.new.group in
    let due =
    ap₂ (λ (l m : ℕ). plan_of c.args.n (problem s) (record { list = l; group = m; plan = length c.args.plan.now }) (accepted at)) (long q) (wide q)
    ∙ call-listed (sent s) (problem s) (areas s) (listed_same (promised p) (long q) (wide q) (found p)) in
    let E = ends_same due x.ensures.ended in record {
      kept = plan-promise (sent s) (problem s) (areas s) E.answer_is E.list_holds E.group_holds E.plan_holds
          (x.auto.list ∙ long q) (x.auto.group ∙ wide q) x.auto.plan;
    }
