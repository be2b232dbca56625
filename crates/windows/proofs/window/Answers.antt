-- `window` meets its contract: the List, and then the tests and the run. Assumes nothing.
use mathlib.Core.Path.{◌≡◌, refl, ap, ap₂, ◌∙◌}
use mathlib.Core.List.{[]}
use Prim.Native.Nat.{ℕ}
use lib.IntN.{pos}
use lib.ListN.{length}
use Rattle.definitions.specs.declared.Answer.TheVariants.{Moves}
use Rattle.definitions.specs.Lent.{Order, filled, order_of}
use Rattle.definitions.specs.Refusals.{accepted}
use Rattle.definitions.specs.Calls.{Listing}
use Rattle.definitions.specs.Window.{Chain, Room, window_of}
use Rattle.moves.specs.declared.Numbers.{Numbers}
use Rattle.moves.specs.Found.{listing_in}
use Rattle.moves.specs.Promise.{ListPromise}
use Rattle.moves.proofs.Ends.{finds-is, found-refused, promise-accepted}
use Rattle.moves.proofs.Splits.{Numbered, listed, listed-held, listed_same}
use Rattle.windows.proofs.Endings.{call-listed, call-unlisted, ends_same, refused-ends}
use Rattle.windows.proofs.Promised.{window-promise}
use Rattle.windows.proofs.window.Goals as goal
use Rattle.windows.proofs.window.Goals.{After-make_list-found, In-Ok, Start}

-- what was sent, and the sizes of the areas
module _ (s : Start) where
  abbrev sent : Order
  sent = order_of s.args.n s.args.generators.now s.args.exchanges.now s.args.images.now

  abbrev chain : Chain
  chain = record { start = s.args.start.now; width = s.args.width; cell = s.args.cell; records = s.args.records.now }

  abbrev areas : Room
  areas = record { list = length s.args.list.now; group = length s.args.group.now; answers = length s.args.answers.now }

-- the areas that the List leaves
module _ (f : After-make_list-found) where
  abbrev start : Start
  start = (goal.at.After-make_list-found f).Start

  long : length f.make_list-found.new.list ≡ length start.args.list.now
  long = f.make_list-found.auto.list

  wide : length f.make_list-found.new.group ≡ length start.args.group.now
  wide = f.make_list-found.auto.group

-- the List found something
module _ (k : In-Ok) where
  abbrev f : After-make_list-found
  f = (goal.at.In-Ok k).After-make_list-found

  abbrev numbers : Numbers
  numbers = k.in-Ok.numbers

  promised : ListPromise (sent (start f)) (length f.args.list.now) (length f.args.group.now) (accepted (Moves numbers.rows numbers.members numbers.stored numbers.sums))
      f.make_list-found.new.list f.make_list-found.new.group
  promised = promise-accepted (sent (start f)) _ _ _ _ _ _ (long f) (wide f) (finds-is f.make_list-found.ensures.found k.in-Ok.is)

  found : Numbered promised (long f) (wide f) numbers
  found = listed promised (long f) (wide f) numbers refl

pub test_listed-requires : goal.test_listed-requires
test_listed-requires c =
    let p = (goal.at.test_listed-requires c).In-Ok in
    let q = (goal.at.test_listed-requires c).After-make_list-found in
    record { held = listed-held (promised p) (long q) (wide q) (found p) }

pub returns-in-Err : goal.returns-in-Err
returns-in-Err c =
    let s = (goal.at.returns-in-Err c).Start in
    let p = (goal.at.returns-in-Err c).After-make_list-found in
    let x = c.refuse in record {
      kept = window-promise (sent s) (chain s) (areas s)
          (ends_same (call-unlisted (sent s) (chain s) (areas s) (found-refused (sent s) _ _ (finds-is c.make_list-found.ensures.found c.in-Err.is))) x.ensures.refused.answer_is
          (refused-ends (areas s) _ _ c.args.answers.now refl
          (x.ensures.refused.list_holds ∙ ap (λ (m : ℕ). filled (pos 0) m []) (long p)) (x.ensures.refused.group_holds ∙ ap (λ (m : ℕ). filled 0 m []) (wide p)) x.ensures.refused.answers_hold))
          (x.auto.list ∙ long p) (x.auto.group ∙ wide p) x.auto.answers;
    }

pub returns-in-Ok : goal.returns-in-Ok
returns-in-Ok c =
    let p = (goal.at.returns-in-Ok c).In-Ok in
    let s = (goal.at.returns-in-Ok c).Start in
    let q = (goal.at.returns-in-Ok c).After-make_list-found in
    let x = c.test_listed in
    let at : Listing = listing_in c.args.n (numbers p) c.make_list-found.new.list c.make_list-found.new.group in record {
      kept = window-promise (sent s) (chain s) (areas s)
          (ends_same
          (ap₂ (λ (l m : ℕ). window_of c.args.n (chain s) (record { list = l; group = m; answers = length c.args.answers.now }) (accepted at)) (long q) (wide q)
          ∙ call-listed (sent s) (chain s) (areas s) (listed_same (promised p) (long q) (wide q) (found p)))
          refl x.ensures.ended)
          (x.auto.list ∙ long q) (x.auto.group ∙ wide q) x.auto.answers;
    }
