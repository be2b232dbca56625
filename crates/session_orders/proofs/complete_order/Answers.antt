-- `complete_order` meets its contract: a cleared half, step 1, the steps, and the end. Assumes nothing.
use mathlib.Core.Path.{◌∙◌}
use native.Mathlib.Omega.{arith}
use Rattle.session_orders.proofs.Halves.{begun-standing, cleared-areas, cleared-long, ends-taken}
use Rattle.session_orders.proofs.complete_order.Goals as goal

pub begin-c-requires : goal.begin-c-requires
begin-c-requires c = record { areas = cleared-areas c.requires.grouped c.args.list.now c.requires.sized c.clear.ensures.cleared (omega arith); admissible = c.requires.grouped.admissible }

pub take_steps-last-requires : goal.take_steps-last-requires
take_steps-last-requires c =
    record {
      standing = begun-standing c.requires.grouped c.args.list.now c.requires.sized c.clear.ensures.cleared c.begin-c.auto.list
          (omega (arith, c.begin-c.auto.marks)) c.begin-c.ensures.begun;
    }

pub end_order-requires : goal.end_order-requires
end_order-requires c =
    record {
      standing = c.take_steps-last.ensures.taken.standing;
      sized = c.take_steps-last.auto.list ∙ c.begin-c.auto.list
          ∙ cleared-long c.requires.grouped c.args.list.now c.requires.sized c.clear.ensures.cleared;
    }

pub returns : goal.returns
returns c = record { ended = ends-taken c.requires.grouped c.args.count c.begin-c.ensures.begun c.take_steps-last.ensures.taken c.end_order.ensures.ended }
