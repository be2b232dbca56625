-- `end_order` meets its contract: zeros for an order that was turned down or has a sum left, and else step 5. Assumes
-- nothing.
use native.Mathlib.Omega.{arith}
use Rattle.session_orders.proofs.Halves.{ends-listed, ends-refused, ends-unfinished, rows-marked, stored-few}
use Rattle.session_orders.proofs.end_order.Goals as goal

pub returns-then-s : goal.returns-then-s
returns-then-s c = record { ended = ends-unfinished c.requires.standing c.requires.sized c.in-Ok.is (omega arith) c.clear-then-s.ensures.cleared }

pub finish-rows-requires : goal.finish-rows-requires
finish-rows-requires c = let e = c.in-Ok.is in record { held = rows-marked c.requires.standing c.requires.sized e; room = stored-few c.requires.standing c.requires.sized e }

pub returns-in-Err : goal.returns-in-Err
returns-in-Err c = record { ended = ends-refused c.requires.standing c.requires.sized c.in-Err.is c.clear.ensures.cleared }

pub returns-else-s : goal.returns-else-s
returns-else-s c = record { ended = ends-listed c.requires.standing c.requires.sized c.in-Ok.is (omega arith) c.finish-rows.ensures.finished }
