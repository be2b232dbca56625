-- `draw_at` meets its contract. Assumes nothing.
use Rattle.std.proofs.Common.{rules}
use Rattle.draws.proofs.Records.{draw-from}
use Rattle.draws.proofs.draw_at.Goals as goal

pub returns : goal.returns
returns c = record { read = search (rules, draw-from) }
