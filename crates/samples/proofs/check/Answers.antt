-- `check` is safe: what it lends of its areas lies within them. Assumes nothing.
use Rattle.definitions.specs.Limits.{cells, group_limit}
use Rattle.samples.proofs.Areas.{part-long}
use Rattle.samples.proofs.check.Goals as goal

pub slice_bounds-check-end : goal.slice_bounds-check-end
slice_bounds-check-end c = part-long group_limit cells c.args.n 0 c.requires.sized
