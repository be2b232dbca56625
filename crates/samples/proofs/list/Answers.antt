-- `list` is safe: what it lends of its areas lies within them. Assumes nothing.
use lib.IntN.{pos}
use Rattle.definitions.specs.Limits.{cells, group_limit, list_limit}
use Rattle.samples.proofs.Areas.{part-long}
use Rattle.samples.proofs.list.Goals as goal

pub slice_bounds-list_in-end : goal.slice_bounds-list_in-end
slice_bounds-list_in-end c = part-long list_limit cells c.args.n (pos 0) c.requires.sized.1

pub slice_bounds-list_in-end-2 : goal.slice_bounds-list_in-end-2
slice_bounds-list_in-end-2 c =
    part-long group_limit cells c.args.n 0
    c.requires.sized.1
