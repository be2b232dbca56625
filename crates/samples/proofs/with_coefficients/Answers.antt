-- `with_coefficients` is safe: what it lends of its areas lies within them. Assumes nothing.
use lib.IntN.{pos}
use Rattle.definitions.specs.Limits.{cells, generator_limit, group_limit, list_limit}
use Rattle.samples.proofs.Areas.{part-long}
use Rattle.samples.proofs.with_coefficients.Goals as goal

pub slice_bounds-with_coefficients_in-end : goal.slice_bounds-with_coefficients_in-end
slice_bounds-with_coefficients_in-end c = part-long list_limit cells c.args.n (pos 0) c.requires.sized.1

pub slice_bounds-with_coefficients_in-end-2 : goal.slice_bounds-with_coefficients_in-end-2
slice_bounds-with_coefficients_in-end-2 c =
    part-long group_limit cells c.args.n 0
    c.requires.sized.1

pub slice_bounds-with_coefficients_in-end-3 : goal.slice_bounds-with_coefficients_in-end-3
slice_bounds-with_coefficients_in-end-3 c =
    part-long list_limit generator_limit c.args.m (pos 0)
    c.requires.counted.1
