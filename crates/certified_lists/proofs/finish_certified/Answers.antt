-- `finish_certified` meets its contract: the stored rows are copied, sorted, and their coefficients laid beside them. Assumes
-- nothing.
use mathlib.Core.Path.{sym}
use native.Mathlib.Omega.{arith}
use lib.Seq.{length-take-le}
use Rattle.certified_lists.proofs.Finishing.{arrangeable, arranged_is, front-copied, kept-room}
use Rattle.certified_lists.proofs.finish_certified.Goals as goal

pub overflow_mul-kept : goal.overflow_mul-kept
overflow_mul-kept c = omega (arith, kept-room c.args.extent c.args.m c.requires.noted c.finish-rows.ensures.finished)

pub slice_bounds-arrange-end : goal.slice_bounds-arrange-end
slice_bounds-arrange-end c = kept-room c.args.extent c.args.m c.requires.noted c.finish-rows.ensures.finished

pub slice_bounds-arrange-end-2 : goal.slice_bounds-arrange-end-2
slice_bounds-arrange-end-2 c = sym (length-take-le _ _ (kept-room c.args.extent c.args.m c.requires.noted c.finish-rows.ensures.finished))

pub arrange-requires : goal.arrange-requires
arrange-requires c =
    let N = c.requires.noted in
    record { arrangeable = arrangeable c.args.extent c.args.m N c.finish-rows.ensures.finished (front-copied _ c.args.list.now _ N.marked.area.holds c.copy_from_slice.ensures.after) c.finish-rows.auto.list }

pub returns : goal.returns
returns c =
    let N = c.requires.noted in
    record { arranged = arranged_is c.args.extent c.args.m N c.finish-rows.ensures.finished (front-copied _ c.args.list.now _ N.marked.area.holds c.copy_from_slice.ensures.after) _ c.arrange.ensures.arranged }
