-- `take_image` meets its contract: the image is taken so often, or not at all. Assumes nothing.
use mathlib.Core.Path.{refl}
use native.Mathlib.Omega.{arith}
use Rattle.pieces.proofs.Joining.{takes_none, takes-some}
use Rattle.pieces.proofs.take_image.Goals as goal

pub returns-then-count-eq0 : goal.returns-then-count-eq0
returns-then-count-eq0 c =
    record {
      taken = takes_none c.args.place c.args.positive c.args.image c.args.t c.most_below-count.result
          c.most_below-count.ensures.most c.args.pieces.now c.if-count-eq0.true (omega arith) c.requires.ready.long;
    }

pub returns : goal.returns
returns c =
    record {
      taken = takes-some c.args.place c.args.positive c.args.image c.args.t c.most_below-count.result
          c.most_below-count.ensures.most _ c.args.pieces.now c.write_piece.new.pieces c.if-count-eq0.false
          c.less_multiple-less.ensures.rest refl c.write_piece.ensures.written;
    }
