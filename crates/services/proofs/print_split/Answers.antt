-- `print_split` meets its contract: it prints what is served for the bytes that were read. Assumes nothing.
use mathlib.Core.Path.{sym}
use lib.ListN.{length, take}
use lib.Seq.{length-take-le}
use Rattle.orders.specs.declared.Service.TheVariants.{Split as SplitService}
use Rattle.promises.proofs.Printing.{split-printed}
use Rattle.services.proofs.Endings.{served-input}
use borrow.Author.Rules.{rules}
use Rattle.services.proofs.print_split.Goals as goal

pub slice_bounds-serve_split-end : goal.slice_bounds-serve_split-end
slice_bounds-serve_split-end c = sym (length-take-le _ _ c.requires.read)

pub returns : goal.returns
returns c =
    let bytes = take c.args.n c.args.buffer.now in
    let k = c.print in
    let S = c.serve_split-found.ensures.served in record {
      counted = k.ensures.laid.counted;
      printed = λ input e.
          split-printed input
          (served-input SplitService bytes S (length c.args.buffer.now) (search rules) k.ensures.roomy k.ensures.laid input e);
    }
