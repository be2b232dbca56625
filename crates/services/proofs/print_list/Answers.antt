-- `print_list` meets its contract: it prints what is served for the bytes that were read. Assumes nothing.
use mathlib.Core.Path.{sym}
use lib.ListN.{length, take}
use lib.Seq.{length-take-le}
use Rattle.orders.specs.declared.Service.TheVariants.{List as ListService}
use Rattle.promises.proofs.Printing.{list-printed}
use Rattle.services.proofs.Endings.{served-input}
use borrow.Author.Rules.{rules}
use Rattle.services.proofs.print_list.Goals as goal

pub slice_bounds-serve_list-end : goal.slice_bounds-serve_list-end
slice_bounds-serve_list-end c = sym (length-take-le _ _ c.requires.read)

pub returns : goal.returns
returns c =
    let bytes = take c.args.n c.args.buffer.now in
    let k = c.print in
    let S = c.serve_list-reply.ensures.served in record {
      counted = k.ensures.laid.counted;
      printed = λ input e.
          list-printed input
          (served-input ListService bytes S (length c.args.buffer.now) (search rules) k.ensures.roomy k.ensures.laid input e);
    }
