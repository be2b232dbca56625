-- `print_check` meets its contract: it prints what is served for the bytes that were read. Assumes nothing.
use mathlib.Core.Path.{sym}
use mathlib.Core.List.{[], ◌∷◌}
use lib.IntN.{pos}
use lib.ListN.{length, take}
use lib.Seq.{length-take-le}
use Rattle.orders.specs.declared.Service.TheVariants.{Check as CheckService}
use Rattle.promises.proofs.Printing.{check-printed}
use Rattle.services.proofs.Serving.{check-serves}
use Rattle.services.proofs.Endings.{served-input}
use borrow.Author.Rules.{rules}
use Rattle.services.proofs.print_check.Goals as goal

pub slice_bounds-serve_check-end : goal.slice_bounds-serve_check-end
slice_bounds-serve_check-end c = sym (length-take-le _ _ c.requires.read)

pub returns : goal.returns
returns c =
    let bytes = take c.args.n c.args.buffer.now in
    let k = c.print in
    let S = check-serves bytes 0 (pos 0 ∷ []) c.serve_check-found.ensures.served in record {
      counted = k.ensures.laid.counted;
      printed = λ input e.
          check-printed input
          (served-input CheckService bytes S (length c.args.buffer.now) (search rules) k.ensures.roomy k.ensures.laid input e);
    }
