-- `split_file` meets its contract: the areas have room for any order. Assumes nothing.
use Rattle.orders.specs.declared.Service.TheVariants.{Split as SplitService}
use Rattle.services.proofs.Rooms.{order-fits}
use borrow.Author.Rules.{rules}
use Rattle.services.proofs.split_file.Goals as goal

pub read_order-requires : goal.read_order-requires
read_order-requires c = record { fits = order-fits SplitService c.args.order.now c.args.c c.requires.accepted (search rules) (search rules) (search rules) }
