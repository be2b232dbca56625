-- `serve_list` meets its contract: a refusal of the scan, or the call on the order that it accepts. Assumes nothing.
use mathlib.Core.Path.{sym, ◌∙◌}
use Rattle.orders.specs.declared.Service.TheVariants.{List as ListService}
use Rattle.services.proofs.Serving.{accepted-serves, refused-serves}
use Rattle.services.proofs.serve_list.Goals as goal

pub list_file-requires : goal.list_file-requires
list_file-requires c = record { accepted = sym c.scan.ensures.scanned ∙ c.in-Ok.is; room = c.requires.room }

pub returns-in-Err : goal.returns-in-Err
returns-in-Err c =
    record { served = refused-serves ListService c.args.order.now _ _ (sym c.scan.ensures.scanned ∙ c.in-Err.is) }

pub returns-in-Ok : goal.returns-in-Ok
returns-in-Ok c =
    record {
      served = accepted-serves ListService c.args.order.now (sym c.scan.ensures.scanned ∙ c.in-Ok.is)
          c.list_file.ensures.served;
    }
