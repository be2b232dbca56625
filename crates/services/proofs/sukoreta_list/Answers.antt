-- `sukoreta_list` meets its contract: it ends with what is served. Assumes nothing.
use lib.ListN.{length}
use mir.Syntax.{w64}
use mir.ValLaws.{to_z-of_z}
use Rattle.orders.specs.declared.Service.TheVariants.{List as ListService}
use Rattle.promises.proofs.Calls.{list-called}
use Rattle.services.proofs.Endings.{ends_as, served-ends, served-returns}
use Rattle.services.proofs.sukoreta_list.Goals as goal

pub respond-requires : goal.respond-requires
respond-requires c = let S = c.serve_list-reply.ensures.served in record { rows = S.room; small = served-returns ListService c.args.order.now S }

pub returns : goal.returns
returns c =
    let a = c.args in
    let k = c.respond in
    let E =
    served-ends ListService a.order.now c.serve_list-reply.ensures.served
    (length a.answer.now) (ends_as (to_z-of_z w64 k.result (record { sfits = k.type_inv })) k.ensures.ends) in record { kept = list-called a.order.now (length a.answer.now) E.results E.area_holds }
