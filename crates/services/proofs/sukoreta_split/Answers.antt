-- `sukoreta_split` meets its contract: it ends with what is served. Assumes nothing.
use lib.ListN.{length}
use mir.Syntax.{w64}
use mir.ValLaws.{to_z-of_z}
use Rattle.orders.specs.declared.Service.TheVariants.{Split as SplitService}
use Rattle.promises.proofs.Calls.{split-called}
use Rattle.services.proofs.Endings.{ends_as, served-ends, served-returns}
use Rattle.services.proofs.sukoreta_split.Goals as goal

pub respond-requires : goal.respond-requires
respond-requires c = let S = c.serve_split-found.ensures.served in record { rows = S.room; small = served-returns SplitService c.args.order.now S }

pub returns : goal.returns
returns c =
    let a = c.args in
    let k = c.respond in
    let E =
    served-ends SplitService a.order.now c.serve_split-found.ensures.served
    (length a.answer.now) (ends_as (to_z-of_z w64 k.result (record { sfits = k.type_inv })) k.ensures.ends) in record { kept = split-called a.order.now (length a.answer.now) E.results E.area_holds }
