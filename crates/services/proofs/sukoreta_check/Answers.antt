-- `sukoreta_check` meets its contract: it ends with what is served, which has no lines. Assumes nothing.
use mathlib.Core.List.{[], ◌∷◌}
use lib.IntN.{pos}
use lib.ListN.{length}
use mir.Syntax.{w64}
use mir.ValLaws.{to_z-of_z}
use Rattle.orders.specs.declared.Service.TheVariants.{Check as CheckService}
use Rattle.promises.proofs.Calls.{check-called}
use Rattle.services.proofs.Serving.{check-serves}
use Rattle.services.proofs.Endings.{ends_as, served-ends, served-returns}
use Rattle.services.proofs.sukoreta_check.Goals as goal

pub respond-requires : goal.respond-requires
respond-requires c =
    let S = check-serves c.args.order.now 0 (pos 0 ∷ []) c.serve_check-found.ensures.served in record { rows = S.room; small = served-returns CheckService c.args.order.now S }

pub returns : goal.returns
returns c =
    let a = c.args in
    let k = c.respond in
    let E =
    served-ends CheckService a.order.now (check-serves a.order.now 0 (pos 0 ∷ []) c.serve_check-found.ensures.served)
    (length a.answer.now) (ends_as (to_z-of_z w64 k.result (record { sfits = k.type_inv })) k.ensures.ends) in record { kept = check-called a.order.now (length a.answer.now) E.results E.area_holds }
