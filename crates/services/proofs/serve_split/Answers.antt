-- `serve_split` meets its contract: a refusal of the scan, or the call on the order that it accepts. Assumes nothing.
use Rattle.std.proofs.Common.{rules, ◌≡◌}
use Rattle.std.proofs.lemmas.Result.{err_from_is_err_and}
use mathlib.Core.Path.{sym, ◌∙◌}
use Rattle.definitions.specs.Refusals.{accepted}
use Rattle.orders.specs.declared.Service.TheVariants.{Split as SplitService}
use Rattle.orders.specs.Scan.{scan_of}
use Rattle.services.proofs.Serving.{accepted-serves, refused-serves}
use Rattle.services.proofs.serve_split.Goals as goal

pub split_file-requires : goal.split_file-requires
split_file-requires c = record { accepted = search rules; room = c.requires.room }

pub returns-in_err-c : goal.returns-in_err-c
returns-in_err-c c =
    let p = err_from_is_err_and c.from_residual.result c.from_residual.ensures.1 in
    record { served = rw (p.1, p.2) (refused-serves SplitService c.args.order.now _ _ (sym c.scan.ensures.scanned ∙ c.in_err-c.was)) }

pub returns : goal.returns
returns c =
    let e : scan_of SplitService c.args.order.now ≡ accepted c.in_ok-c.c = search rules in
    record { served = accepted-serves SplitService c.args.order.now e c.split_file.ensures.served }
