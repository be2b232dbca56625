-- `serve_check` meets its contract: a refusal of the scan, or the call on the order that it accepts. Assumes nothing.
use Rattle.std.proofs.Common.{rules}
use Rattle.promises.specs.Services.{served, served_by}
use Rattle.services.proofs.serve_check.Goals as goal

pub check_file-requires : goal.check_file-requires
check_file-requires c = record { accepted = search rules }

pub returns-in_err-c : goal.returns-in_err-c
unfolding served served_by
returns-in_err-c c = search rules

pub returns : goal.returns
unfolding served served_by
returns c = search rules
