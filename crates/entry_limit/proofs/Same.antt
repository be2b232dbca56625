-- With `entry_limit` the calls and services of this crate are those of `definitions` and `promises`. Assumes nothing.
use Rattle.definitions.specs.Refusals.{accepted}
use Rattle.std.specs.declared.result.Result.TheVariants.{Err}
use Rattle.orders.specs.declared.Counts.{Counts}
use Rattle.definitions.specs.Refusals.{Fault}
use mathlib.Core.Path.{◌≡◌, refl, ap, ◌∙◌}
use mathlib.Core.Bool.{cond}
use mathlib.Core.List.{List, [], ◌∷◌}
use Prim.Native.Nat.{ℕ, zero, suc}
use lib.IntN.{ℤ}
use Rattle.definitions.specs.Limits.{entry_limit}
use Rattle.definitions.specs.Lists.{until}
use Rattle.definitions.specs.Group.{Exchange}
use Rattle.definitions.specs.Completion.{Completion, running, stopped, completed, is_over, run, settled, step}
use Rattle.definitions.specs.Lent.{Order, list_rows, table_of, whole_rows}
use Rattle.definitions.specs.Refusals.{Outcome, admission_fault, cells_fault, first_fault, is_unfit, numbers_fault}
use Rattle.definitions.specs.Refusals.{order_fault, rows_fault, split_size_fault, unless_fault}
use Rattle.definitions.specs.Calls.{Listing, Parts, SplitEnd, check_call, check_fault, list_call, list_end, listing}
use Rattle.definitions.specs.Calls.{listing_of, parts, parts_of}
use Rattle.definitions.specs.Calls.{rules_fault, split_call, split_end}
use Rattle.orders.specs.declared.Service.{Service}
use Rattle.orders.specs.declared.Service.TheVariants.{List as ListService, Split as SplitService}
use Rattle.orders.specs.declared.Service.TheVariants.{Check as CheckService}
use Rattle.orders.specs.Scan.{scan_of}
use Rattle.orders.specs.Operands.{coefficients_in, rows_in, vector_in}
use Rattle.promises.specs.Services.{group_size, list_size, order_in, pieces_size, served, served_by}
use Rattle.entry_limit.specs.Calls.{admission_fault_within, check_call_within, check_fault_within, completed_within}
use Rattle.entry_limit.specs.Calls.{is_unfit_within, list_call_within, listing_within, numbers_fault_within}
use Rattle.entry_limit.specs.Calls.{order_fault_within, parts_within, rows_fault_within, rules_fault_within, run_within}
use Rattle.entry_limit.specs.Calls.{settled_within, split_call_within, step_within}
use Rattle.entry_limit.specs.Services.{check_served, list_served, served_by_within, served_within, split_served}

step_same : (table : List Exchange) (limit : ℕ) (c : Completion)
    → step_within entry_limit table limit c ≡ step table limit c
unfolding step settled step_within settled_within
step_same table limit (stopped number place) = refl
step_same table limit (running s) = refl

run-same : (table : List Exchange) (limit fuel : ℕ) (c : Completion)
    → run_within entry_limit table limit fuel c ≡ run table limit fuel c
unfolding run run_within until
run-same table limit zero c = refl
run-same table limit (suc fuel) c =
    ap (cond (is_over c) c)
    (run-same table limit fuel (step_within entry_limit table limit c)
    ∙ ap (run table limit fuel) (step_same table limit c))

pub listing-same : (order : Order) (list_size group_size : ℕ)
    → listing_within entry_limit order list_size group_size ≡ listing order list_size group_size
unfolding listing listing_within completed completed_within admission_fault admission_fault_within order_fault order_fault_within numbers_fault numbers_fault_within
listing-same order list_size group_size =
    ap (λ (c : Completion). unless_fault tests (listing_of table c)) (run-same table (list_rows order.n list_size) _ _)
  where
    table : List Exchange
    table = table_of order group_size

    tests : Fault
    tests = admission_fault order group_size (whole_rows order.n list_size)

pub list_same : (order : Order) (list_size group_size : ℕ)
    → list_call_within entry_limit order list_size group_size ≡ list_call order list_size group_size
unfolding list_call list_call_within
list_same order list_size group_size = ap (list_end order.n list_size group_size) (listing-same order list_size group_size)

pub split-same : (order : Order) (vector : List ℤ) (list_size group_size pieces_size : ℕ)
    → split_call_within entry_limit order vector list_size group_size pieces_size
    ≡ split_call order vector list_size group_size pieces_size
unfolding split_call split_call_within parts parts_within
split-same order vector list_size group_size pieces_size =
    ap (λ (o : Outcome Listing). end (unless_fault sizes (parts_of vector pieces_size o)))
    (listing-same order list_size group_size)
  where
    end : Outcome Parts → SplitEnd
    end = split_end order.n list_size group_size pieces_size

    sizes : Fault
    sizes = first_fault (cells_fault order.n ∷ split_size_fault order.n vector pieces_size ∷ [])

pub check-same : (order : Order) (rows coefficients : List ℤ) (group_size : ℕ)
    → check_call_within entry_limit order rows coefficients group_size ≡ check_call order rows coefficients group_size
unfolding check_call check_call_within check_fault check_fault_within rules_fault rules_fault_within rows_fault rows_fault_within is_unfit is_unfit_within admission_fault admission_fault_within order_fault order_fault_within numbers_fault numbers_fault_within
check-same order rows coefficients group_size = refl

pub served-same : (service : Service) (file : List ℕ) → served_within entry_limit service file ≡ served service file
unfolding served served_by served_within served_by_within
served-same service file = go service (scan_of service file)
  where
    go : (service : Service) (scanned : Outcome Counts)
        → served_by_within entry_limit service file scanned ≡ served_by service file scanned
    go service (Err r) = refl
    go ListService (accepted c) =
        ap (list_served c.cells) (list_same (order_in file c) (list_size c) (group_size c))
    go SplitService (accepted c) =
        ap split_served (split-same (order_in file c) (vector_in file c) (list_size c) (group_size c) pieces_size)
    go CheckService (accepted c) =
        ap check_served (check-same (order_in file c) (rows_in file c) (coefficients_in file c) (group_size c))
