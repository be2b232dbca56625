-- What the services answer to order files, with the entry limit as a parameter. Assumes nothing.
use Rattle.definitions.specs.Refusals.{Outcome, accepted, refused}
use Rattle.std.specs.declared.result.Result.TheVariants.{Err}
use Rattle.orders.specs.declared.Counts.{Counts}
use Rattle.std.specs.Prelude.{List, [], ℕ}
use Rattle.definitions.specs.Limits.{piece_width}
use Rattle.definitions.specs.Lent.{chunks}
use Rattle.definitions.specs.Calls.{ListEnd, SplitEnd, CheckEnd}
use Rattle.orders.specs.declared.Service.{Service}
use Rattle.orders.specs.declared.Service.TheVariants.{List as ListService, Split as SplitService}
use Rattle.orders.specs.declared.Service.TheVariants.{Check as CheckService}
use Rattle.orders.specs.Scan.{scan_of}
use Rattle.orders.specs.Operands.{rows_in, coefficients_in, vector_in}
use Rattle.answers.specs.Answers.{line_count}
use Rattle.promises.specs.Services.{Served, group_size, list_size, order_in, pieces_size}
use Rattle.entry_limit.specs.Calls.{list_call_within, split_call_within, check_call_within}

-- what is served by the end of each call
abbrev pub list_served : (n : ℕ) → ListEnd → Served
list_served n end = record { answer = end.answer; lines = chunks n (line_count end.answer) end.list }

abbrev pub split_served : SplitEnd → Served
split_served end = record { answer = end.answer; lines = chunks piece_width (line_count end.answer) end.pieces }

abbrev pub check_served : CheckEnd → Served
check_served end = record { answer = end.answer; lines = [] }

module _ (entries : ℕ) where
  unfoldable pub served_by_within : Service → (file : List ℕ) → Outcome Counts → Served
  served_by_within service file (Err r) = record { answer = refused r.number r.place; lines = [] }
  served_by_within ListService file (accepted c) =
      list_served c.cells (list_call_within entries (order_in file c) (list_size c) (group_size c))
  served_by_within SplitService file (accepted c) =
      split_served
      (split_call_within entries (order_in file c) (vector_in file c) (list_size c) (group_size c) pieces_size)
  served_by_within CheckService file (accepted c) =
      check_served
      (check_call_within entries (order_in file c) (rows_in file c) (coefficients_in file c) (group_size c))

  unfoldable pub served_within : Service → (file : List ℕ) → Served
  served_within service file = served_by_within service file (scan_of service file)
