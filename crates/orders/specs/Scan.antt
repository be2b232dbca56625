-- Specification 8.3: the scan of an order file. Assumes nothing.
use Rattle.definitions.specs.Refusals.{Outcome, accepted, refused}
use Rattle.std.specs.Prelude.{◌&&◌, List, ℕ, zero, suc, ◌*◌, ◌≤◌, length, drop, leb, ltb, if◌then◌else◌}
use Rattle.definitions.specs.Limits.{cells, generator_limit, exchange_limit, list_limit, bare_limit}
use Rattle.commands.specs.declared.Command.{Command}
use Rattle.commands.specs.declared.Command.TheVariants.{Size, Generator, Exchange, Row, Coefficients}
use Rattle.commands.specs.declared.Command.TheVariants.{Vector, Image, End}
use Rattle.commands.specs.declared.Reading.{Reading}
use Rattle.commands.specs.declared.Reading.TheVariants.{Known, Unknown, Past}
use Rattle.commands.specs.Commands.{behind, code_of, command_at}
use Rattle.commands.specs.Decode.{byte_at}
use Rattle.orders.specs.declared.Service.{Service}
use Rattle.orders.specs.declared.Phase.TheVariants.{Empty}
use Rattle.orders.specs.declared.Counts.{Counts}
use Rattle.orders.specs.declared.Progress.{Progress}
use Rattle.orders.specs.declared.Step.{Step}
use Rattle.orders.specs.declared.Step.TheVariants.{Next, Stop}
use Rattle.orders.specs.Grammar.{counted_by, is_image_due, may_stand, phase_after, too_many}

-- counts that keep the limits
pub record Few (c : Counts) : Type 0 where
  pub cells-ok : c.cells ≤ cells
  pub generators-ok : c.generators ≤ generator_limit
  pub exchanges-ok : c.exchanges ≤ exchange_limit
  pub images-ok : c.images ≤ c.exchanges * c.generators
  pub rows_ok : c.rows ≤ list_limit
  pub bare-ok : 1 ≤ c.images → c.generators ≤ bare_limit

-- a scan that goes on is inside the order and within the limits
pub record Within (order : List ℕ) (s : Progress) : Type 0 where
  pub inside : s.at ≤ length order
  pub few : Few s.counts

-- the scan is over, with a refusal
abbrev pub refuse : (number place : ℕ) → Step
refuse number place = Stop (refused number place)

-- the progress past a command: its operands are skipped, and it is counted
abbrev pub past_by : Progress → Command → Progress
past_by s command = record {
  at = behind command s.counts.cells s.counts.generators;
  phase = phase_after command;
  counts = counted_by s.counts command;
}

-- the progress with the cells that SIZE gives
abbrev pub sized_by : Progress → (n : ℕ) → Progress
sized_by t n =
    let c = t.counts in
    record {
      at = t.at;
      phase = t.phase;
      counts = record {
        cells = n;
        generators = c.generators;
        exchanges = c.exchanges;
        images = c.images;
        rows = c.rows;
      };
    }

-- 8.3, 6 to 8: a whole command that may stand, t being the progress past it
unfoldable pub passed : (order : List ℕ) → Progress → Command → Step
passed order t (Size p) =
    let n = byte_at (drop p order) 0 in if leb 1 n && leb n cells then Next (sized_by t n) else refuse 5 0
passed order t (End p) = if ltb p (length order) then refuse 4 p else Stop (accepted t.counts)
passed order t (Generator p) = Next t
passed order t (Exchange p) = Next t
passed order t (Row p) = Next t
passed order t (Coefficients p) = Next t
passed order t (Vector p) = Next t
passed order t (Image p) = Next t

-- 8.3, 4 to 8: a command at an offset that may stand, t being the progress past it
unfoldable pub admitted : (order : List ℕ) (at : ℕ) → Progress → Command → Step
admitted order at t command =
    if too_many t.counts then refuse 6 at
    else if ltb (length order) t.at then refuse 1 at
    else passed order t command

-- 8.3, 1 to 8: by what stands where a command is due
unfoldable pub step_from : Service → (order : List ℕ) → Progress → Reading → Step
step_from service order s Past = refuse 1 (length order)
step_from service order s Unknown = refuse 2 s.at
step_from service order s (Known command) =
    if may_stand service (is_image_due s.counts) s.phase (code_of command)
    then admitted order s.at (past_by s command) command
    else refuse 3 s.at

-- 8.3: one command of the scan
unfoldable pub step_of : Service → (order : List ℕ) → Progress → Step
step_of service order s = step_from service order s (command_at order s.at)

-- the answer of a step that stops, else that of the rest
unfoldable pub after : Step → (rest : Progress → Outcome Counts) → Outcome Counts
after (Stop found) rest = found
after (Next t) rest = rest t

-- at most `fuel` commands
unfoldable pub scan_from : (fuel : ℕ) → Service → (order : List ℕ) → Progress → Outcome Counts
scan_from zero service order s = refused 0 0
scan_from (suc fuel) service order s = after (step_of service order s) (scan_from fuel service order)

-- a command is due at offset 0, and nothing was counted
abbrev pub start : Progress
start =
    let none : Counts = record { cells = 0; generators = 0; exchanges = 0; images = 0; rows = 0 } in
    record { at = 0; phase = Empty; counts = none }

-- 8.3: the scan of an order; each command takes a byte, so that the fuel suffices
unfoldable pub scan_of : Service → (order : List ℕ) → Outcome Counts
scan_of service order = scan_from (suc (length order)) service order start
