-- Specification 8.1 and 8.3: the commands of an accepted order, and the numbers that it lends. Assumes nothing.
use Rattle.std.specs.Prelude.{List, [], ◌∷◌, ◌++◌, map, ℕ, zero, suc, ◌+◌, ◌*◌, ◌≤◌, ℤ, length, drop, eqb, if◌then◌else◌}
use Rattle.definitions.specs.Lists.{range}
use Rattle.theory.proofs.Members.{Each}
use Rattle.commands.specs.declared.Command.{Command}
use Rattle.commands.specs.declared.Reading.{Reading}
use Rattle.commands.specs.declared.Reading.TheVariants.{Known, Unknown, Past}
use Rattle.commands.specs.Commands.{generator_code, exchange_code, image_code, row_code, coefficients_code, vector_code}
use Rattle.commands.specs.Commands.{behind, code_of, command_at, operands_of, width_of}
use Rattle.commands.specs.Decode.{byte_at, signed_at}
use Rattle.orders.specs.declared.Counts.{Counts}
use Rattle.orders.specs.Grammar.{one_if}
use Rattle.orders.specs.Scan.{Few}

-- ---- the commands

-- the command that was read, and those of the rest; none where there is none
abbrev pub commands_by : Reading → (rest : Command → List Command) → List Command
commands_by (Known command) rest = command ∷ rest command
commands_by Unknown rest = []
commands_by Past rest = []

-- the commands from an offset on, with n cells and m generators, each with the offset of its operands
unfoldable pub commands_from : (fuel : ℕ) (order : List ℕ) (n m at : ℕ) → List Command
commands_from zero order n m at = []
commands_from (suc fuel) order n m at =
    commands_by (command_at order at) (λ command. commands_from fuel order n m (behind command n m))

-- the commands of an order with these counts; each takes a byte, so that the fuel suffices
unfoldable pub commands_in : (order : List ℕ) → Counts → List Command
commands_in order c = commands_from (suc (length order)) order c.cells c.generators 0

-- the bytes that commands take, their own included
unfoldable pub bytes_of : (n m : ℕ) → List Command → ℕ
bytes_of n m [] = 0
bytes_of n m (command ∷ commands) = 1 + width_of command n m + bytes_of n m commands

-- how many of the commands have the byte `code`
unfoldable pub many : (code : ℕ) → List Command → ℕ
many code [] = 0
many code (command ∷ commands) = one_if command code + many code commands

-- the operands of a command lie within the order
abbrev pub LiesIn : (order : List ℕ) (n m : ℕ) → Command → Type 0
LiesIn order n m command = behind command n m ≤ length order

-- the limits that the counts of an accepted order keep
pub record Limited (c : Counts) : Type 0 where
  pub some : 1 ≤ c.cells
  pub few : Few c

-- an order whose commands can be read: its counts keep the limits, and no command is cut
pub record Readable (order : List ℕ) (c : Counts) : Type 0 where
  pub limited : Limited c
  pub whole : Each (LiesIn order c.cells c.generators) (commands_in order c)

-- ---- their numbers

-- `count` signed numbers of some bytes each, from the start of a part on
abbrev pub signed_numbers : (bytes count : ℕ) (part : List ℕ) → List ℤ
signed_numbers bytes count part = map (λ j. signed_at bytes part (bytes * j)) (range 0 count)

-- `count` bytes
abbrev pub byte_numbers : (count : ℕ) (part : List ℕ) → List ℕ
byte_numbers count part = map (byte_at part) (range 0 count)

-- the numbers of a command with the byte `code`; none of another
unfoldable pub command_numbers : {A : Type 0} (code : ℕ) (decode : List ℕ → List A) (order : List ℕ) → Command → List A
command_numbers code decode order command =
    if eqb (code_of command) code then decode (drop (operands_of command) order) else []

-- the numbers of all commands with the byte `code`, in their sequence
unfoldable pub gathered : {A : Type 0} (code : ℕ) (decode : List ℕ → List A) (order : List ℕ) → List Command → List A
gathered code decode order [] = []
gathered code decode order (command ∷ commands) =
    command_numbers code decode order command ++ gathered code decode order commands

-- the numbers of the GENERATOR commands, two bytes each
unfoldable pub generators_in : (order : List ℕ) → Counts → List ℤ
generators_in order c = gathered generator_code (signed_numbers 2 c.cells) order (commands_in order c)

-- the cells of the EXCHANGE commands, a byte each
unfoldable pub exchanges_in : (order : List ℕ) → Counts → List ℕ
exchanges_in order c = gathered exchange_code (byte_numbers c.cells) order (commands_in order c)

-- the numbers of the IMAGE commands, four bytes each
unfoldable pub images_in : (order : List ℕ) → Counts → List ℤ
images_in order c = gathered image_code (signed_numbers 4 c.generators) order (commands_in order c)

-- the numbers of the ROW commands, two bytes each
unfoldable pub rows_in : (order : List ℕ) → Counts → List ℤ
rows_in order c = gathered row_code (signed_numbers 2 c.cells) order (commands_in order c)

-- the numbers of the COEFFICIENTS commands, four bytes each
unfoldable pub coefficients_in : (order : List ℕ) → Counts → List ℤ
coefficients_in order c = gathered coefficients_code (signed_numbers 4 c.generators) order (commands_in order c)

-- the numbers of the VECTOR command, four bytes each
unfoldable pub vector_in : (order : List ℕ) → Counts → List ℤ
vector_in order c = gathered vector_code (signed_numbers 4 c.cells) order (commands_in order c)
