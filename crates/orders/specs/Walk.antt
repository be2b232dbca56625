-- The walk over the commands of an order that fills an area with the numbers of one kind. Assumes nothing.
use Rattle.std.specs.Prelude.{◌≡◌, ◌⊎◌, List, ◌++◌, map, ℕ, ◌+◌, ◌*◌, ◌≤◌, ℤ, length, drop}
use Rattle.std.proofs.Math.Seq.{paste}
use Rattle.vectors.specs.Areas.{LentMut}
use Rattle.commands.specs.declared.Command.{Command}
use Rattle.commands.specs.Commands.{code_of, operands_of, width_of}
use Rattle.commands.specs.Decode.{byte_at, signed_at}
use Rattle.definitions.specs.Lists.{range}
use Rattle.orders.specs.declared.Counts.{Counts}
use Rattle.orders.specs.declared.operands.Kind.{Kind}
use Rattle.orders.specs.Operands.{commands_in, command_numbers, gathered}

-- the bytes that a signed number takes, and those of a cell of an exchange
abbrev pub SignedSize : (size : ℕ) → Type 0
SignedSize size = (size ≡ 2) ⊎ (size ≡ 4)

abbrev pub ByteSize : (size : ℕ) → Type 0
ByteSize size = size ≡ 1

-- number j of a part where each takes `size` bytes
abbrev pub Reader : Type 0 → Type 0
Reader A = (size : ℕ) (part : List ℕ) (j : ℕ) → A

-- a signed one, and a cell of an exchange
abbrev pub signed_number : Reader ℤ
signed_number size part j = signed_at size part (size * j)

abbrev pub byte_number : Reader ℕ
byte_number size part j = byte_at part j

-- the numbers of a command of a kind, in the part that starts at its operands
abbrev pub numbers_in : {A : Type 0} → Reader A → Kind → (part : List ℕ) → List A
numbers_in number kind part = map (number kind.size part) (range 0 kind.count)

-- those of a command of a kind in an order, and those of all of them
abbrev pub kind_numbers : {A : Type 0} → Reader A → Kind → (order : List ℕ) → Command → List A
kind_numbers number kind order command = command_numbers kind.code (numbers_in number kind) order command

abbrev pub kind_gathered : {A : Type 0} → Reader A → Kind → (order : List ℕ) → Counts → List A
kind_gathered number kind order c = gathered kind.code (numbers_in number kind) order (commands_in order c)

-- the operands of a command with the byte `code` have room for the numbers
abbrev pub Holds : (code bytes count : ℕ) → Counts → Type 0
Holds code bytes count c =
    (command : Command) → code_of command ≡ code → bytes * count ≤ width_of command c.cells c.generators

-- they lie within the order
abbrev pub Inside : (order : List ℕ) (code bytes count : ℕ) → Command → Type 0
Inside order code bytes count command = code_of command ≡ code → operands_of command + bytes * count ≤ length order

-- the numbers stand behind those that were filled, and r are filled then
pub record Taken {A : Type 0} (numbers : List A) (filled : ℕ) (before after : List A) (r : ℕ) : Type 0 where
  pub count : r ≡ filled + length numbers
  pub held : after ≡ paste before filled numbers (length numbers)

-- .. of a lent area
abbrev pub TakenIn : {A : Type 0} (numbers : List A) (filled : ℕ) (area : LentMut A) (r : ℕ) → Type 0
TakenIn numbers filled area r = Taken numbers filled area.entry.now area.exit.now r

-- the numbers stand at the start of an area, and the rest of it is as before
abbrev pub Filled : {A : Type 0} (numbers : List A) (area : LentMut A) → Type 0
Filled numbers area = area.exit.now ≡ numbers ++ drop (length numbers) area.entry.now
