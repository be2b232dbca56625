-- Specification 8.1: the commands. Assumes nothing.
use Rattle.std.specs.Prelude.{List, ℕ, zero, suc, ◌+◌, ◌*◌, length, get_or, ltb, if◌then◌else◌}
use Rattle.commands.specs.declared.Command.{Command}
use Rattle.commands.specs.declared.Command.TheVariants.{Size, Generator, Exchange, Row, Coefficients}
use Rattle.commands.specs.declared.Command.TheVariants.{Vector, Image, End}
use Rattle.commands.specs.declared.Reading.{Reading}
use Rattle.commands.specs.declared.Reading.TheVariants.{Known, Unknown, Past}

-- the bytes of the commands
abbrev pub end_code : ℕ
end_code = 0

abbrev pub size_code : ℕ
size_code = 1

abbrev pub generator_code : ℕ
generator_code = 2

abbrev pub exchange_code : ℕ
exchange_code = 3

abbrev pub row_code : ℕ
row_code = 4

abbrev pub coefficients_code : ℕ
coefficients_code = 5

abbrev pub vector_code : ℕ
vector_code = 6

abbrev pub image_code : ℕ
image_code = 7

-- the command of a byte whose operands start at p
unfoldable pub command_of : (byte p : ℕ) → Reading
command_of zero p = Known (End p)
command_of (suc zero) p = Known (Size p)
command_of (suc (suc zero)) p = Known (Generator p)
command_of (suc (suc (suc zero))) p = Known (Exchange p)
command_of (suc (suc (suc (suc zero)))) p = Known (Row p)
command_of (suc (suc (suc (suc (suc zero))))) p = Known (Coefficients p)
command_of (suc (suc (suc (suc (suc (suc zero)))))) p = Known (Vector p)
command_of (suc (suc (suc (suc (suc (suc (suc zero))))))) p = Known (Image p)
command_of (suc (suc (suc (suc (suc (suc (suc (suc b)))))))) p = Unknown

-- what stands at an offset where a command is due: its operands start one byte further on
unfoldable pub command_at : (order : List ℕ) (at : ℕ) → Reading
command_at order at = if ltb at (length order) then command_of (get_or order at 0) (at + 1) else Past

-- the byte of a command
abbrev pub code_of : Command → ℕ
code_of (End p) = end_code
code_of (Size p) = size_code
code_of (Generator p) = generator_code
code_of (Exchange p) = exchange_code
code_of (Row p) = row_code
code_of (Coefficients p) = coefficients_code
code_of (Vector p) = vector_code
code_of (Image p) = image_code

-- where its operands start
abbrev pub operands_of : Command → ℕ
operands_of (End p) = p
operands_of (Size p) = p
operands_of (Generator p) = p
operands_of (Exchange p) = p
operands_of (Row p) = p
operands_of (Coefficients p) = p
operands_of (Vector p) = p
operands_of (Image p) = p

-- how many bytes they take, with n cells and m generators
abbrev pub width_of : Command → (n m : ℕ) → ℕ
width_of (End p) n m = 0
width_of (Size p) n m = 1
width_of (Generator p) n m = 2 * n
width_of (Exchange p) n m = n
width_of (Row p) n m = 2 * n
width_of (Coefficients p) n m = 4 * m
width_of (Vector p) n m = 4 * n
width_of (Image p) n m = 4 * m

-- where the next command is due: behind its operands
abbrev pub behind : Command → (n m : ℕ) → ℕ
behind command n m = operands_of command + width_of command n m
