-- Specification 8.2: which command may follow, and what is counted. Assumes nothing.
use Rattle.std.specs.Prelude.{Bool, false, ◌&&◌, ◌||◌, ℕ, ◌+◌, ◌*◌, ltb, eqb, if◌then◌else◌}
use Rattle.definitions.specs.Limits.{generator_limit, exchange_limit, list_limit, bare_limit}
use Rattle.commands.specs.declared.Command.{Command}
use Rattle.commands.specs.declared.Command.TheVariants.{Size, Generator, Exchange, Row, Coefficients}
use Rattle.commands.specs.declared.Command.TheVariants.{Vector, Image, End}
use Rattle.commands.specs.Commands.{end_code, size_code, generator_code, exchange_code, row_code, coefficients_code}
use Rattle.commands.specs.Commands.{vector_code, image_code, code_of}
use Rattle.orders.specs.declared.Service.{Service}
use Rattle.orders.specs.declared.Service.TheVariants.{List as ListService, Split, Check}
use Rattle.orders.specs.declared.Phase.{Phase}
use Rattle.orders.specs.declared.Phase.TheVariants.{Empty, Generators, Exchanges, Images}
use Rattle.orders.specs.declared.Phase.TheVariants.{Vectors, Rows, Paired, Done}
use Rattle.orders.specs.declared.Counts.{Counts}

-- the phase behind a command: what was read last
abbrev pub phase_after : Command → Phase
phase_after (Size p) = Generators
phase_after (Generator p) = Generators
phase_after (Exchange p) = Exchanges
phase_after (Image p) = Images
phase_after (Vector p) = Vectors
phase_after (Row p) = Rows
phase_after (Coefficients p) = Paired
phase_after (End p) = Done

-- the commands that may follow generators, exchanges and images, by the service
abbrev pub may_close : Service → (code : ℕ) → Bool
may_close ListService code = eqb code end_code
may_close Split code = eqb code vector_code
may_close Check code = eqb code row_code || eqb code end_code

-- an IMAGE may follow: there is one for each exchange and generator, and not all of them have come
unfoldable pub is_image_due : Counts → Bool
is_image_due c = ltb c.images (c.exchanges * c.generators)

-- the commands that may follow: after nothing, SIZE or GENERATOR, EXCHANGE, IMAGE, VECTOR, ROW, COEFFICIENTS and END;
-- `due` says whether an IMAGE may follow
abbrev pub may_stand : Service → (due : Bool) → Phase → (code : ℕ) → Bool
may_stand service due Empty code = eqb code size_code
may_stand service due Generators code = eqb code generator_code || (eqb code exchange_code || may_close service code)
may_stand service due Exchanges code =
    (due && eqb code image_code) || (eqb code exchange_code || may_close service code)
may_stand service due Images code = if due then eqb code image_code else may_close service code
may_stand service due Vectors code = eqb code end_code
may_stand service due Rows code = eqb code coefficients_code
may_stand service due Paired code = eqb code row_code || eqb code end_code
may_stand service due Done code = false

-- 1 where a command has the byte `code`, else 0
unfoldable pub one_if : Command → (code : ℕ) → ℕ
one_if command code = if eqb (code_of command) code then 1 else 0

-- GENERATOR, EXCHANGE, IMAGE and ROW are counted
abbrev pub counted_by : Counts → Command → Counts
counted_by c command = record {
  cells = c.cells;
  generators = c.generators + one_if command generator_code;
  exchanges = c.exchanges + one_if command exchange_code;
  images = c.images + one_if command image_code;
  rows = c.rows + one_if command row_code;
}

-- 6: more generators, exchanges or rows than may be, or more generators than a bare order may have
abbrev pub too_many : Counts → Bool
too_many c =
    ltb generator_limit c.generators || ltb exchange_limit c.exchanges || ltb list_limit c.rows
    || (ltb 0 c.images && ltb bare_limit c.generators)
