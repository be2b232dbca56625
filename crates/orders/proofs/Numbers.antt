-- How many numbers an accepted order lends (Specification 8.3). Assumes nothing.
use Rattle.std.specs.Prelude.{if◌then◌else◌}
use mathlib.Core.Path.{◌≡◌, ap, sym, ◌∙◌}
use mathlib.Core.Bool.{Bool, true, false}
use mathlib.Core.List.{List, [], ◌∷◌, ◌++◌, map}
use Prim.Native.Nat.{ℕ, ◌+◌, ◌-◌, ◌*◌, ◌<◌}
use native.Mathlib.Omega.{arith}
use lib.Dec.{eqb}
use lib.ListN.{length, get_or, take, drop, length-append, length-drop, length-map}
use lib.Seq.{take_all, take_at}
use borrow.Author.Tests.{eq-eqb, ne_eqb}
use Rattle.definitions.specs.Lists.{range}
use Rattle.theory.proofs.Lists.{get_d_map, get_or-range, range_length}
use Rattle.commands.specs.declared.Command.{Command}
use Rattle.commands.specs.Commands.{generator_code, exchange_code, image_code, row_code, coefficients_code, vector_code, code_of, operands_of}
use Rattle.commands.specs.Decode.{byte_at, signed_at}
use Rattle.orders.specs.declared.Service.{Service}
use Rattle.orders.specs.declared.Service.TheVariants.{Split}
use Rattle.orders.specs.declared.Counts.{Counts}
use Rattle.orders.specs.Grammar.{one_if}
use Rattle.orders.specs.Operands.{signed_numbers, byte_numbers, command_numbers, gathered, many, commands_in, generators_in, exchanges_in, images_in, rows_in, coefficients_in, vector_in}
use Rattle.orders.specs.declared.operands.Kind.{Kind}
use Rattle.orders.specs.Walk.{Reader, numbers_in, kind_numbers}
use Rattle.orders.proofs.Commands.{Accepted}

-- the part of an order that starts at an offset, as code borrows it, is the whole rest of the order
pub part-whole : (order : List ℕ) (from : ℕ) → take (length order - from) (drop from order) ≡ drop from order
part-whole order from = take_all (length order - from) (drop from order) (omega (arith, length-drop from order))

-- `count` numbers of a part
numbers-count : {A : Type 0} (number : ℕ → A) (count : ℕ) → length (map number (range 0 count)) ≡ count
numbers-count number count = length-map (range 0 count) number ∙ range_length 0 count

-- a command with another byte has none
pub numbers-none : {A : Type 0} (code : ℕ) (decode : List ℕ → List A) (order : List ℕ) (x : Command) → (code_of x ≡ code → ⊥)
    → command_numbers code decode order x ≡ []
unfolding command_numbers
numbers-none code decode order x e = rw (ne_eqb (code_of x) code e)

-- a command with the byte has those of the part that starts at its operands
pub numbers-here : {A : Type 0} (code : ℕ) (decode : List ℕ → List A) (order : List ℕ) (x : Command) → code_of x ≡ code
    → command_numbers code decode order x ≡ decode (drop (operands_of x) order)
unfolding command_numbers
numbers-here code decode order x e = rw (eq-eqb (code_of x) code e)

-- the numbers of a command of a kind
module _ {A : Type 0} (number : Reader A) (kind : Kind) (order : List ℕ) (x : Command) where
  -- another command has none
  pub kind-none : (code_of x ≡ kind.code → ⊥) → kind_numbers number kind order x ≡ []
  kind-none e = numbers-none kind.code (numbers_in number kind) order x e

  module _ (e : code_of x ≡ kind.code) where
    kind-here : kind_numbers number kind order x ≡ numbers_in number kind (drop (operands_of x) order)
    kind-here = numbers-here kind.code (numbers_in number kind) order x e

    -- how many
    pub numbers-long : length (kind_numbers number kind order x) ≡ kind.count
    numbers-long = ap length kind-here ∙ numbers-count (number kind.size (drop (operands_of x) order)) kind.count

    -- number j, as it is read in the part that starts at the operands
    pub number-at : (p j : ℕ) {z : A} → p ≡ operands_of x → j < kind.count → z ≡ number kind.size (take (length order - p) (drop p order)) j
        → z ≡ get_or (kind_numbers number kind order x) j z
    number-at p j {z} s h r =
        let part = drop (operands_of x) order in
        r
        ∙ ap (λ (l : List ℕ). number kind.size l j) (part-whole order p ∙ ap (λ (k : ℕ). drop k order) s)
        ∙ sym (ap (number kind.size part) (get_or-range 0 kind.count j 0 h ∙ (let e : 0 + j ≡ j = omega arith in e)))
        ∙ sym (get_d_map (number kind.size part) (range 0 kind.count) j 0 z (omega (arith, range_length 0 kind.count)))
        ∙ ap (λ (l : List A). get_or l j z) (sym kind-here)

-- the numbers of all commands with a byte
module _ {A : Type 0} (code : ℕ) (decode : List ℕ → List A) (order : List ℕ) where
  module _ (width : ℕ) (long : (part : List ℕ) → length (decode part) ≡ width) where
    -- how many a command has
    command-count : (x : Command) → length (command_numbers code decode order x) ≡ one_if x code * width
    unfolding command_numbers one_if
    command-count x = go (eqb (code_of x) code)
      where
        go : (b : Bool) → length (if b then decode (drop (operands_of x) order) else []) ≡ (if b then 1 else 0) * width
        go true = let l = long (drop (operands_of x) order) in omega arith
        go false = omega arith

    -- how many there are in all
    gathered-count : (commands : List Command) → length (gathered code decode order commands) ≡ many code commands * width
    unfolding gathered many
    gathered-count [] = omega arith
    gathered-count (x ∷ commands) =
        length-append (command_numbers code decode order x) (gathered code decode order commands)
        ∙ (let h = command-count x in let t = gathered-count commands in omega arith)

-- ---- the lists that an accepted order lends

module _ (v : Service) (order : List ℕ) (c : Counts) (a : Accepted v order c) where
  pub generators-count : length (generators_in order c) ≡ c.generators * c.cells
  unfolding generators_in
  generators-count = gathered-count generator_code (signed_numbers 2 c.cells) order c.cells (λ part. numbers-count (λ j. signed_at 2 part (2 * j)) c.cells) (commands_in order c) ∙ ap (λ (k : ℕ). k * c.cells) a.generators-many

  pub exchanges-count : length (exchanges_in order c) ≡ c.exchanges * c.cells
  unfolding exchanges_in
  exchanges-count = gathered-count exchange_code (byte_numbers c.cells) order c.cells (λ part. numbers-count (byte_at part) c.cells) (commands_in order c) ∙ ap (λ (k : ℕ). k * c.cells) a.exchanges-many

  pub images-count : length (images_in order c) ≡ c.images * c.generators
  unfolding images_in
  images-count =
      gathered-count image_code (signed_numbers 4 c.generators) order c.generators (λ part. numbers-count (λ j. signed_at 4 part (4 * j)) c.generators) (commands_in order c) ∙ ap (λ (k : ℕ). k * c.generators) a.images-many

  pub rows-count : length (rows_in order c) ≡ c.rows * c.cells
  unfolding rows_in
  rows-count = gathered-count row_code (signed_numbers 2 c.cells) order c.cells (λ part. numbers-count (λ j. signed_at 2 part (2 * j)) c.cells) (commands_in order c) ∙ ap (λ (k : ℕ). k * c.cells) a.rows-many

  pub coefficients-count : length (coefficients_in order c) ≡ c.rows * c.generators
  unfolding coefficients_in
  coefficients-count =
      gathered-count coefficients_code (signed_numbers 4 c.generators) order c.generators (λ part. numbers-count (λ j. signed_at 4 part (4 * j)) c.generators) (commands_in order c) ∙ ap (λ (k : ℕ). k * c.generators) a.coefficients-many

-- a Split has one vector
pub vector-count : (order : List ℕ) (c : Counts) → Accepted Split order c → length (vector_in order c) ≡ c.cells
unfolding vector_in
vector-count order c a =
    gathered-count vector_code (signed_numbers 4 c.cells) order c.cells (λ part. numbers-count (λ j. signed_at 4 part (4 * j)) c.cells) (commands_in order c) ∙ (let e = a.vectors-many in rw e (omega arith))

-- the part of an area that was filled holds them
pub front : {A : Type 0} (area numbers : List A) (n : ℕ) → length numbers ≡ n → take n (numbers ++ drop (length numbers) area) ≡ numbers
front area numbers n e = take_at numbers (drop (length numbers) area) n e
