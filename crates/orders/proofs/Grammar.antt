-- What the grammar (Specification 8.2) says of a command that may stand. Assumes nothing.
use mathlib.Core.Path.{◌≡◌, refl, subst}
use mathlib.Core.Bool.{Bool, true, false, ◌&&◌, ◌||◌}
use mathlib.Core.Logic.{◌⊎◌, inl, inr, ⊎_elim}
use Prim.Native.Nat.{ℕ}
use native.Mathlib.Omega.{arith}
use lib.Dec.{eqb}
use borrow.Author.Tests.{eqb-true}
use Rattle.theory.proofs.Tests.{clash}
use Rattle.commands.specs.declared.Command.{Command}
use Rattle.commands.specs.declared.Command.TheVariants.{Size, Generator, Exchange, Row, Coefficients, Vector, Image, End}
use Rattle.commands.specs.declared.Reading.TheVariants.{Known}
use Rattle.commands.specs.Commands.{end_code, size_code, generator_code, exchange_code, row_code, coefficients_code, vector_code, image_code, code_of, operands_of, command_of}
use Rattle.commands.proofs.Known.{of-same-code}
use Rattle.orders.specs.declared.Service.{Service}
use Rattle.orders.specs.declared.Service.TheVariants.{List as ListService, Split, Check}
use Rattle.orders.specs.declared.Phase.{Phase}
use Rattle.orders.specs.declared.Phase.TheVariants.{Empty, Generators, Exchanges, Images, Vectors, Rows, Paired, Done}
use Rattle.orders.specs.Grammar.{may_close, may_stand}

-- among generators or exchanges
pub data Head : Phase → Type 0 where
  generators : Head Generators
  exchanges : Head Exchanges

-- what closes may follow: generators or exchanges, or images none of which is left
pub data Body : (due : Bool) → Phase → Type 0 where
  head : {due : Bool} {h : Phase} → Head h → Body due h
  images : Body false Images

-- a command that may stand, whether an IMAGE is due, and the phase before it
pub data Stands : Service → (due : Bool) → Phase → Command → Type 0 where
  size : {v : Service} {due : Bool} (p : ℕ) → Stands v due Empty (Size p)
  generator : {v : Service} {due : Bool} (p : ℕ) → Stands v due Generators (Generator p)
  exchange : {v : Service} {due : Bool} {h : Phase} (p : ℕ) → Head h → Stands v due h (Exchange p)
  image : {v : Service} (p : ℕ) → Stands v true Exchanges (Image p)
  next-image : {v : Service} (p : ℕ) → Stands v true Images (Image p)
  vector : {due : Bool} {h : Phase} (p : ℕ) → Body due h → Stands Split due h (Vector p)
  row : {due : Bool} {h : Phase} (p : ℕ) → Body due h → Stands Check due h (Row p)
  further : {v : Service} {due : Bool} (p : ℕ) → Stands v due Paired (Row p)
  coefficients : {v : Service} {due : Bool} (p : ℕ) → Stands v due Rows (Coefficients p)
  list-end : {due : Bool} {h : Phase} (p : ℕ) → Body due h → Stands ListService due h (End p)
  split-end : {v : Service} {due : Bool} (p : ℕ) → Stands v due Vectors (End p)
  check-end : {due : Bool} {h : Phase} (p : ℕ) → Body due h → Stands Check due h (End p)
  paired-end : {v : Service} {due : Bool} (p : ℕ) → Stands v due Paired (End p)

-- one of two tests
or_cases : (a b : Bool) → (a || b) ≡ true → (a ≡ true) ⊎ (b ≡ true)
or_cases true b e = inl refl
or_cases false b e = inr e

module _ (v : Service) (due : Bool) (h : Phase) (c : Command) where
  -- a command with the byte of another is that one
  stands-as : (code : ℕ) (x : Command) → eqb (code_of c) code ≡ true → command_of code (operands_of c) ≡ Known x → Stands v due h x → Stands v due h c
  stands-as code x e made s = subst (Stands v due h) (of-same-code c code x (eqb-true (code_of c) code e) made) s

-- what closes the generators, exchanges and images
closes : (v : Service) {due : Bool} {h : Phase} (c : Command) → Body due h → may_close v (code_of c) ≡ true → Stands v due h c
unfolding command_of
closes ListService {due} {h} c k e = stands-as ListService due h c end_code (End (operands_of c)) e refl (list-end (operands_of c) k)
closes Split {due} {h} c k e = stands-as Split due h c vector_code (Vector (operands_of c)) e refl (vector (operands_of c) k)
closes Check {due} {h} c k e =
    ⊎_elim (λ f. stands-as Check due h c row_code (Row (operands_of c)) f refl (row (operands_of c) k))
    (λ f. stands-as Check due h c end_code (End (operands_of c)) f refl (check-end (operands_of c) k))
    (or_cases (eqb (code_of c) row_code) (eqb (code_of c) end_code) e)

-- an exchange, or what closes
head-stands : (v : Service) (due : Bool) {h : Phase} (c : Command) → Head h → (eqb (code_of c) exchange_code || may_close v (code_of c)) ≡ true → Stands v due h c
unfolding command_of
head-stands v due {h} c k e =
    ⊎_elim (λ f. stands-as v due h c exchange_code (Exchange (operands_of c)) f refl (exchange (operands_of c) k)) (closes v c (head k))
    (or_cases (eqb (code_of c) exchange_code) (may_close v (code_of c)) e)

-- an image that is due, the first or a further one
image-stands : (v : Service) (due : Bool) (c : Command) → (due && eqb (code_of c) image_code) ≡ true → Stands v due Exchanges c
unfolding command_of
image-stands v true c e = stands-as v true Exchanges c image_code (Image (operands_of c)) e refl (image (operands_of c))
image-stands v false c e = clash e refl

images-stand : (v : Service) (due : Bool) (c : Command) → may_stand v due Images (code_of c) ≡ true → Stands v due Images c
unfolding command_of
images-stand v true c e = stands-as v true Images c image_code (Image (operands_of c)) e refl (next-image (operands_of c))
images-stand v false c e = closes v c images e

-- what the rule says
pub stands : (v : Service) (due : Bool) (h : Phase) (c : Command) → may_stand v due h (code_of c) ≡ true → Stands v due h c
unfolding command_of
stands v due Empty c e = stands-as v due Empty c size_code (Size (operands_of c)) e refl (size (operands_of c))
stands v due Generators c e =
    ⊎_elim (λ f. stands-as v due Generators c generator_code (Generator (operands_of c)) f refl (generator (operands_of c))) (head-stands v due c generators)
    (or_cases (eqb (code_of c) generator_code) (eqb (code_of c) exchange_code || may_close v (code_of c)) e)
stands v due Exchanges c e =
    ⊎_elim (image-stands v due c) (head-stands v due c exchanges)
    (or_cases (due && eqb (code_of c) image_code) (eqb (code_of c) exchange_code || may_close v (code_of c)) e)
stands v due Images c e = images-stand v due c e
stands v due Vectors c e = stands-as v due Vectors c end_code (End (operands_of c)) e refl (split-end (operands_of c))
stands v due Rows c e = stands-as v due Rows c coefficients_code (Coefficients (operands_of c)) e refl (coefficients (operands_of c))
stands v due Paired c e =
    ⊎_elim (λ f. stands-as v due Paired c row_code (Row (operands_of c)) f refl (further (operands_of c)))
    (λ f. stands-as v due Paired c end_code (End (operands_of c)) f refl (paired-end (operands_of c)))
    (or_cases (eqb (code_of c) row_code) (eqb (code_of c) end_code) e)
stands v due Done c e = absurd (let z : ◌≡◌ {A = ℕ} 0 1 = cc in omega arith)
