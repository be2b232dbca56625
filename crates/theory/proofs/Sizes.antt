-- What the tests of sizes say of what meets none (Specification 7.3). Assumes nothing.
use Rattle.definitions.specs.Refusals.{no_fault}
use mathlib.Core.Path.{◌≡◌, sym, ap, ◌∙◌}
use mathlib.Core.Bool.{Bool, true, not, ◌&&◌, ◌||◌}
use mathlib.Core.List.{List}
use Prim.Native.Nat.{ℕ, ◌*◌, ◌/◌, ◌%◌, ◌≤◌}
use native.Mathlib.Nat.{div-add-mod, mul_comm, mul-le-mul_left}
use native.Mathlib.Omega.{arith}
use borrow.Author.Tests.{eqb-true, leb-true, not-false}
use lib.Dec.{eqb, leb}
use lib.IntN.{ℤ}
use lib.ListN.{length}
use Rattle.definitions.specs.Limits.{bare_limit, generator_limit, exchange_limit, list_limit, piece_width}
use Rattle.definitions.specs.Lent.{Order, is_bare, whole_rows, whole_rows_up_to}
use Rattle.definitions.specs.Refusals.{brought_fits, images_fit, order_fits, size_fault, split_size_fault}
use Rattle.theory.proofs.Tests.{and-true-left, and-true-right}
use Rattle.theory.proofs.Faults.{if_none}

-- where rows are whole and not too many, they are at most the limit
pub rows_few : (limit width size : ℕ) → whole_rows_up_to limit width size ≡ true → size / width ≤ limit
unfolding whole_rows_up_to
rows_few limit width size e = leb-true (size / width) limit (and-true-right (whole_rows width size) (leb (size / width) limit) e)

rows_whole : (limit width size : ℕ) → whole_rows_up_to limit width size ≡ true → whole_rows width size ≡ true
unfolding whole_rows_up_to
rows_whole limit width size e = and-true-left (whole_rows width size) (leb (size / width) limit) e

-- and their numbers are at most those of so many rows
rows-size : (limit width size : ℕ) → whole_rows_up_to limit width size ≡ true → size ≤ limit * width
unfolding whole_rows
rows-size limit width size e =
    let whole = eqb-true (size % width) 0 (rows_whole limit width size e) in
    omega (arith, div-add-mod size width, mul-le-mul_left width (rows_few limit width size e), mul_comm limit width)

-- a bare order has few generators, and m coefficients for each exchange and generator
pub record BareSized (order : Order) : Type 0 where
  pub few : length order.generators / order.n ≤ bare_limit
  pub one_each : length order.images
      ≡ length order.exchanges / order.n * (length order.generators / order.n) * (length order.generators / order.n)

images-sized : (order : Order) → images_fit order ≡ true → is_bare order ≡ true → BareSized order
unfolding images_fit
images-sized order e b =
    let m : ℕ = length order.generators / order.n in
    let due : ℕ = length order.exchanges / order.n * m * m in
    let fits : Bool = leb m bare_limit && eqb (length order.images) due in
    let both : fits ≡ true = sym (ap (λ (x : Bool). not x || fits) b) ∙ e in
    record {
      few = leb-true m bare_limit (and-true-left (leb m bare_limit) (eqb (length order.images) due) both);
      one_each = eqb-true (length order.images) due (and-true-right (leb m bare_limit) (eqb (length order.images) due) both);
    }

-- the generators and the exchanges are at most their limits, and the images of a bare order are as many as are due
pub record OrderSized (order : Order) : Type 0 where
  pub numbers : length order.generators ≤ generator_limit * order.n
  pub generators : length order.generators / order.n ≤ generator_limit
  pub exchanges : length order.exchanges / order.n ≤ exchange_limit
  pub bare : is_bare order ≡ true → BareSized order

pub order-sized : (order : Order) → order_fits order ≡ true → OrderSized order
unfolding order_fits
order-sized order e =
    let g : Bool = whole_rows_up_to generator_limit order.n (length order.generators) in
    let x : Bool = whole_rows_up_to exchange_limit order.n (length order.exchanges) in
    let rows = and-true-left (g && x) (images_fit order) e in
    record {
      numbers = rows-size generator_limit order.n (length order.generators) (and-true-left g x rows);
      generators = rows_few generator_limit order.n (length order.generators) (and-true-left g x rows);
      exchanges = rows_few exchange_limit order.n (length order.exchanges) (and-true-right g x rows);
      bare = images-sized order (and-true-right (g && x) (images_fit order) e);
    }

-- 6
pub sizes-of-order : (order : Order) (group_size : ℕ) (fits : Bool) → size_fault order group_size fits ≡ no_fault → OrderSized order × (fits ≡ true)
unfolding size_fault
sizes-of-order order group_size fits e =
    let first : Bool = order_fits order && whole_rows order.n group_size in
    let all = not-false (first && fits) (if_none 6 (not (first && fits)) e) in
    (order-sized order (and-true-left (order_fits order) (whole_rows order.n group_size) (and-true-left first fits all)), and-true-right first fits all)

-- what 6 of a Split adds
pub sizes-of-split : (n : ℕ) (vector : List ℤ) (pieces_size : ℕ) → split_size_fault n vector pieces_size ≡ no_fault → length vector ≡ n
unfolding split_size_fault
sizes-of-split n vector pieces_size e =
    let both = not-false (eqb (length vector) n && whole_rows piece_width pieces_size) (if_none 6 _ e) in
    eqb-true (length vector) n (and-true-left (eqb (length vector) n) (whole_rows piece_width pieces_size) both)

-- 6 of a Check
pub record CheckSized (order : Order) (rows coefficients : List ℤ) : Type 0 where
  pub sized : OrderSized order
  pub whole : whole_rows order.n (length rows) ≡ true
  pub few : length rows / order.n ≤ list_limit
  pub one_each : length coefficients ≡ length rows / order.n * (length order.generators / order.n)

pub sizes-of-check : (order : Order) (rows coefficients : List ℤ) (group_size : ℕ)
    → size_fault order group_size (brought_fits order rows coefficients) ≡ no_fault → CheckSized order rows coefficients
unfolding brought_fits
sizes-of-check order rows coefficients group_size e =
    let brought : Bool = whole_rows_up_to list_limit order.n (length rows) in
    let needed : ℕ = length rows / order.n * (length order.generators / order.n) in
    let one : Bool = eqb (length coefficients) needed in
    let Z = sizes-of-order order group_size (brought_fits order rows coefficients) e in
    let whole = and-true-left brought one Z.1 in
    record {
      sized = Z.0;
      whole = rows_whole list_limit order.n (length rows) whole;
      few = rows_few list_limit order.n (length rows) whole;
      one_each = eqb-true (length coefficients) needed (and-true-right brought one Z.1);
    }
