-- Specification 1.1 and 7.3: orders and lent areas. Assumes nothing.
use Rattle.std.specs.Prelude.{Bool, ◌&&◌, not, List, [], ◌∷◌, ◌++◌, map, ℕ, zero, suc, ◌-◌, ◌/◌, ◌%◌, min, ℤ, leb, eqb, length, take, drop, replicate}
use Rattle.definitions.specs.Limits.{group_limit, list_limit}
use Rattle.definitions.specs.Lists.{concat}
use Rattle.definitions.specs.Vector.{Vector, padded}
use Rattle.definitions.specs.Group.{Exchange, group_table}

-- 7.3: `size` numbers are whole rows of `width`
unfoldable pub whole_rows : (width size : ℕ) → Bool
whole_rows width size = eqb (size % width) 0

-- 7.3: and at most `limit` of them
unfoldable pub whole_rows_up_to : (limit width size : ℕ) → Bool
whole_rows_up_to limit width size = whole_rows width size && leb (size / width) limit

module _ {A : Type 0} where
  -- the first `count` rows of `width` numbers each
  unfoldable pub chunks : (width count : ℕ) (numbers : List A) → List (List A)
  chunks width zero numbers = []
  chunks width (suc count) numbers = take width numbers ∷ chunks width count (drop width numbers)

  -- all rows
  unfoldable pub rows_of : (width : ℕ) (numbers : List A) → List (List A)
  rows_of width numbers = chunks width (length numbers / width) numbers

  -- 7.4: an area of `size` numbers with these at its start and zeros behind them
  unfoldable pub filled : (blank : A) (size : ℕ) (numbers : List A) → List A
  filled blank size numbers = numbers ++ replicate (size - length numbers) blank

-- rows of numbers as vectors, and vectors as rows of numbers
unfoldable pub vectors_of : (n : ℕ) (numbers : List ℤ) → List Vector
vectors_of n numbers = map padded (rows_of n numbers)

unfoldable pub numbers_of : (n : ℕ) (vectors : List Vector) → List ℤ
numbers_of n vectors = concat (map (take n) vectors)

-- 1.1: what each call is sent: the number of cells, the generators, the exchanges, and the coefficients of images
pub record Order : Type 0 where
  pub n : ℕ
  pub generators : List ℤ
  pub exchanges : List ℕ
  pub images : List ℤ

abbrev pub order_of : (n : ℕ) (generators : List ℤ) (exchanges : List ℕ) (images : List ℤ) → Order
order_of n generators exchanges images =
    record { n = n; generators = generators; exchanges = exchanges; images = images }

-- 2.9: a bare order sends coefficients of images
unfoldable pub is_bare : Order → Bool
is_bare order = not (eqb (length order.images) 0)

unfoldable pub generators_of : Order → List Vector
generators_of order = vectors_of order.n order.generators

unfoldable pub exchanges_of : Order → List Exchange
exchanges_of order = rows_of order.n order.exchanges

-- 3.4: the list rows in use of an area of `size` numbers
unfoldable pub list_rows : (n size : ℕ) → ℕ
list_rows n size = min list_limit (size / n)

-- 2.5: the greatest group that is accepted with an area of `size` numbers
unfoldable pub group_rows : (n size : ℕ) → ℕ
group_rows n size = min group_limit (size / n)

-- 2.5: the group's table, for a group area of `group_size` numbers
unfoldable pub table_of : Order → (group_size : ℕ) → List Exchange
table_of order group_size = group_table order.n (exchanges_of order) (group_rows order.n group_size)
