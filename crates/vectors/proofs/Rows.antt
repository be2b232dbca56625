-- Rows of a lent area: how many there are, where each stands, and what holds of each (Specification 7.3). Assumes
-- nothing.
use mathlib.Core.Path.{◌≡◌, ap, ◌∙◌}
use mathlib.Core.Bool.{true}
use mathlib.Core.List.{List, []}
use Prim.Native.Nat.{ℕ, ◌+◌, ◌-◌, ◌*◌, ◌/◌, ◌≤◌, ◌<◌}
use native.Mathlib.Nat.{div-mul-le_self}
use native.Mathlib.Omega.{arith}
use lib.IntN.{ℤ}
use lib.ListN.{length, length-set, get_or, take, drop}
use Rattle.definitions.specs.Limits.{cells}
use Rattle.definitions.specs.Vector.{padded, within}
use Rattle.definitions.specs.Group.{Exchange, is_exchange}
use Rattle.definitions.specs.Lent.{rows_of, vectors_of}
use Rattle.theory.proofs.Lists.{chunks-at, chunks-length, get_d_map, mem-drop, mem-take, part-row, row-end}
use Rattle.theory.proofs.Members.{each_append, each_member, each_of, place-member}
use Rattle.theory.proofs.Turns.{blank_turn, blank-end}
use Rattle.theory.proofs.Accepted.{zeros_within}
use Rattle.theory.proofs.Bounds.{each_within, within-each}
use Rattle.theory.proofs.Exchanges.{AllExchanges, cell_at, valid-of}
use Rattle.vectors.specs.Bounds.{NamesCells}

-- a row of an area ends within it
pub row_room : (size n p : ℕ) → p < size / n → p * n + n ≤ size
row_room size n p h = omega (arith, row-end p (size / n) n h, div-mul-le_self size n)

module _ {A : Type 0} where
  -- how many rows an area has
  pub rows-count : (n : ℕ) (numbers : List A) → length (rows_of n numbers) ≡ length numbers / n
  unfolding rows_of
  rows-count n numbers = chunks-length n (length numbers / n) numbers

  -- where row p stands
  pub rows_at : (n p : ℕ) (numbers : List A) → p < length numbers / n → get_or (rows_of n numbers) p [] ≡ take n (drop (p * n) numbers)
  unfolding rows_of
  rows_at n p numbers h = chunks-at n (length numbers / n) p numbers h

  -- the part of the area that code hands on is row p
  pub row-part : (n p : ℕ) (numbers : List A) → p < length numbers / n
      → take (p * n + n - p * n) (drop (p * n) numbers) ≡ get_or (rows_of n numbers) p []
  unfolding rows_of
  row-part n p numbers h = part-row n (length numbers / n) p numbers h

-- row p as a vector
pub vectors-at : (n p : ℕ) (numbers : List ℤ) → p < length numbers / n → get_or (vectors_of n numbers) p [] ≡ padded (take n (drop (p * n) numbers))
unfolding vectors_of
vectors-at n p numbers h =
    let l : p < length (rows_of n numbers) = omega (arith, rows-count n numbers) in
    get_d_map padded (rows_of n numbers) p [] [] l ∙ ap padded (rows_at n p numbers h)

pub ruleset row_is = (vectors-at)

-- the limit that the numbers of an area keep is kept by each of its rows
pub vectors-within : (limit n p : ℕ) (numbers : List ℤ) → p < length numbers / n → within limit numbers ≡ true → within limit (get_or (vectors_of n numbers) p []) ≡ true
unfolding padded
vectors-within limit n p numbers h e =
    let all = within-each limit numbers e in
    let part = take n (drop (p * n) numbers) in
    let row = each_of part (λ x m. each_member all (mem-drop (p * n) x numbers (mem-take n x (drop (p * n) numbers) m))) in
    rw (vectors-at n p numbers h) (each_within limit (each_append row (zeros_within limit (cells - length part))))

-- an area is cleared number by number
pub ruleset clear_turn = (blank_turn, blank-end, length-set)

-- an exchange names cells of a vector
pub names-cells : (n : ℕ) (s : Exchange) → n ≤ cells → is_exchange n s ≡ true → NamesCells s
names-cells n s h e =
    let long = (valid-of n s e).long in
    (omega arith, λ j l. let k = cell_at n s e j (omega arith) in (omega arith, omega arith))

-- and so does each row of those that were sent
pub sent-names : (n p : ℕ) (numbers : List ℕ) → n ≤ cells → p < length numbers / n → AllExchanges n (rows_of n numbers) → NamesCells (get_or (rows_of n numbers) p [])
sent-names n p numbers h l all =
    names-cells n (get_or (rows_of n numbers) p []) h (all (get_or (rows_of n numbers) p []) (place-member (rows_of n numbers) [] p (omega (arith, rows-count n numbers))))
