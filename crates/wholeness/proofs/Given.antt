-- What a brought list gives to its tests: the area of its rows, and the limits that they keep. Assumes nothing.
use mathlib.Core.Path.{◌≡◌, sym, ◌∙◌, ap, subst}
use mathlib.Core.Bool.{true}
use mathlib.Core.List.{List, [], ◌∷◌, map}
use Prim.Native.Nat.{ℕ, ◌-◌, ◌*◌, ◌/◌, ◌%◌, ◌≤◌}
use native.Mathlib.Nat.{div-mul-le_self, div-add-mod'}
use native.Mathlib.Omega.{arith}
use borrow.Author.Tests.{eqb-true}
use lib.IntN.{ℤ, pos}
use lib.ListN.{length, replicate}
use lib.Seq.{take_all, take-append_seam}
use Rattle.definitions.specs.Limits.{cells, entry_limit}
use Rattle.definitions.specs.Lists.{concat}
use Rattle.definitions.specs.Vector.{Vector, padded, within}
use Rattle.definitions.specs.Orbit.{orbits}
use Rattle.definitions.specs.Lent.{rows_of, vectors_of, whole_rows}
use Rattle.theory.proofs.Lists.{concat-chunks}
use Rattle.theory.proofs.Members.{Each, each_append, each-cons, each_nil}
use Rattle.theory.proofs.Accepted.{each_take}
use Rattle.theory.proofs.Bounds.{Within, each_within, within_more}
use Rattle.vectors.specs.Bounds.{headroom}
use Rattle.reduction.specs.declared.Shape.{Shape}
use Rattle.reduction.specs.Areas.{Area, Nonzero, rows_at, sequences_in}
use Rattle.reduction.specs.Marks.{Marked, RowsMarked, RowsReady}
use Rattle.wholeness.specs.Lists.{Brought, Ready}

-- the numbers of rows, one row after the other, keep the limit that the rows as vectors keep
numbers-within : {limit : ℕ} (parts : List (List ℤ)) → Each (Within limit) (map padded parts) → Within limit (concat parts)
unfolding concat padded
numbers-within [] h = each_nil
numbers-within {limit} (part ∷ parts) (each-cons h t) =
    each_append
    (subst (Within limit) (take-append_seam part (replicate (cells - length part) (pos 0))) (each_take (length part) h))
    (numbers-within parts t)

-- where the rows are whole they are all numbers
whole_numbers : (n : ℕ) (rows : List ℤ) → whole_rows n (length rows) ≡ true → concat (rows_of n rows) ≡ rows
unfolding whole_rows rows_of
whole_numbers n rows e =
    let none = eqb-true (length rows % n) 0 e in
    let all : length rows ≤ length rows / n * n = omega (arith, none, div-add-mod' (length rows) n) in
    concat-chunks n (length rows / n) rows ∙ take_all (length rows / n * n) rows all

-- the rows of an area of k rows
pub rows_same : (n k : ℕ) (rows : List ℤ) → k ≡ length rows / n → rows_at n k rows ≡ vectors_of n rows
unfolding vectors_of rows_of
rows_same n k rows e = ap (λ (m : ℕ). rows_at n m rows) e

module _ {shape : Shape} {table : List ℕ} {rows : List ℤ} (B : Brought shape table rows) where
  rows-within : Within entry_limit rows
  unfolding vectors_of
  rows-within =
      subst (Within entry_limit) (whole_numbers shape.n rows B.whole)
      (numbers-within (rows_of shape.n rows) B.entries)

  -- no number is past the headroom
  pub rows-limited : within headroom rows ≡ true
  rows-limited = each_within headroom (within_more (omega arith) rows-within)

  -- the area of all rows
  pub area_in : Area shape.n (length rows / shape.n) rows
  area_in = record { holds = div-mul-le_self (length rows) shape.n; limited = rows-limited }

-- the rows, of which there are k, with their marks and keys
module _ {shape : Shape} {table : List ℕ} {rows : List ℤ} {marks keys : List ℕ} (R : Ready shape table rows marks keys) (k : ℕ)
    (e : k ≡ length rows / shape.n) where
  same : rows_at shape.n k rows ≡ vectors_of shape.n rows
  same = rows_same shape.n k rows e

  pub rows-marked : RowsMarked shape k table rows marks keys
  rows-marked = record {
    is_table = R.brought.rows_of_table;
    area = rw e (area_in R.brought);
    room = rw e R.room;
    marked = subst (λ (l : List Vector). Marked (sequences_in shape table) l marks keys) (sym same) R.marked;
  }

  -- vectors can be reduced by them
  pub rows-ready : RowsReady shape k table rows marks keys
  rows-ready = record {
    held = rows-marked;
    nonzero = subst (λ (l : List Vector). Nonzero (orbits (sequences_in shape table) l)) (sym same) R.brought.positive;
  }
