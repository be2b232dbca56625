-- Step 5 with coefficients (Specification 3.5): the rows that stay are among the stored rows, and take their coefficients.
-- Assumes nothing.
use mathlib.Core.Path.{◌≡◌, sym, ◌∙◌, ap, subst}
use mathlib.Core.Bool.{not}
use mathlib.Core.List.{List, [], ◌++◌, map, Memᴰ, append-nil}
use Prim.Native.Nat.{ℕ, ◌*◌, ◌/◌, ◌≤◌, ◌<◌}
use native.Mathlib.Nat.{le-div_iff_mul-le, mul-div_cancel, mul-le-mul, mul-le-mul_right}
use native.Mathlib.Omega.{arith}
use lib.IntN.{ℤ, pos}
use lib.ListN.{length, get_or, take}
use lib.Seq.{length-take-le}
use Rattle.std.proofs.lemmas.List.{take_at}
use Rattle.definitions.specs.Limits.{cells, generator_limit, list_limit, stored_coefficient_limit}
use Rattle.definitions.specs.Lists.{concat, range, select}
use Rattle.definitions.specs.Vector.{Vector, padded, weight}
use Rattle.definitions.specs.Group.{Exchange}
use Rattle.definitions.specs.Orbit.{precedes}
use Rattle.definitions.specs.Completion.{final_rows, has_other_below}
use Rattle.definitions.specs.Certified.{final_coefficients}
use Rattle.definitions.specs.Lent.{chunks, filled, rows_of, vectors_of}
use Rattle.theory.proofs.Lists.{chunks_long, concat-chunks, map-inv, range-inv}
use Rattle.theory.proofs.Members.{Each, each-cons, each_append, each_member, each_nil, each_of, of-select, place-member}
use Rattle.theory.proofs.Equal.{member_is}
use Rattle.theory.proofs.Bounds.{Within}
use Rattle.theory.proofs.Sorting.{of-sorted}
use Rattle.theory.proofs.Rows.{chunks-front, short-rows}
use Rattle.theory.proofs.Accepted.{padded-length}
use Rattle.theory.proofs.Held.{Narrow, held-room, held_rows}
use Rattle.certified_theory.proofs.Weights.{weight-within}
use Rattle.reduction.specs.declared.Extent.{Extent}
use Rattle.reduction.specs.Areas.{rows_at, sequences_in}
use Rattle.reduction.specs.Marks.{rows_in_use}
use Rattle.coefficients.specs.Carrying.{Arrangeable, arranged, widest}
use Rattle.sorting.specs.Flags.{Finished}
use Rattle.certified_lists.specs.Found.{Arranged, RowsAndCoefficients}

-- a row that stays is a stored row
pub final-among : (table : List Exchange) (rows : List Vector) (v : Vector) → Memᴰ v (final_rows table rows)
    → Memᴰ v rows
unfolding final_rows
final-among table rows v k =
    let kept = select (λ r. not (has_other_below table rows r)) (range 0 (length rows)) in
    let t = map-inv (λ r. get_or rows r []) kept (of-sorted precedes (map (λ r. get_or rows r []) kept) v k) in
    let inside = (of-select (λ r. not (has_other_below table rows r)) (range 0 (length rows)) t.0 t.1).0 in
    subst (λ (u : Vector). Memᴰ u rows) (sym t.2) (place-member rows [] t.0 (omega (arith, (range-inv 0 (length rows) t.0 inside).1)))

-- the front of an area, once it was copied there
pub front-copied : {A : Type 0} (k : ℕ) {front : List A} (area rest : List A) → k ≤ length area → front ≡ take k area → take k (front ++ rest) ≡ take k area
front-copied k {front} area rest h e = take_at front rest k (ap length e ∙ length-take-le k area h) ∙ e

-- whole rows of an area: so many rows of n numbers
pub front-rows : {A : Type 0} (n k : ℕ) (area : List A) → k * n ≤ length area → chunks n k (take (k * n) area) ≡ chunks n k area
front-rows n k area h = ap (chunks n k) (sym (append-nil (take (k * n) area))) ∙ chunks-front n k area [] h

times-over : (n k : ℕ) → 1 ≤ n → k * n / n ≡ k
times-over n k h = let some : 0 < n = omega arith in mul-div_cancel k some

-- .. as vectors
pub front-vectors : (n k : ℕ) (area : List ℤ) → 1 ≤ n → k * n ≤ length area → vectors_of n (take (k * n) area) ≡ rows_at n k area
unfolding vectors_of rows_of
front-vectors n k area p h = rw (length-take-le (k * n) area h, times-over n k p, front-rows n k area h)

-- the numbers of rows that are within a limit are within it
within_all : (limit : ℕ) {rows : List (List ℤ)} → Each (Within limit) rows → Within limit (concat rows)
unfolding concat
within_all limit each_nil = each_nil
within_all limit (each-cons h t) = each_append h (within_all limit t)

-- rows that an area holds have entries in their first n cells only
rows-narrow : (n k : ℕ) (area : List ℤ) → n ≤ cells → k * n ≤ length area → Each (Narrow n) (rows_at n k area)
rows-narrow n k area fits room =
    each_of (rows_at n k area) (λ v m.
    let t = map-inv padded (chunks n k area) m in
    let long = chunks_long n k area room t.0 t.1 in
    subst (Narrow n) (sym t.2) (record { long = padded-length t.0 (omega arith); short = short-rows n t.0 long }))

module _ (extent : Extent) (m : ℕ) {group : List ℕ} {list : List ℤ} {marks keys : List ℕ} {noted coefficients : List ℤ}
    (N : RowsAndCoefficients extent m group list marks keys noted coefficients) where
  abbrev n : ℕ
  n = extent.shape.n

  abbrev k : ℕ
  k = extent.k

  abbrev table : List Exchange
  table = sequences_in extent.shape group

  abbrev rows : List Vector
  rows = rows_in_use extent list

  abbrev kept : List Vector
  kept = final_rows table rows

  pub noted_small : k * m ≤ list_limit * generator_limit
  noted_small = omega (arith, mul-le-mul N.few N.narrow)

  narrow : Each (Narrow n) kept
  narrow = each_of kept (λ v h. each_member (rows-narrow n k list N.marked.is_table.narrow N.marked.area.holds) (final-among table rows v h))

  module _ {list' : List ℤ} {count : ℕ} (F : Finished extent group list list' count) where
    pub kept-held : rows_at n count list' ≡ kept
    kept-held = rw F.counted (held_rows n N.marked.is_table.narrow kept narrow (length list) F.lies)

    pub kept-room : count * n ≤ length list'
    kept-room = rw F.counted (held-room n N.marked.is_table.narrow kept narrow (length list) F.lies)

    pub kept-vectors : vectors_of n (take (count * n) list') ≡ kept
    kept-vectors = front-vectors n count list' N.marked.is_table.positive kept-room ∙ kept-held

    -- the stored rows, copied
    module _ {copied : List ℤ} (same : copied ≡ take (k * n) list) where
      pub stored-vectors : vectors_of n copied ≡ rows
      stored-vectors = rw same (front-vectors n k list N.marked.is_table.positive N.marked.area.holds)

      stored-count : length copied / n ≡ k
      stored-count = rw (same, length-take-le (k * n) list N.marked.area.holds) (times-over n k N.marked.is_table.positive)

      light : weight (take (k * m) noted) ≤ widest
      light =
          let all = rw (concat-chunks m k noted) at (within_all stored_coefficient_limit N.limited) in
          let long = length-take-le (k * m) noted N.holds in
          omega (arith, weight-within stored_coefficient_limit all, long, mul-le-mul_right {m = k * m} {n = list_limit * generator_limit} stored_coefficient_limit noted_small, ap (λ (l : ℕ). l * stored_coefficient_limit) long)

      pub arrangeable : length list' ≡ length list
          → Arrangeable n m (take (count * n) list') copied (take (k * m) noted) coefficients
      arrangeable long = record {
        positive = N.marked.is_table.positive;
        narrow = N.marked.is_table.narrow;
        known = rw (kept-vectors, stored-vectors) (each_of kept (λ v h. member_is (final-among table rows v h)));
        holds = omega (arith, ap (λ (l : ℕ). l * m) stored-count, length-take-le (k * m) noted N.holds);
        room =
            let whole : length (take (count * n) list') / n ≡ count =
            ap (λ (l : ℕ). l / n) (length-take-le (count * n) list' kept-room) ∙ times-over n count N.marked.is_table.positive in
            let lent : count ≤ length list / n = (le-div_iff_mul-le N.marked.is_table.positive).1 (omega (arith, kept-room, long)) in
            omega (arith, ap (λ (l : ℕ). l * m) whole, mul-le-mul_right {m = count} {n = length list / n} m lent, N.room);
        small = light;
      }

      -- the rows that stay, and their coefficients
      pub arranged_is : {coefficients' : List ℤ} (size : ℕ)
          → coefficients' ≡ filled (pos 0) size (concat (arranged (vectors_of n copied) (chunks m (length copied / n) (take (k * m) noted)) (vectors_of n (take (count * n) list'))))
          → Arranged extent m group list noted list' coefficients' count size
      unfolding final_coefficients
      arranged_is size e = record {
        finished = F;
        arranged = rw (stored-count, stored-vectors, kept-vectors, front-rows m k noted N.holds) at e;
      }
