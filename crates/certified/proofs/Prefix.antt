-- Rows with one more behind them: the rows before it, and their marks. Assumes nothing.
use mathlib.Core.Path.{◌≡◌, sym, ◌∙◌, ap}
use mathlib.Core.List.{List, [], ◌∷◌, ◌++◌, map, map-append}
use Prim.Native.Nat.{ℕ, suc, ◌+◌, ◌*◌, ◌<◌}
use native.Mathlib.Omega.{arith}
use lib.ListN.{length, get_or, take, drop, length-append, drop_of_length-le, get_or-append}
use lib.Seq.{split_at, take-append_seam}
use lib.IntN.{ℤ}
use Rattle.definitions.specs.Vector.{Vector, padded}
use Rattle.definitions.specs.Group.{Exchange}
use Rattle.definitions.specs.Lent.{chunks}
use Rattle.theory.proofs.Lists.{chunks-length, chunks-take, row-end}
use Rattle.theory.proofs.Rows.{rows-count}
use Rattle.reduction.specs.Areas.{rows_at}
use Rattle.reduction.specs.Marks.{Kept, Marked}
use Rattle.reduction.proofs.Marking.{leads-until}

-- ---- rows of an area

module _ {A : Type 0} where
  -- the last row stands behind the others
  pub chunks-last : (n k : ℕ) (xs : List A)
      → chunks n (k + 1) xs ≡ chunks n k xs ++ get_or (chunks n (k + 1) xs) k [] ∷ []
  chunks-last n k xs =
      split_at all k [] (omega (arith, count))
      ∙ ap (λ (l : List (List A)). l ++ get_or all k [] ∷ drop (suc k) all) (chunks-take n (k + 1) k xs (omega arith))
      ∙ ap (λ (l : List (List A)). chunks n k xs ++ get_or all k [] ∷ l) (drop_of_length-le all {i = suc k} (omega (arith, count)))
    where
      all : List (List A)
      all = chunks n (k + 1) xs

      count : length all ≡ k + 1
      count = chunks-length n (k + 1) xs

  -- what stands before one more
  front_same : (xs ys : List A) (x y : A) → length xs ≡ length ys → xs ++ x ∷ [] ≡ ys ++ y ∷ [] → xs ≡ ys
  front_same xs ys x y l e =
      sym (take-append_seam xs (x ∷ []))
      ∙ ap (take (length xs)) e
      ∙ ap (λ (k : ℕ). take k (ys ++ y ∷ [])) l
      ∙ take-append_seam ys (y ∷ [])

-- the rows before the last
pub rows_before : (n k : ℕ) (list : List ℤ) (rows : List Vector) (row : Vector) → length rows ≡ k
    → rows_at n (k + 1) list ≡ rows ++ row ∷ [] → rows_at n k list ≡ rows
rows_before n k list rows row l e =
    let last : List ℤ = get_or (chunks n (k + 1) list) k [] in
    let split = ap (map padded) (chunks-last n k list) ∙ map-append padded (chunks n k list) (last ∷ []) in
    front_same (rows_at n k list) rows (padded last) row (rows-count n k list ∙ sym l) (sym split ∙ e)

-- ---- marks

-- the marks of rows with one more behind them are the marks of these rows
pub marked-before : (table : List Exchange) (rows : List Vector) (row : Vector) {marks keys : List ℕ} → 0 < length table
    → Marked table (rows ++ row ∷ []) marks keys → Marked table rows marks keys
marked-before table rows row {marks} {keys} some M = record {
  skips = λ r p h k e. rw (same r h) at (M.skips r p (inside r h) k e);
  repeats = λ r p h k e again. M.repeats r p (inside r h) k e (rw (same r h) again);
  leads = leads-until M.leads past kept;
  keyed = λ r p h k. rw (same r h) at (M.keyed r p (inside r h) k);
}
  where
    count : length (rows ++ row ∷ []) ≡ length rows + 1
    count = length-append rows (row ∷ [])

    inside : (r : ℕ) → r < length rows → r < length (rows ++ row ∷ [])
    inside r h = omega (arith, count)

    same : (r : ℕ) → r < length rows → get_or (rows ++ row ∷ []) r [] ≡ get_or rows r []
    same r h = get_or-append rows (row ∷ []) [] r h

    past : length rows * length table < length (rows ++ row ∷ []) * length table
    past = omega (arith, row-end (length rows) (length (rows ++ row ∷ [])) (length table) (omega (arith, count)))

    -- the first position of a row is never repeated
    kept : Kept marks (length rows * length table)
    kept e =
        let none : length rows * length table + 0 ≡ length rows * length table = omega arith in
        let earlier = M.skips (length rows) 0 (omega (arith, count)) some (ap (λ (q : ℕ). get_or marks q 0) none ∙ e) in
        absurd (omega (arith, earlier.1))
