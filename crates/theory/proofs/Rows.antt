-- Rows of vectors in a lent area, n numbers to a row (Specification 7.4): what is read at a place, and a row written behind the others.
-- Vectors of the lattice are zero past the order's own n cells, so that a row that is written is read again as it was. Assumes nothing.
use mathlib.Core.Path.{◌≡◌, sym, ◌∙◌, ap, ap₂}
use mathlib.Core.List.{List, [], ◌∷◌, ◌++◌, map, map-append, append_assoc}
use Prim.Native.Nat.{ℕ, zero, suc, ◌+◌, ◌-◌, ◌*◌, ◌≤◌, ◌<◌, ◌/◌}
use lib.IntN.{ℤ, pos}
use lib.ListN.{length, get_or, take, drop, replicate, take-append-drop, length-map}
use lib.Seq.{take_at, drop_at, length-take-le, paste, drop-drop}
use native.Mathlib.Nat.{suc-mul, div-mul-le_self}
use native.Mathlib.Omega.{arith}
use Rattle.definitions.specs.Limits.{cells}
use Rattle.definitions.specs.Lists.{concat}
use Rattle.definitions.specs.Vector.{Vector, negative, padded, plus, zero_vector, zeros}
use Rattle.definitions.specs.Lattice.{InLattice}
use Rattle.definitions.specs.Lent.{chunks, rows_of, vectors_of}
use Rattle.theory.proofs.Lists.{chunks-at, chunks-concat, chunks-length, chunks_long, concat-chunks, get_d_map}
use Rattle.theory.proofs.Members.{Each, each_append, each-image, each_of}
use Rattle.theory.proofs.Vector.{length-zeros, negative-zeros, zeros-plus}
use Rattle.theory.proofs.Lattice.{lattice-ind}
use Rattle.theory.proofs.Action.{drop-negative, drop-plus}
use Rattle.theory.proofs.Bounds.{Within}
use Rattle.theory.proofs.Accepted.{each-drop, each_take}

-- ---- one row more
module _ {A : Type 0} where
  -- the first rows are those of the first numbers
  pub chunks-front : (n k : ℕ) (a b : List A) → k * n ≤ length a → chunks n k (take (k * n) a ++ b) ≡ chunks n k a
  chunks-front n k a b h =
      ap (λ (l : List A). chunks n k (l ++ b)) (sym (concat-chunks n k a))
      ∙ ap (λ (m : ℕ). chunks n m (concat (chunks n k a) ++ b)) (sym (chunks-length n k a))
      ∙ chunks-concat n (chunks n k a) b (chunks_long n k a h)

  chunks-snoc : (n k : ℕ) (a : List A) → chunks n (suc k) a ≡ chunks n k a ++ (take n (drop (k * n) a) ∷ [])
  unfolding chunks
  chunks-snoc n zero a = let e : zero * n ≡ zero = omega arith in ap (λ (m : ℕ). take n (drop m a) ∷ []) (sym e)
  chunks-snoc n (suc k) a =
      let e : n + k * n ≡ suc k * n = omega (arith, suc-mul k n) in
      ap (λ (l : List (List A)). take n a ∷ l) (chunks-snoc n k (drop n a) ∙ ap (λ (l : List A). chunks n k (drop n a) ++ (take n l ∷ [])) (drop-drop (k * n) n a ∙ ap (λ (m : ℕ). drop m a) e))

  -- a row written behind k rows
  pub chunks-paste : (n k : ℕ) (a v : List A) → k * n + n ≤ length a → n ≤ length v → chunks n (suc k) (paste a (k * n) v n) ≡ chunks n k a ++ (take n v ∷ [])
  chunks-paste n k a v h l =
      chunks-snoc n k (paste a (k * n) v n)
      ∙ ap₂ (λ (x : List (List A)) (y : List A). x ++ (y ∷ [])) front last
    where
      at : ℕ
      at = k * n

      rest : List A
      rest = take n v ++ drop (at + n) a

      whole : paste a at v n ≡ take at a ++ rest
      whole = append_assoc (take at a) (take n v) (drop (at + n) a)

      front : chunks n k (paste a at v n) ≡ chunks n k a
      front = ap (chunks n k) whole ∙ chunks-front n k a rest (omega arith)

      last : take n (drop at (paste a at v n)) ≡ take n v
      last = ap (λ (x : List A). take n (drop at x)) whole
          ∙ ap (take n) (drop_at (take at a) rest at (length-take-le at a (omega arith)))
          ∙ take_at (take n v) (drop (at + n) a) n (length-take-le n v l)

-- ---- vectors that are zero past n
abbrev pub Short : (n : ℕ) → Vector → Type 0
Short n v = drop n v ≡ zeros (cells - n)

-- such a vector is its first n numbers with zeros behind them
pub short-padded : (n : ℕ) (v : Vector) → n ≤ cells → length v ≡ cells → Short n v → padded (take n v) ≡ v
unfolding padded zeros
short-padded n v h p s =
    let e : cells - length (take n v) ≡ cells - n = omega (arith, length-take-le n v (omega (arith, p, h))) in
    ap (λ (k : ℕ). take n v ++ replicate k (pos 0)) e ∙ ap (λ (l : Vector). take n v ++ l) (sym s) ∙ take-append-drop n v

drop-zeros : (n m : ℕ) → drop n (zeros m) ≡ zeros (m - n)
unfolding zeros
drop-zeros zero m = let e : m ≡ m - zero = omega arith in ap (λ (k : ℕ). replicate k (pos 0)) e
drop-zeros (suc n) zero = let e : zero ≡ zero - suc n = omega arith in ap (λ (k : ℕ). replicate k (pos 0)) e
drop-zeros (suc n) (suc m) = let e : m - n ≡ suc m - suc n = omega arith in drop-zeros n m ∙ ap zeros e

pub short-zero : (n : ℕ) → Short n zero_vector
unfolding zero_vector
short-zero n = drop-zeros n cells

pub short-plus : (n : ℕ) (u v : Vector) → Short n u → Short n v → Short n (plus u v)
short-plus n u v s t = drop-plus n u v ∙ ap₂ plus s t ∙ zeros-plus (cells - n) (zeros (cells - n)) (length-zeros (cells - n))

pub short-negative : (n : ℕ) (v : Vector) → Short n v → Short n (negative v)
short-negative n v s = drop-negative n v ∙ ap negative s ∙ negative-zeros (cells - n)

pub short-rows : (n : ℕ) (row : List ℤ) → length row ≡ n → Short n (padded row)
unfolding padded zeros
short-rows n row e = drop_at row (replicate (cells - length row) (pos 0)) n e ∙ ap (λ (k : ℕ). replicate (cells - k) (pos 0)) e

-- EVERY VECTOR OF THE LATTICE is zero past n, where the generators are
pub lattice-short : (n : ℕ) {generators : List Vector} → Each (λ g. length g ≡ cells) generators → Each (Short n) generators → (v : Vector) → InLattice generators v → Short n v
lattice-short n {generators} sizes short v h = lattice-ind generators sizes (Short n) (short-zero n) (short-plus n) (short-negative n) short v h

-- the vectors of whole rows
pub vectors-short : (n : ℕ) (numbers : List ℤ) → Each (Short n) (vectors_of n numbers)
unfolding vectors_of rows_of
vectors-short n numbers =
    each-image padded (λ row (e : length row ≡ n). short-rows n row e)
    (each_of (chunks n (length numbers / n) numbers) (chunks_long n (length numbers / n) numbers (div-mul-le_self (length numbers) n)))

-- ---- rows read from an area
pub row_at : (n k i : ℕ) (area : List ℤ) → i < k → padded (take n (drop (i * n) area)) ≡ get_or (map padded (chunks n k area)) i []
row_at n k i area h =
    ap padded (sym (chunks-at n k i area h)) ∙ sym (get_d_map padded (chunks n k area) i [] [] (omega (arith, chunks-length n k area)))

pub rows-count : (n k : ℕ) (area : List ℤ) → length (map padded (chunks n k area)) ≡ k
rows-count n k area = length-map (chunks n k area) padded ∙ chunks-length n k area

-- a vector written behind k rows
pub rows-paste : (n k : ℕ) (area : List ℤ) (v : Vector) → n ≤ cells → k * n + n ≤ length area → length v ≡ cells → Short n v
    → map padded (chunks n (suc k) (paste area (k * n) v n)) ≡ map padded (chunks n k area) ++ (v ∷ [])
rows-paste n k area v h l p s =
    ap (map padded) (chunks-paste n k area v l (omega (arith, p, h)))
    ∙ map-append padded (chunks n k area) (take n v ∷ [])
    ∙ ap (λ (w : Vector). map padded (chunks n k area) ++ (w ∷ [])) (short-padded n v h p s)

-- no number is past a limit after the write
pub within-paste : {limit : ℕ} (area : List ℤ) (at : ℕ) (v : Vector) (n : ℕ) → Within limit area → Within limit v → Within limit (paste area at v n)
within-paste area at v n h k = each_append (each_append (each_take at h) (each_take n k)) (each-drop (at + n) h)
