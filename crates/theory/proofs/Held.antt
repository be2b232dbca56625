-- An accepted listing in its areas (Specification 7.4): what is read from them is what was found. Assumes nothing.
use mathlib.Core.Path.{◌≡◌, refl, sym, ◌∙◌, ap, ap₂}
use mathlib.Core.List.{List, [], ◌∷◌, map, Memᴰ}
use Prim.Native.Nat.{ℕ, suc, ◌+◌, ◌-◌, ◌*◌, ◌≤◌}
use native.Mathlib.Nat.{suc-mul, zero-mul}
use native.Mathlib.Omega.{arith}
use lib.IntN.{ℤ, pos}
use lib.ListN.{length, take, replicate, length-map, length-append}
use lib.Seq.{length-take-le}
use Rattle.definitions.specs.Limits.{cells}
use Rattle.definitions.specs.Lists.{concat}
use Rattle.definitions.specs.Vector.{Vector, padded}
use Rattle.definitions.specs.Lent.{Order, chunks, filled, generators_of, numbers_of}
use Rattle.definitions.specs.Calls.{Listing}
use Rattle.theory.proofs.Lists.{chunks-filled, map-inv}
use Rattle.theory.proofs.Members.{Each, each-head, each_map, each_member, each_tail}
use Rattle.theory.proofs.Symmetric.{inside-length}
use Rattle.theory.proofs.Rows.{Short, lattice-short, short-padded, vectors-short}
use Rattle.theory.proofs.ListCall.{ListFacts}

-- a vector with entries in its first n cells only
pub record Narrow (n : ℕ) (v : Vector) : Type 0 where
  pub long : length v ≡ cells
  pub short : Short n v

-- the rows of an accepted listing
pub rows-narrow : (order : Order) (found : Listing) → ListFacts order found → Each (Narrow order.n) found.rows
unfolding generators_of
rows-narrow order found F =
    each_map (λ v h. record { long = inside-length F.symmetric h; short = lattice-short order.n F.symmetric.sizes (vectors-short order.n order.generators) v h }) F.stored.inside

module _ (n : ℕ) (fits : n ≤ cells) where
  taken-long : (v : Vector) → Narrow n v → length (take n v) ≡ n
  taken-long v h = length-take-le n v (omega (arith, fits, h.long))

  lines_long : (rows : List Vector) → Each (Narrow n) rows → (line : List ℤ) → Memᴰ line (map (take n) rows) → length line ≡ n
  lines_long rows h line m =
      let t = map-inv (take n) rows m in
      ap length t.2 ∙ taken-long t.0 (each_member h t.1)

  again : (rows : List Vector) → Each (Narrow n) rows → map padded (map (take n) rows) ≡ rows
  again [] h = refl
  again (v ∷ rows) h = ap₂ ◌∷◌ (short-padded n v fits (each-head h).long (each-head h).short) (again rows (each_tail h))

  numbers-length : (rows : List Vector) → Each (Narrow n) rows → length (numbers_of n rows) ≡ length rows * n
  unfolding numbers_of concat
  numbers-length [] h = sym (zero-mul n)
  numbers-length (v ∷ rows) h = length-append (take n v) (numbers_of n rows) ∙ ap₂ ◌+◌ (taken-long v (each-head h)) (numbers-length rows (each_tail h)) ∙ one_more
    where
      one_more : n + length rows * n ≡ suc (length rows) * n
      one_more = omega (arith, suc-mul (length rows) n)

  module _ (rows : List Vector) (h : Each (Narrow n) rows) (size : ℕ) {list : List ℤ} (e : list ≡ filled (pos 0) size (numbers_of n rows)) where
    -- its lines are the rows' own cells
    pub held-lines : chunks n (length rows) list ≡ map (take n) rows
    unfolding numbers_of
    held-lines =
        ap (chunks n (length rows)) e ∙ ap (λ (k : ℕ). chunks n k (filled (pos 0) size (concat (map (take n) rows)))) (sym (length-map rows (take n)))
        ∙ chunks-filled n size (pos 0) (map (take n) rows) (lines_long rows h)

    -- its rows are the rows
    pub held_rows : map padded (chunks n (length rows) list) ≡ rows
    held_rows = ap (map padded) held-lines ∙ again rows h

    -- and they lie within it
    pub held-room : length rows * n ≤ length list
    unfolding filled
    held-room = omega (arith, numbers-length rows h, ap length e, length-append (numbers_of n rows) (replicate (size - length (numbers_of n rows)) (pos 0)))
