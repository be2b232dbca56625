-- The keys of vectors: what lies below a vector has a key that fits the vector's, and the key of a negative has the
-- halves exchanged. Assumes nothing.
use mathlib.Core.Path.{◌≡◌, refl, sym, ap, ◌∙◌}
use mathlib.Core.Bool.{true}
use mathlib.Core.List.{[], ◌∷◌}
use Prim.Native.Nat.{ℕ, zero, suc, ◌+◌, ◌-◌, ◌*◌, ◌^◌, ◌≤◌, ◌<◌}
use native.Mathlib.Numerals.{unary_clauses}
use native.Mathlib.Omega.{arith}
use lib.Arith.{digits_lt}
use lib.Bits.{bit_and, and_block}
use lib.IntN.{ℤ, pos, negsuc, neg_ℤ}
use lib.ListN.{length, drop, length-drop, drop_of_length-le}
use lib.Pow.{high, low, pow_mono}
use borrow.Author.Tests.{eq-eqb, lt-ltb}
use Rattle.std.proofs.Common.{to_z-of_z}
use Rattle.definitions.specs.Limits.{cells}
use Rattle.definitions.specs.Vector.{Vector, below, negative}
use Rattle.theory.proofs.Below.{◌⊑◌, head-below, tail-below, ⊑-length, ⊑-negative}
use Rattle.theory.proofs.Cell.{CellBelow}
use Rattle.theory.proofs.Vector.{length-negative, negative-negative}
use Rattle.vectors.specs.Keys.{half, side, key, turned, fits}
use Rattle.vectors.proofs.Kit.{cell_at, drop-one}

-- ---- one half: the positive cells

-- the bit for a positive cell
abbrev bit : ℤ → ℕ
bit (pos zero) = 0
bit (pos (suc n)) = 1
bit (negsuc n) = 0

-- the positive cells as bits
positives : Vector → ℕ
positives [] = 0
positives (a ∷ v) = positives v * 2 + bit a

bit-small : (a : ℤ) → bit a < 2
bit-small (pos zero) = omega arith
bit-small (pos (suc n)) = omega arith
bit-small (negsuc n) = omega arith

positives-small : (v : Vector) → positives v < 2 ^ length v
unfolding positives
positives-small [] = omega arith
positives-small (a ∷ v) = simp unary_clauses (omega (arith, positives-small v, bit-small a))

-- the positive cells of a vector have room in one half
half-small : (v : Vector) → length v ≤ cells → positives v < half
half-small v h = let k : 2 ^ length v ≤ half = pow_mono {j = 32} (omega arith) in omega (arith, positives-small v)

bit_below : (a b : ℤ) → CellBelow a b → bit_and (bit a) (bit b) ≡ bit a
bit_below (pos zero) b h = refl
bit_below (pos (suc a)) (pos zero) h = absurd (omega arith)
bit_below (pos (suc a)) (pos (suc b)) h = refl
bit_below (pos (suc a)) (negsuc b) h = absurd (omega arith)
bit_below (negsuc a) b h = refl

positives-below : {u v : Vector} → u ⊑ v → bit_and (positives u) (positives v) ≡ positives u
unfolding below positives
positives-below {u = []} {v = v} h = refl
positives-below {u = a ∷ u} {v = []} h = absurd h.test
positives-below {u = a ∷ u} {v = b ∷ v} h =
    and_block 1 (positives u) (positives v) (bit a) (bit b) (bit-small a) (bit-small b)
    ∙ rw (positives-below (tail-below h), bit_below a b (head-below h))

-- ---- both halves

side-halves : (a : ℤ) → side a ≡ bit (neg_ℤ a) * half + bit a
unfolding side
side-halves (pos zero) = refl
side-halves (pos (suc n)) = rw (lt-ltb 0 (suc n) (omega arith))
side-halves (negsuc n) = refl

key-halves : (v : Vector) → key v ≡ positives (negative v) * half + positives v
unfolding key negative positives
key-halves [] = refl
key-halves (a ∷ v) = omega (arith, key-halves v, side-halves a)

-- ---- the laws

-- the key of the negative
pub key-negative : (v : Vector) → length v ≤ cells → key (negative v) ≡ turned (key v)
key-negative v h =
    let p = half-small v h in
    let e = key-halves v in
    let f = key-halves (negative v) ∙ ap (λ (u : Vector). positives u * half + positives (negative v)) (negative-negative v) in
    f ∙ sym (rw (e, high (positives (negative v)) 32 p, low (positives (negative v)) 32 p))

-- what lies below a vector has a key that fits the vector's
pub key_below : {u v : Vector} → u ⊑ v → length v ≤ cells → fits (key u) (key v) ≡ true
key_below {u} {v} h l =
    let same = ⊑-length h in
    let p = half-small u (omega arith) in
    let q = half-small v l in
    eq-eqb (bit_and (key u) (key v)) (key u) (rw (key-halves u, key-halves v)
    (and_block 32 (positives (negative u)) (positives (negative v)) (positives u) (positives v) p q
    ∙ rw (positives-below (⊑-negative h), positives-below h)))

-- two halves have room in a key
pub halves-fit : (a b : ℕ) → a < half → b < half → a * half + b < 2 ^ 64
halves-fit a b h k = digits_lt {m = half} {c = half} h k

-- ---- the loop over the cells

-- no key is too large
pub key_fits : (v : Vector) → length v ≤ cells → key v < 2 ^ 64
key_fits v h =
    rw (key-halves v)
    (halves-fit (positives (negative v)) (positives v) (half-small (negative v) (omega (arith, length-negative v))) (half-small v h))

-- no cell
pub key-none : (v : Vector) (i : ℕ) → length v ≤ i → 0 ≡ key (drop i v)
unfolding key
key-none v i h = rw (drop_of_length-le v {i = i} h)

pub key-end : (v : Vector) → length v ≤ cells → key (drop cells v) ≡ 0
key-end v h = sym (key-none v cells h)

-- one cell more, in front of those from i on
module _ (v : Vector) (i : ℕ) (some : 0 < i) (long : length v ≡ cells) (inside : i ≤ cells) where
  pub key-cell : key (drop i v) * 2 + side (cell_at v (i - 1)) ≡ key (drop (i - 1) v)
  unfolding key
  key-cell = let e : i - 1 + 1 ≡ i = omega arith in rw (drop-one v (i - 1) (omega arith), e)

  pub cell-fits : key (drop i v) * 2 + side (cell_at v (i - 1)) < 2 ^ 64
  cell-fits = rw key-cell (key_fits (drop (i - 1) v) (omega (arith, length-drop (i - 1) v)))

pub ruleset key_turn = (key-end, key-cell, cell-fits, to_z-of_z)
