-- The signs of the cells of a vector, as the bits of one number. Assumes nothing.
use Rattle.std.specs.Prelude.{Bool, cond, [], ◌∷◌, ℕ, ◌+◌, ◌*◌, ◌/◌, ◌%◌, ◌^◌, eqb, ℤ, pos}
use Rattle.std.specs.Int.Bits.{bit_and}
use Rattle.std.specs.Int.Signed.{lt_z}
use Rattle.definitions.specs.Vector.{Vector}

-- one more than the greatest number that one half of a key holds
abbrev pub half : ℕ
half = 2 ^ 32

-- the bit for a cell's sign: in the lower half for a positive cell, in the upper half for a negative one
unfoldable pub side : ℤ → ℕ
side a = cond (lt_z (pos 0) a) 1 (cond (lt_z a (pos 0)) half 0)

-- the key of a vector: a bit for each positive cell, and one for each negative cell
unfoldable pub key : Vector → ℕ
key [] = 0
key (a ∷ v) = key v * 2 + side a

-- the key of the negative, from the vector's own: the halves exchanged
abbrev pub turned : (key : ℕ) → ℕ
turned key = key % half * half + key / half

-- every bit of a key is one of the other's
abbrev pub fits : (key other : ℕ) → Bool
fits key other = eqb (bit_and key other) key
