-- Specification 8.1: numbers of several bytes. Assumes nothing.
use Rattle.std.specs.Prelude.{List, ℕ, zero, suc, ◌+◌, ◌-◌, ◌*◌, ◌^◌, get_or, ltb, ℤ, pos, ◌-ℤ◌, if◌then◌else◌}

-- the unsigned number of one byte
abbrev pub byte_at : (part : List ℕ) (at : ℕ) → ℕ
byte_at part at = get_or part at 0

-- two's complement: what the bits of v mean, where `half` is the least number with the sign bit
unfoldable pub signed_of : (half v : ℕ) → ℤ
signed_of half v = if ltb v half then pos v else pos v -ℤ pos (half + half)

-- the unsigned number of some bytes from `at` on, the least significant first
unfoldable pub little_at : (part : List ℕ) (at bytes : ℕ) → ℕ
little_at part at zero = 0
little_at part at (suc bytes) = get_or part at 0 + 256 * little_at part (at + 1) bytes

-- the signed number of some bytes
abbrev pub signed_at : (bytes : ℕ) (part : List ℕ) (at : ℕ) → ℤ
signed_at bytes part at = signed_of (2 ^ (8 * bytes - 1)) (little_at part at bytes)

-- .. of two bytes, and of four
abbrev pub short_at : (part : List ℕ) (at : ℕ) → ℤ
short_at = signed_at 2

abbrev pub word_at : (part : List ℕ) (at : ℕ) → ℤ
word_at = signed_at 4
