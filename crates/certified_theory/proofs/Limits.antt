-- How great a coefficient can get on the way to a stored row: far within 64 bits. Assumes nothing.
use Prim.Native.Nat.{ℕ, ◌+◌, ◌*◌, ◌<◌}
use native.Mathlib.Omega.{arith}
use Rattle.definitions.specs.Limits.{cells, entry_limit, generator_limit, stored_coefficient_limit}

-- the coefficients of a stored row, or of an image of one, weigh at most this in all: 64,000,000
abbrev pub image_bound : ℕ
image_bound = generator_limit * stored_coefficient_limit

-- and those of a remainder, or of its row: 8,192,128,000,000
abbrev pub coefficient_bound : ℕ
coefficient_bound = (2 + cells * (entry_limit + entry_limit)) * image_bound

-- no number of 64 bits wraps
pub bound-fits : coefficient_bound < 9_223_372_036_854_775_807
bound-fits = omega arith
