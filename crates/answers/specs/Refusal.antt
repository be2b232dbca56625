-- Specification 9.4: a refusal as the result of a call. Assumes nothing.
use Rattle.std.specs.Prelude.{ℕ, ◌+◌, ◌*◌, ℤ, pos, neg_ℤ}

-- what the place of a refusal is multiplied by; every number of a refusal is below it
abbrev pub place_factor : ℕ
place_factor = 32

-- a refusal as one number
abbrev pub refusal_code : (number place : ℕ) → ℕ
refusal_code number place = place_factor * place + number

-- the result of a refusal
unfoldable pub refusal_of : (number place : ℕ) → ℤ
refusal_of number place = neg_ℤ (pos (refusal_code number place))
