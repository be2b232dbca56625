-- Specification 9: numbers in decimal, as bytes of ASCII. Assumes nothing.
use Rattle.std.specs.Prelude.{List, [], ◌∷◌, ◌++◌, ℕ, zero, suc, ◌+◌, ◌/◌, ◌%◌, ltb, ℤ, pos, negsuc, length, if◌then◌else◌}

-- the bytes of the digit 0 and of the minus sign
abbrev pub digit_zero : ℕ
digit_zero = 48

abbrev pub minus_sign : ℕ
minus_sign = 45

-- at most `fuel` digits: those of the tenth part, and the last one
unfoldable pub digits : (fuel n : ℕ) → List ℕ
digits zero n = []
digits (suc fuel) n =
    let more = digits fuel (n / 10) ++ ((digit_zero + n % 10) ∷ []) in
    if ltb n 10 then (digit_zero + n) ∷ [] else more

-- a number without leading zeros: it has no more digits than n, or one
unfoldable pub decimal : ℕ → List ℕ
decimal n = digits (suc n) n

-- how many digits it has
abbrev pub digit_count : ℕ → ℕ
digit_count n = length (decimal n)

-- with a sign before a negative number
abbrev pub decimalℤ : ℤ → List ℕ
decimalℤ (pos n) = decimal n
decimalℤ (negsuc n) = minus_sign ∷ decimal (suc n)
