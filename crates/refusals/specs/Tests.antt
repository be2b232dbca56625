-- Specification 7.2: what the tests of numbers find, in lent areas. Assumes nothing.
use Rattle.definitions.specs.Refusals.{Fault}
use Rattle.std.specs.Prelude.{◌≡◌, Bool, ◌&&◌, List, [], ℕ, ◌*◌, ◌/◌, ◌<◌, eqb, ℤ, pos, length, get_or}
use Rattle.definitions.specs.Limits.{list_limit}
use Rattle.definitions.specs.Vector.{is_zero}
use Rattle.definitions.specs.Lent.{whole_rows, whole_rows_up_to, vectors_of}
use Rattle.definitions.specs.Refusals.{fault_where, is_past}

-- what else a Check lends fits: so many numbers of generators, of brought rows and of coefficients
abbrev pub brought_sizes_fit : (n generators rows coefficients : ℕ) → Bool
brought_sizes_fit n generators rows coefficients =
    whole_rows_up_to list_limit n rows && eqb coefficients (rows / n * (generators / n))

-- what else a List with coefficients lends fits: so many numbers of generators, images, the list and coefficients
abbrev pub certified_sizes_fit : (n generators images list coefficients : ℕ) → Bool
certified_sizes_fit n generators images list coefficients =
    whole_rows n list && eqb coefficients (list / n * (generators / n)) && eqb images 0

-- 7 and 14: the first number past the limit
abbrev pub past_fault : (number limit : ℕ) (numbers : List ℤ) → Fault
past_fault number limit numbers = fault_where number (length numbers) (λ p. is_past limit (get_or numbers p (pos 0)))

-- 8: the first generator that is zero
abbrev pub zero_fault : (n : ℕ) (generators : List ℤ) → Fault
zero_fault n generators =
    let rows = vectors_of n generators in
    fault_where 8 (length rows) (λ p. is_zero (get_or rows p []))

-- at each of `count` places a call answers as due
abbrev pub Tells : (count : ℕ) (answers : ℕ → Bool → Type 0) (due : ℕ → Bool) → Type 0
Tells count answers due = (p : ℕ) (b : Bool) → p < count → answers p b → b ≡ due p
