-- Specification 7.2: what the tests 17 to 19 find of a brought list, and 23 of images; what they ask of their callers.
-- Assumes nothing.
use Rattle.definitions.specs.Refusals.{Fault}
use Rattle.std.specs.Prelude.{◌≡◌, Bool, true, List, [], ℕ, ◌*◌, ◌/◌, ◌≤◌, ℤ, length, get_or}
use Rattle.definitions.specs.Limits.{entry_limit, generator_limit, exchange_limit, bare_limit, coefficient_limit}
use Rattle.definitions.specs.Vector.{Vector, within}
use Rattle.definitions.specs.Group.{Exchange}
use Rattle.definitions.specs.Lent.{chunks, rows_of}
use Rattle.definitions.specs.Refusals.{fault_where, is_unfit, is_misplaced, is_uncertified, images_fault, rows_fault}
use Rattle.vectors.specs.Areas.{Lent, vectors_in}
use Rattle.reduction.specs.declared.Shape.{Shape}
use Rattle.reduction.specs.Areas.{sequences_in}

-- 17: the first row that does not fit
abbrev pub unfit_fault : (table : List Exchange) (rows : List Vector) → Fault
unfit_fault table rows = fault_where 17 (length rows) (λ r. is_unfit table (get_or rows r []))

-- 18: the first row that does not come after the row before it
abbrev pub misplaced_fault : (rows : List Vector) → Fault
misplaced_fault rows = fault_where 18 (length rows) (is_misplaced rows)

-- 19 and 23: vector p has no certificate
abbrev pub uncertified_at : (limit : ℕ) (generators vectors : List Vector) (coefficients : List ℤ) (p : ℕ) → Bool
uncertified_at limit generators vectors coefficients p =
    let certificates = chunks (length generators) (length vectors) coefficients in
    is_uncertified limit generators (get_or certificates p []) (get_or vectors p [])

-- 19: the first row without a certificate
abbrev pub uncertified_fault : (generators rows : List Vector) (coefficients : List ℤ) → Fault
uncertified_fault generators rows coefficients =
    fault_where 19 (length rows) (uncertified_at coefficient_limit generators rows coefficients)

-- 17 to 19 of the rows and coefficients that are lent, with a group's table
abbrev pub rows_fault_in : Shape → (generators rows coefficients : Lent ℤ) (table : Lent ℕ) → Fault
rows_fault_in shape generators rows coefficients table =
    rows_fault (sequences_in shape table.entry.now)
    (vectors_in shape.n generators) (vectors_in shape.n rows) coefficients.entry.now

-- 23 of the order that is lent
abbrev pub images_fault_in : (n : ℕ) (generators : Lent ℤ) (exchanges : Lent ℕ) (images : Lent ℤ) → Fault
images_fault_in n generators exchanges images =
    images_fault (vectors_in n generators) (rows_of n exchanges.entry.now) images.entry.now

-- the generators of an order: no entry is past its limit, and they are not too many
pub record Bounded (n : ℕ) (generators : List ℤ) : Type 0 where
  pub entries : within entry_limit generators ≡ true
  pub few : length generators / n ≤ generator_limit

-- the generators, and one coefficient for each
pub record Certificate (n : ℕ) (generators coefficients : List ℤ) : Type 0 where
  pub bounded : Bounded n generators
  pub one_each : length coefficients ≡ length generators / n

-- the generators, and for each row one coefficient for each
pub record Certifiable (n : ℕ) (generators rows coefficients : List ℤ) : Type 0 where
  pub bounded : Bounded n generators
  pub one_each : length coefficients ≡ length rows / n * (length generators / n)

-- the generators and the exchanges of a bare order, and for each image one coefficient for each generator
pub record Showable (n : ℕ) (generators : List ℤ) (exchanges : List ℕ) (images : List ℤ) : Type 0 where
  pub bounded : Bounded n generators
  pub few : length generators / n ≤ bare_limit
  pub exchanges_few : length exchanges / n ≤ exchange_limit
  pub one_each : length images ≡ length exchanges / n * (length generators / n) * (length generators / n)
