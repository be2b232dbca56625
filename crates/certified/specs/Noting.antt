-- The completion with the coefficients of its stored rows, on lent areas (Specification 3.1 to 3.4 and 3.7). With an
-- empty basis it is the completion, and there are no coefficients. Assumes nothing.
use Rattle.definitions.specs.Refusals.{Outcome, accepted}
use Rattle.std.specs.declared.result.Result.TheVariants.{Err}
use Rattle.std.specs.Prelude.{◌≡◌, Bool, true, List, [], ◌∷◌, ◌++◌, ℕ, ◌+◌, ◌*◌, ◌/◌, ◌≤◌, ℤ, length, get_or}
use Rattle.definitions.specs.Limits.{cells, stored_coefficient_limit}
use Rattle.definitions.specs.Lists.{until}
use Rattle.definitions.specs.Vector.{Vector, is_member, within}
use Rattle.definitions.specs.Group.{Exchange}
use Rattle.definitions.specs.Orbit.{orbit, representative}
use Rattle.definitions.specs.Completion.{running, stored_rows, sum_count}
use Rattle.definitions.specs.Certified.{Certified, CertifiedCompletion, certified_begun, certified_completed}
use Rattle.definitions.specs.Certified.{certified_row, certified_step, certified_sum, counted_as, is_over_certified}
use Rattle.definitions.specs.Certified.{new_coefficients}
use Rattle.definitions.specs.Lent.{chunks, vectors_of}
use Rattle.theory.proofs.Members.{Each}
use Rattle.theory.proofs.Bounds.{Within}
use Rattle.reduction.specs.declared.Shape.{Shape}
use Rattle.reduction.specs.Areas.{rows_at, sequences_in}
use Rattle.coefficients.specs.Carrying.{ClosedBasis}
use Rattle.completion.specs.declared.Sizes.{Sizes}
use Rattle.completion.specs.declared.State.{State}
use Rattle.completion.specs.Machine.{After, Summable, remainder_in, state_in}

-- the number of coefficients to a row
abbrev pub width_of : (n : ℕ) (basis : List ℤ) → ℕ
width_of n basis = length basis / n

-- the coefficients of the first k rows
abbrev pub noted_in : (n : ℕ) (basis : List ℤ) (k : ℕ) (coefficients : List ℤ) → List (List ℤ)
noted_in n basis k coefficients = chunks (width_of n basis) k coefficients

-- the basis is closed under the table, and there is room for the coefficients of k rows
pub record Notable (shape : Shape) (k : ℕ) (table : List ℕ) (basis coefficients : List ℤ) : Type 0 where
  pub closed : ClosedBasis shape table basis
  pub room : k * width_of shape.n basis ≤ length coefficients

-- those of k rows are noted, none past its limit
abbrev pub Limited : (n : ℕ) (basis : List ℤ) (k : ℕ) (coefficients : List ℤ) → Type 0
Limited n basis k coefficients = Each (Within stored_coefficient_limit) (noted_in n basis k coefficients)

-- the coefficients of the sum at s
abbrev pub sum_coefficients_in : Shape → (table : List ℕ) (basis coefficients : List ℤ) → State → List ℤ
sum_coefficients_in shape table basis coefficients s =
    (certified_sum (vectors_of shape.n basis) (sequences_in shape table) (state_in shape.n [] s)
    (noted_in shape.n basis s.stored coefficients)).coefficients

-- those of the row that is stored for it
abbrev pub new_in : Shape → (table : List ℕ) (list basis coefficients : List ℤ) → State → List ℤ
new_in shape table list basis coefficients s =
    new_coefficients (vectors_of shape.n basis) (sequences_in shape table) (state_in shape.n list s)
    (noted_in shape.n basis s.stored coefficients)

-- the row of the kind of each vector is an image of it
abbrev pub RowsMade : (table : List Exchange) → Type 0
RowsMade table = (v : Vector) → length v ≡ cells → is_member (representative table v) (orbit table v) ≡ true

-- a row was stored for the sum at s: it stands behind the others
pub record RowStored (shape : Shape) (table : List ℕ) (list : List ℤ) (marks keys : List ℕ) (s : State) : Type 0 where
  pub summable : Summable shape table list marks keys s
  pub room : s.stored * shape.n + shape.n ≤ length list
  pub row : get_or (rows_at shape.n (s.stored + 1) list) s.stored []
      ≡ representative (sequences_in shape table) (remainder_in shape table list s)
  pub made : RowsMade (sequences_in shape table)

-- .. and r says whether its coefficients, which are noted behind the others, are within their limit
pub record RowNoted (shape : Shape) (table : List ℕ) (list basis : List ℤ) (s : State)
    (coefficients coefficients' : List ℤ) (r : Bool) : Type 0 where
  pub told : r ≡ within stored_coefficient_limit (new_in shape table list basis coefficients s)
  pub rows : noted_in shape.n basis (s.stored + 1) coefficients'
      ≡ noted_in shape.n basis s.stored coefficients ++ new_in shape table list basis coefficients s ∷ []

-- row r is the row of the kind of generator p
abbrev pub IsRowOf : Shape → (table : List ℕ) (list basis : List ℤ) (p r : ℕ) → Type 0
IsRowOf shape table list basis p r =
    representative (sequences_in shape table) (get_or (vectors_of shape.n basis) p [])
    ≡ get_or (rows_at shape.n (r + 1) list) r []

-- the coefficients that generator p gives its row
abbrev pub coefficients_by : Shape → (table : List ℕ) (basis : List ℤ) (p : ℕ) → List ℤ
coefficients_by shape table basis p =
    let generators = vectors_of shape.n basis in
    let v = get_or generators p [] in
    let x : Certified = record { vector = v; coefficients = counted_as generators v } in
    (certified_row generators (sequences_in shape table) x).coefficients

-- .. are noted behind those of r rows where row r is its row; k rows are noted then
pub record GeneratorNoted (shape : Shape) (table : List ℕ) (list basis : List ℤ) (p r : ℕ)
    (coefficients coefficients' : List ℤ) (k : ℕ) : Type 0 where
  pub other : ¬ (IsRowOf shape table list basis p r) → (k ≡ r) × (coefficients' ≡ coefficients)
  pub own : IsRowOf shape table list basis p r → (k ≡ r + 1)
      × (noted_in shape.n basis (r + 1) coefficients'
      ≡ noted_in shape.n basis r coefficients ++ coefficients_by shape table basis p ∷ [])

-- the rows of the generators, as step 1 stores them
pub record FirstStored (shape : Shape) (table : List ℕ) (list basis : List ℤ) (stored : ℕ) : Type 0 where
  pub room : stored * shape.n ≤ length list
  pub rows : rows_at shape.n stored list ≡ stored_rows (sequences_in shape table) [] (vectors_of shape.n basis)
  pub made : RowsMade (sequences_in shape table)

-- .. and their coefficients
abbrev pub first_coefficients : Shape → (limit : ℕ) (table : List ℕ) (basis : List ℤ) → List (List ℤ)
first_coefficients shape limit table basis =
    let generators = vectors_of shape.n basis in
    (certified_begun generators (sequences_in shape table) limit generators).coefficients

-- ---- the machine

-- a completion under way, with the coefficients of its rows
abbrev pub standing_in : Shape → (list basis coefficients : List ℤ) → State → CertifiedCompletion
standing_in shape list basis coefficients s = record {
  completion = running (state_in shape.n list s);
  coefficients = noted_in shape.n basis s.stored coefficients;
}

-- one sum
abbrev pub advanced_in : Sizes → (table : List ℕ) (list basis coefficients : List ℤ) → State → CertifiedCompletion
advanced_in sizes table list basis coefficients s =
    let generators = vectors_of sizes.shape.n basis in
    certified_step generators (sequences_in sizes.shape table) sizes.limit
    (standing_in sizes.shape list basis coefficients s)

-- all sums
abbrev pub ran_in : Sizes → (table : List ℕ) (list basis coefficients : List ℤ) → State → CertifiedCompletion
ran_in sizes table list basis coefficients s =
    let generators = vectors_of sizes.shape.n basis in
    let sequences = sequences_in sizes.shape table in
    until is_over_certified (certified_step generators sequences sizes.limit)
    (sum_count (length sequences) sizes.limit)
    (standing_in sizes.shape list basis coefficients s)

-- steps 1 to 4
abbrev pub completed_in : Sizes → (table : List ℕ) (generators basis : List ℤ) → CertifiedCompletion
completed_in sizes table generators basis =
    let n = sizes.shape.n in
    certified_completed (vectors_of n basis) (sequences_in sizes.shape table) sizes.limit (vectors_of n generators)

-- the coefficients of a completion that came to r
pub record NotedRows (n : ℕ) (basis : List ℤ) (k : ℕ) (coefficients : List ℤ) (due : List (List ℤ)) : Type 0 where
  pub rows : noted_in n basis k coefficients ≡ due
  pub limited : Limited n basis k coefficients

abbrev pub NotedBy : (n : ℕ) (basis coefficients : List ℤ) (due : List (List ℤ)) → Outcome State → Type 0
NotedBy n basis coefficients due (accepted s) = NotedRows n basis s.stored coefficients due
NotedBy n basis coefficients due (Err r) = Unit {0}

-- the areas after a completion came to r, which is x of the definition
pub record CertifiedTo (shape : Shape) (table : List ℕ) (list : List ℤ) (marks keys : List ℕ)
    (basis coefficients : List ℤ) (x : CertifiedCompletion) (r : Outcome State) : Type 0 where
  pub after : After shape table list marks keys x.completion r
  pub noted : NotedBy shape.n basis coefficients x.coefficients r
