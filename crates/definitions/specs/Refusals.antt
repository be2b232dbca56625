-- Specification 7: the table of refusals, for lent calls. 12 and 13 are in Completion, 24 in Certified. Assumes
-- nothing.
use Rattle.std.specs.declared.result.Result.{Result}
use Rattle.std.specs.declared.result.Result.TheVariants.{Ok, Err}
use Rattle.definitions.specs.declared.Refusal.{Refusal}
use Rattle.std.specs.Prelude.{⊤, Bool, false, ◌&&◌, ◌||◌, not, List, [], ◌∷◌, ◌++◌, map, ℕ, zero, suc, ◌+◌, ◌*◌, ◌/◌, ℤ, pos, nat_abs, leb, eqb, length, get_or, if◌then◌else◌}
use Rattle.definitions.specs.Limits.{cells, entry_limit, split_limit, coefficient_limit}
use Rattle.definitions.specs.Limits.{list_limit, generator_limit, exchange_limit, bare_limit, image_limit, piece_width}
use Rattle.definitions.specs.Lists.{any}
use Rattle.definitions.specs.Vector.{Vector, negative, within, is_zero, equal, is_member}
use Rattle.definitions.specs.Lattice.{combination}
use Rattle.definitions.specs.Group.{Exchange, is_exchange, exchanged}
use Rattle.definitions.specs.Orbit.{representative, precedes}
use Rattle.definitions.specs.Completion.{State, first_state, sum_at, next, is_finished, sum_count}
use Rattle.definitions.specs.Completion.{remainder, has_other_below}
use Rattle.definitions.specs.Split.{Splitting}
use Rattle.definitions.specs.Lent.{Order, is_bare, generators_of, exchanges_of, group_rows, table_of}
use Rattle.definitions.specs.Lent.{whole_rows, whole_rows_up_to, chunks}

-- ---- 7.1: how tests are run

-- what a call finds, or the number and the place of its refusal
abbrev pub Outcome : (A : Type 0) → Type 0
Outcome A = Result A Refusal

-- what was found
pattern abbrev pub accepted : {A : Type 0} → A → Outcome A
accepted found = Ok found

-- a refusal
abbrev pub refused : {A : Type 0} → (number place : ℕ) → Outcome A
refused number place = Err (record { number = number; place = place })

-- what a test finds: nothing, or a refusal
abbrev pub Fault : Type 0
Fault = Outcome ⊤

-- the test is not met
pattern abbrev pub no_fault : Fault
no_fault = Ok tt

-- it is met at a place
abbrev pub fault_at : (number place : ℕ) → Fault
fault_at number place = refused number place

-- the first test that is met
unfoldable pub first_fault : List Fault → Fault
first_fault [] = no_fault
first_fault (no_fault ∷ faults) = first_fault faults
first_fault (Err r ∷ faults) = Err r

-- a test whose place is 0
unfoldable pub fault_if : (number : ℕ) (met : Bool) → Fault
fault_if number met = if met then fault_at number 0 else no_fault

-- the first place where the test is met, of `count` from `place` on
unfoldable pub fault_from : (number place count : ℕ) (met : ℕ → Bool) → Fault
fault_from number place zero met = no_fault
fault_from number place (suc count) met =
    let rest = fault_from number (suc place) count met in
    if met place then fault_at number place else rest

-- .. of `count` from 0 on
unfoldable pub fault_where : (number count : ℕ) (met : ℕ → Bool) → Fault
fault_where number count met = fault_from number 0 count met

-- the outcome, unless a test was met before it
unfoldable pub unless_fault : {A : Type 0} → Fault → Outcome A → Outcome A
unless_fault no_fault outcome = outcome
unless_fault (Err r) outcome = refused r.number r.place

-- ---- 7.3, size: 5 and 6

unfoldable pub cells_fault : (n : ℕ) → Fault
cells_fault n = fault_if 5 (not (leb 1 n && leb n cells))

-- the order is not bare; or it has few generators, and m coefficients for each exchange and generator
unfoldable pub images_fit : Order → Bool
images_fit order =
    let m = length order.generators / order.n in
    let e = length order.exchanges / order.n in
    not (is_bare order) || (leb m bare_limit && eqb (length order.images) (e * m * m))

-- the generators and the exchanges are whole rows, not too many, and the images fit to them
unfoldable pub order_fits : Order → Bool
order_fits order =
    whole_rows_up_to generator_limit order.n (length order.generators)
    && whole_rows_up_to exchange_limit order.n (length order.exchanges)
    && images_fit order

-- also the group area, and what else a call lends
unfoldable pub size_fault : Order → (group_size : ℕ) (fits : Bool) → Fault
size_fault order group_size fits = fault_if 6 (not (order_fits order && whole_rows order.n group_size && fits))

-- what a Split adds: the vector has exactly n numbers, the pieces area whole rows
unfoldable pub split_size_fault : (n : ℕ) (vector : List ℤ) (pieces_size : ℕ) → Fault
split_size_fault n vector pieces_size = fault_if 6 (not (eqb (length vector) n && whole_rows piece_width pieces_size))

-- what else a Check lends: the brought rows are whole and not too many, with one coefficient for each row and generator
unfoldable pub brought_fits : Order → (rows coefficients : List ℤ) → Bool
brought_fits order rows coefficients =
    whole_rows_up_to list_limit order.n (length rows)
    && eqb (length coefficients) (length rows / order.n * (length order.generators / order.n))

-- what else a List with coefficients lends: whole list rows, with m coefficients for each; and the order is not bare
unfoldable pub certified_fits : Order → (list_size coefficient_size : ℕ) → Bool
certified_fits order list_size coefficient_size =
    whole_rows order.n list_size
    && eqb coefficient_size (list_size / order.n * (length order.generators / order.n))
    && not (is_bare order)

-- ---- 7.2, generators and exchanges: 7 to 11; where numbers up to 11 are named, 23 is meant for 11 of a bare order

unfoldable pub is_past : (limit : ℕ) → ℤ → Bool
is_past limit x = not (leb (nat_abs x) limit)

-- v is a generator or the negative of one
unfoldable pub is_generator : (generators : List Vector) → Vector → Bool
is_generator generators v = is_member v generators || is_member (negative v) generators

-- some sent exchange takes v to no generator nor a negative of one
unfoldable pub leaves_generators : (generators : List Vector) (sent : List Exchange) → Vector → Bool
leaves_generators generators sent v = any (λ s. not (is_generator generators (exchanged s v))) sent

-- 19 and 23: a coefficient is past the limit, or the combination is not the vector
unfoldable pub is_uncertified : (limit : ℕ) (generators : List Vector) (coefficients : List ℤ) → Vector → Bool
is_uncertified limit generators coefficients v =
    any (is_past limit) coefficients || not (equal (combination coefficients generators) v)

-- 11: some sent exchange takes a generator to no generator nor a negative of one
unfoldable pub leaving_fault : (generators : List Vector) (sent : List Exchange) → Fault
leaving_fault generators sent =
    fault_where 11 (length generators) (λ p. leaves_generators generators sent (get_or generators p []))

-- the images of the generators by the sent exchanges, exchange by exchange
unfoldable pub sent_images : (generators : List Vector) (sent : List Exchange) → List Vector
sent_images generators [] = []
sent_images generators (s ∷ sent) = map (exchanged s) generators ++ sent_images generators sent

-- 23: such an image is not the combination of the generators with its coefficients, or one of these is past the limit
unfoldable pub images_fault : (generators : List Vector) (sent : List Exchange) (coefficients : List ℤ) → Fault
images_fault generators sent coefficients =
    let images = sent_images generators sent in
    let certificates = chunks (length generators) (length images) coefficients in
    fault_where 23 (length images)
    (λ p. is_uncertified image_limit generators (get_or certificates p []) (get_or images p []))

-- 23 of a bare order, 11 of any other
unfoldable pub lattice_fault : Order → Fault
lattice_fault order =
    let shown = images_fault (generators_of order) (exchanges_of order) order.images in
    let closed = leaving_fault (generators_of order) (exchanges_of order) in
    if is_bare order then shown else closed

-- 7 to 9: the numbers that are sent
unfoldable pub numbers_fault : Order → Fault
numbers_fault order =
    let generators = generators_of order in
    let sent = exchanges_of order in
    first_fault
    (fault_where 7 (length order.generators) (λ p. is_past entry_limit (get_or order.generators p (pos 0)))
    ∷ fault_where 8 (length generators) (λ p. is_zero (get_or generators p []))
    ∷ fault_where 9 (length sent) (λ p. not (is_exchange order.n (get_or sent p [])))
    ∷ [])

-- 10, and 11 or 23: the group, and the lattice that it keeps
unfoldable pub symmetry_fault : Order → (group_size : ℕ) → Fault
symmetry_fault order group_size =
    first_fault
    (fault_if 10 (not (leb (length (table_of order group_size)) (group_rows order.n group_size)))
    ∷ lattice_fault order
    ∷ [])

-- 7 to 11
unfoldable pub order_fault : Order → (group_size : ℕ) → Fault
order_fault order group_size = first_fault (numbers_fault order ∷ symmetry_fault order group_size ∷ [])

-- 5 to 11: the tests with which every call begins; `fits` says whether what else it lends has the right size
unfoldable pub admission_fault : Order → (group_size : ℕ) (fits : Bool) → Fault
admission_fault order group_size fits =
    first_fault (cells_fault order.n ∷ size_fault order group_size fits ∷ order_fault order group_size ∷ [])

-- ---- 7.2, split: 14 to 16

unfoldable pub split_fault : (vector : List ℤ) (pieces_size : ℕ) → Splitting → Fault
split_fault vector pieces_size taken =
    first_fault
    (fault_where 14 (length vector) (λ p. is_past split_limit (get_or vector p (pos 0)))
    ∷ fault_if 15 (not (is_zero taken.rest))
    ∷ fault_if 16 (not (leb (length taken.pieces) (pieces_size / piece_width)))
    ∷ [])

-- ---- 7.2, check: 17 to 22

-- 17: the row is zero, has an entry past the limit, or is not the row of its kind
unfoldable pub is_unfit : (table : List Exchange) → Vector → Bool
is_unfit table row = is_zero row || not (within entry_limit row) || not (equal row (representative table row))

-- 18: row r does not come after the row before it
unfoldable pub is_misplaced : (rows : List Vector) (r : ℕ) → Bool
is_misplaced rows zero = false
is_misplaced rows (suc r) = not (precedes (get_or rows r []) (get_or rows (suc r) []))

-- 17 to 19
unfoldable pub rows_fault : (table : List Exchange) (generators rows : List Vector) (coefficients : List ℤ) → Fault
rows_fault table generators rows coefficients =
    let certificates = chunks (length generators) (length rows) coefficients in
    first_fault
    (fault_where 17 (length rows) (λ r. is_unfit table (get_or rows r []))
    ∷ fault_where 18 (length rows) (is_misplaced rows)
    ∷ fault_where 19 (length rows)
    (λ r. is_uncertified coefficient_limit generators (get_or certificates r []) (get_or rows r []))
    ∷ [])

-- 21: the sums of step 2 over the brought rows, from the state on, up to `fuel` of them
unfoldable pub sums_fault : (table : List Exchange) (fuel : ℕ) → State → Fault
sums_fault table zero s = no_fault
sums_fault table (suc fuel) s =
    let rest = sums_fault table fuel (next (length table) s.rows s) in
    if is_finished s then no_fault
    else if is_zero (remainder table s.rows (sum_at table s)) then rest
    else fault_at 21 (s.sums + 1)

-- 20 to 22
unfoldable pub wholeness_fault : (table : List Exchange) (generators rows : List Vector) → Fault
wholeness_fault table generators rows =
    first_fault
    (fault_where 20 (length generators) (λ p. not (is_zero (remainder table rows (get_or generators p []))))
    ∷ sums_fault table (sum_count (length table) (length rows)) (first_state rows)
    ∷ fault_where 22 (length rows) (has_other_below table rows)
    ∷ [])
