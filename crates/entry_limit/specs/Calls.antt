-- The lent calls with the entry limit as a parameter: of Completion, Refusals and Calls each definition that rests on
-- it, with `entries` in the place of `entry_limit`. With `entry_limit` they are those definitions. Assumes nothing.
use Rattle.definitions.specs.Refusals.{accepted}
use Rattle.std.specs.declared.result.Result.TheVariants.{Err}
use Rattle.definitions.specs.Refusals.{Fault}
use Rattle.std.specs.Prelude.{Bool, false, ◌||◌, not, List, [], ◌∷◌, ◌++◌, ℕ, ◌+◌, ◌/◌, leb, eqb, ℤ, pos, length, get_or, if◌then◌else◌}
use Rattle.definitions.specs.declared.Answer.{Answer}
use Rattle.definitions.specs.declared.Answer.TheVariants.{Moves, Split, Passed}
use Rattle.definitions.specs.Limits.{coefficient_limit}
use Rattle.definitions.specs.Lists.{until}
use Rattle.definitions.specs.Vector.{Vector, within, is_zero, equal}
use Rattle.definitions.specs.Group.{Exchange, is_exchange}
use Rattle.definitions.specs.Orbit.{representative}
use Rattle.definitions.specs.Completion.{State, Completion, running, stopped, begun, sum_at, next, is_finished}
use Rattle.definitions.specs.Completion.{remainder, is_over, sum_count}
use Rattle.definitions.specs.Lent.{Order, chunks, exchanges_of, generators_of, list_rows, table_of, vectors_of, whole_rows}
use Rattle.definitions.specs.Refusals.{Outcome, fault_where, first_fault, unless_fault, cells_fault, size_fault}
use Rattle.definitions.specs.Refusals.{split_size_fault, brought_fits, is_past, symmetry_fault, is_misplaced, is_uncertified}
use Rattle.definitions.specs.Refusals.{wholeness_fault}
use Rattle.definitions.specs.Calls.{Listing, ListEnd, Parts, SplitEnd, CheckEnd, listing_of, list_end, parts_of, split_end}
use Rattle.definitions.specs.Calls.{check_end}

-- the numbers of the refusals that the entry limit has a part in
unfoldable pub is_of_entries : (number : ℕ) → Bool
is_of_entries number = eqb number 7 || eqb number 12 || eqb number 17

-- the answer is one of them
unfoldable pub is_refused_by_entries : Outcome Answer → Bool
is_refused_by_entries (Err r) = is_of_entries r.number
is_refused_by_entries (accepted (Moves rows members stored sums)) = false
is_refused_by_entries (accepted (Split pieces rows members stored sums)) = false
is_refused_by_entries (accepted (Passed rows sums)) = false

module _ (entries : ℕ) where
  -- ---- the completion

  unfoldable pub settled_within : (table : List Exchange) (limit : ℕ) → State → Vector → Completion
  settled_within table limit s v =
      if is_zero v then running (next (length table) s.rows s)
      else if not (within entries v) then stopped 12 (s.sums + 1)
      else if leb limit (length s.rows) then stopped 13 (s.sums + 1)
      else running (next (length table) (s.rows ++ representative table v ∷ []) s)

  unfoldable pub step_within : (table : List Exchange) (limit : ℕ) → Completion → Completion
  step_within table limit (stopped number place) = stopped number place
  step_within table limit (running s) =
      if is_finished s then running s
      else settled_within table limit s (remainder table s.rows (sum_at table s))

  unfoldable pub run_within : (table : List Exchange) (limit fuel : ℕ) → Completion → Completion
  run_within table limit fuel c = until is_over (step_within table limit) fuel c

  unfoldable pub completed_within : (table : List Exchange) (limit : ℕ) (generators : List Vector) → Completion
  completed_within table limit generators =
      run_within table limit (sum_count (length table) limit) (begun table limit generators)

  -- ---- refusals

  unfoldable pub numbers_fault_within : Order → Fault
  numbers_fault_within order =
      let generators = generators_of order in
      let sent = exchanges_of order in
      first_fault
      (fault_where 7 (length order.generators) (λ p. is_past entries (get_or order.generators p (pos 0)))
      ∷ fault_where 8 (length generators) (λ p. is_zero (get_or generators p []))
      ∷ fault_where 9 (length sent) (λ p. not (is_exchange order.n (get_or sent p [])))
      ∷ [])

  unfoldable pub order_fault_within : Order → (group_size : ℕ) → Fault
  order_fault_within order group_size = first_fault (numbers_fault_within order ∷ symmetry_fault order group_size ∷ [])

  unfoldable pub admission_fault_within : Order → (group_size : ℕ) (fits : Bool) → Fault
  admission_fault_within order group_size fits =
      first_fault (cells_fault order.n ∷ size_fault order group_size fits ∷ order_fault_within order group_size ∷ [])

  unfoldable pub is_unfit_within : (table : List Exchange) → Vector → Bool
  is_unfit_within table row = is_zero row || not (within entries row) || not (equal row (representative table row))

  unfoldable pub rows_fault_within : (table : List Exchange) (generators rows : List Vector) (coefficients : List ℤ)
      → Fault
  rows_fault_within table generators rows coefficients =
      let certificates = chunks (length generators) (length rows) coefficients in
      first_fault
      (fault_where 17 (length rows) (λ r. is_unfit_within table (get_or rows r []))
      ∷ fault_where 18 (length rows) (is_misplaced rows)
      ∷ fault_where 19 (length rows)
      (λ r. is_uncertified coefficient_limit generators (get_or certificates r []) (get_or rows r []))
      ∷ [])

  -- ---- List

  unfoldable pub listing_within : Order → (list_size group_size : ℕ) → Outcome Listing
  listing_within order list_size group_size =
      let table = table_of order group_size in
      unless_fault (admission_fault_within order group_size (whole_rows order.n list_size))
      (listing_of table (completed_within table (list_rows order.n list_size) (generators_of order)))

  unfoldable pub list_call_within : Order → (list_size group_size : ℕ) → ListEnd
  list_call_within order list_size group_size =
      list_end order.n list_size group_size (listing_within order list_size group_size)

  -- ---- Split

  unfoldable pub parts_within : Order → (vector : List ℤ) (list_size group_size pieces_size : ℕ) → Outcome Parts
  parts_within order vector list_size group_size pieces_size =
      unless_fault (first_fault (cells_fault order.n ∷ split_size_fault order.n vector pieces_size ∷ []))
      (parts_of vector pieces_size (listing_within order list_size group_size))

  unfoldable pub split_call_within : Order → (vector : List ℤ) (list_size group_size pieces_size : ℕ) → SplitEnd
  split_call_within order vector list_size group_size pieces_size =
      split_end order.n list_size group_size pieces_size (parts_within order vector list_size group_size pieces_size)

  -- ---- Check

  unfoldable pub rules_fault_within : Order → (rows coefficients : List ℤ) (group_size : ℕ) → Fault
  rules_fault_within order rows coefficients group_size =
      first_fault
      (admission_fault_within order group_size (brought_fits order rows coefficients)
      ∷ rows_fault_within (table_of order group_size) (generators_of order) (vectors_of order.n rows) coefficients
      ∷ [])

  unfoldable pub check_fault_within : Order → (rows coefficients : List ℤ) (group_size : ℕ) → Fault
  check_fault_within order rows coefficients group_size =
      first_fault
      (rules_fault_within order rows coefficients group_size
      ∷ wholeness_fault (table_of order group_size) (generators_of order) (vectors_of order.n rows)
      ∷ [])

  unfoldable pub check_call_within : Order → (rows coefficients : List ℤ) (group_size : ℕ) → CheckEnd
  check_call_within order rows coefficients group_size =
      check_end group_size (length rows / order.n) (table_of order group_size)
      (check_fault_within order rows coefficients group_size)
