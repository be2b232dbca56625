-- Under a lower entry limit a test, a completion or an outcome is a refusal by that limit, or it is what it is under a
-- higher one. Assumes nothing.
use Rattle.std.specs.declared.result.Result.TheVariants.{Err}
use Rattle.definitions.specs.Refusals.{Fault, no_fault}
use mathlib.Core.Path.{◌≡◌, refl, sym, ap, subst, ◌∙◌}
use mathlib.Core.Logic.{◌⊎◌, inl, inr}
use mathlib.Core.Bool.{Bool, true, false, cond, not, ◌||◌}
use mathlib.Core.List.{List, [], ◌∷◌, ◌++◌}
use Prim.Native.Nat.{ℕ, zero, suc, ◌+◌, ◌≤◌}
use native.Mathlib.Omega.{arith}
use borrow.Author.Tests.{le-leb, not-false}
use lib.Dec.{leb}
use lib.IntN.{ℤ, nat_abs, pos}
use lib.ListN.{get_or, length}
use Rattle.definitions.specs.Lists.{until}
use Rattle.definitions.specs.Vector.{Vector, equal, is_zero, within}
use Rattle.definitions.specs.Group.{Exchange}
use Rattle.definitions.specs.Orbit.{representative}
use Rattle.definitions.specs.Completion.{Completion, State, running, stopped, is_finished, is_over, next}
use Rattle.definitions.specs.Completion.{remainder, sum_at}
use Rattle.definitions.specs.Lent.{Order, list_rows, table_of, vectors_of, whole_rows}
use Rattle.definitions.specs.Refusals.{Outcome, accepted, refused, brought_fits, fault_where, first_fault, is_past}
use Rattle.definitions.specs.Refusals.{unless_fault}
use Rattle.definitions.specs.Calls.{Listing, listing_of, parts_of}
use Rattle.theory.proofs.Tests.{or-false-left, or-false-right}
use Rattle.theory.proofs.Bounds.{each_within, within-each, within_more}
use Rattle.theory.proofs.Accepted.{past-none}
use Rattle.theory.proofs.Faults.{where-at, where-none}
use Rattle.entry_limit.specs.Calls.{admission_fault_within, check_fault_within, completed_within, is_of_entries}
use Rattle.entry_limit.specs.Calls.{is_unfit_within, listing_within, numbers_fault_within, order_fault_within}
use Rattle.entry_limit.specs.Calls.{parts_within, rows_fault_within, rules_fault_within, run_within, settled_within}
use Rattle.entry_limit.specs.Calls.{step_within}

-- ---- refusals by the entry limit
abbrev pub FaultBy : Fault → Type 0
FaultBy no_fault = ⊥
FaultBy (Err r) = is_of_entries r.number ≡ true

abbrev CompletionBy : Completion → Type 0
CompletionBy (stopped number place) = is_of_entries number ≡ true
CompletionBy (running s) = ⊥

abbrev pub OutcomeBy : {A : Type 0} → Outcome A → Type 0
OutcomeBy (Err r) = is_of_entries r.number ≡ true
OutcomeBy (accepted found) = ⊥

-- x is a refusal by the entry limit, or y is the same
abbrev pub Kept : {A : Type 0} → (By : A → Type 0) (x y : A) → Type 0
Kept By x y = By x ⊎ (x ≡ y)

-- it is kept by what comes next: refusals stay what they are, and from one x both ways are kept
module _ {A B : Type 0} (By : A → Type 0) (After : B → Type 0) (low high : A → B) where
  kept_next : ((x : A) → By x → After (low x)) → ((x : A) → Kept After (low x) (high x)) → {x y : A} → Kept By x y
      → Kept After (low x) (high y)
  kept_next met same {x} (inl by) = inl (met x by)
  kept_next met same {x} (inr e) = subst (λ (z : A). Kept After (low x) (high z)) e (same x)

-- whichever way a test goes
kept_if : {A : Type 0} (By : A → Type 0) (b : Bool) (same : A) {x y : A} → Kept By x y
    → Kept By (cond b same x) (cond b same y)
kept_if By true same k = inr refl
kept_if By false same k = k

-- ---- tests
first-kept : {f g : Fault} (fs gs : List Fault) → Kept FaultBy f g → Kept FaultBy (first_fault fs) (first_fault gs)
    → Kept FaultBy (first_fault (f ∷ fs)) (first_fault (g ∷ gs))
unfolding first_fault
first-kept fs gs k rest =
    kept_next FaultBy FaultBy (λ (f : Fault). first_fault (f ∷ fs)) (λ (f : Fault). first_fault (f ∷ gs)) met same k
  where
    met : (f : Fault) → FaultBy f → FaultBy (first_fault (f ∷ fs))
    met (Err r) by = by
    met no_fault by = absurd by

    same : (f : Fault) → Kept FaultBy (first_fault (f ∷ fs)) (first_fault (f ∷ gs))
    same no_fault = rest
    same (Err r) = inr refl

-- the tests before are the same
later-kept : (f : Fault) (fs gs : List Fault) → Kept FaultBy (first_fault fs) (first_fault gs)
    → Kept FaultBy (first_fault (f ∷ fs)) (first_fault (f ∷ gs))
later-kept f fs gs = first-kept fs gs (inr refl)

-- a test by the entry limit that is met wherever it is met under the higher one
where-kept : (number count : ℕ) (met higher : ℕ → Bool) → is_of_entries number ≡ true
    → ((p : ℕ) → met p ≡ false → higher p ≡ false)
    → Kept FaultBy (fault_where number count met) (fault_where number count higher)
where-kept number count met higher by fewer = go (fault_where number count met) refl
  where
    go : (f : Fault) → fault_where number count met ≡ f
        → Kept FaultBy (fault_where number count met) (fault_where number count higher)
    go (Err r) e = inl (subst FaultBy (sym e) (ap is_of_entries (where-at number count met r.number r.place e) ∙ by))
    go no_fault e =
        inr (e ∙ sym ((where-none number count higher).1 (λ p l. fewer p ((where-none number count met).0 e p l))))

-- an outcome after tests
unless-kept : {A : Type 0} {f g : Fault} {x y : Outcome A} → Kept FaultBy f g → Kept OutcomeBy x y
    → Kept OutcomeBy (unless_fault f x) (unless_fault g y)
unfolding unless_fault
unless-kept {A} {x = x} {y} k rest =
    kept_next FaultBy OutcomeBy (λ (f : Fault). unless_fault f x) (λ (f : Fault). unless_fault f y) met same k
  where
    met : (f : Fault) → FaultBy f → OutcomeBy (unless_fault f x)
    met (Err r) by = by
    met no_fault by = absurd by

    same : (f : Fault) → Kept OutcomeBy (unless_fault f x) (unless_fault f y)
    same no_fault = rest
    same (Err r) = inr refl

-- ---- the calls, under a lower and a higher entry limit
module _ {low high : ℕ} (h : low ≤ high) where
  within-high : (v : Vector) → within low v ≡ true → within high v ≡ true
  within-high v e = each_within high (within_more h (within-each low v e))

  past-high : (x : ℤ) → is_past low x ≡ false → is_past high x ≡ false
  unfolding is_past
  past-high x e = let l = past-none low x e in ap not (le-leb (nat_abs x) high (omega arith))

  -- 7 to 9
  numbers-kept : (order : Order) → Kept FaultBy (numbers_fault_within low order) (numbers_fault_within high order)
  unfolding numbers_fault_within is_of_entries
  numbers-kept order =
      first-kept _ _ (where-kept 7 _ _ _ refl (λ p. past-high (get_or order.generators p (pos 0)))) (inr refl)

  -- 5 to 11
  admission-kept : (order : Order) (group_size : ℕ) (fits : Bool)
      → Kept FaultBy (admission_fault_within low order group_size fits) (admission_fault_within high order group_size fits)
  unfolding admission_fault_within order_fault_within
  admission-kept order group_size fits =
      later-kept _ _ _
      (later-kept _ _ _ (first-kept _ _ (first-kept _ _ (numbers-kept order) (inr refl)) (inr refl)))

  -- ---- the completion: 12

  settled-kept : (table : List Exchange) (limit : ℕ) (s : State) (v : Vector)
      → Kept CompletionBy (settled_within low table limit s v) (settled_within high table limit s v)
  unfolding settled_within is_of_entries
  settled-kept table limit s v =
      kept_if CompletionBy (is_zero v) _ (go (within low v) (within high v) (within-high v))
    where
      stored : Completion
      stored =
          cond (leb limit (length s.rows)) (stopped 13 (s.sums + 1))
          (running (next (length table) (s.rows ++ representative table v ∷ []) s))

      by : (fits : Bool) → Completion
      by fits = cond (not fits) (stopped 12 (s.sums + 1)) stored

      go : (fits higher : Bool) → (fits ≡ true → higher ≡ true) → Kept CompletionBy (by fits) (by higher)
      go true higher more = inr (ap by (sym (more refl)))
      go false higher more = inl refl

  step_kept : (table : List Exchange) (limit : ℕ) {c d : Completion} → Kept CompletionBy c d
      → Kept CompletionBy (step_within low table limit c) (step_within high table limit d)
  unfolding step_within
  step_kept table limit =
      kept_next CompletionBy CompletionBy (step_within low table limit) (step_within high table limit) met same
    where
      met : (c : Completion) → CompletionBy c → CompletionBy (step_within low table limit c)
      met (stopped number place) by = by
      met (running s) by = absurd by

      same : (c : Completion) → Kept CompletionBy (step_within low table limit c) (step_within high table limit c)
      same (stopped number place) = inr refl
      same (running s) =
          kept_if CompletionBy (is_finished s) (running s)
          (settled-kept table limit s (remainder table s.rows (sum_at table s)))

  run-kept : (table : List Exchange) (limit fuel : ℕ) {c d : Completion} → Kept CompletionBy c d
      → Kept CompletionBy (run_within low table limit fuel c) (run_within high table limit fuel d)
  unfolding run_within until is_over
  run-kept table limit zero k = k
  run-kept table limit (suc fuel) k =
      kept_next CompletionBy CompletionBy (run_within low table limit (suc fuel)) (run_within high table limit (suc fuel))
      met (λ c. kept_if CompletionBy (is_over c) c (run-kept table limit fuel (step_kept table limit (inr refl)))) k
    where
      met : (c : Completion) → CompletionBy c → CompletionBy (run_within low table limit (suc fuel) c)
      met (stopped number place) by = by
      met (running s) by = absurd by

  -- ---- what the calls find

  ended-kept : (table : List Exchange) {c d : Completion} → Kept CompletionBy c d
      → Kept OutcomeBy (listing_of table c) (listing_of table d)
  unfolding listing_of
  ended-kept table = kept_next CompletionBy OutcomeBy (listing_of table) (listing_of table) met (λ c. inr refl)
    where
      met : (c : Completion) → CompletionBy c → OutcomeBy (listing_of table c)
      met (stopped number place) by = by
      met (running s) by = absurd by

  pub listing-kept : (order : Order) (list_size group_size : ℕ)
      → Kept OutcomeBy (listing_within low order list_size group_size) (listing_within high order list_size group_size)
  unfolding listing_within completed_within
  listing-kept order list_size group_size =
      unless-kept (admission-kept order group_size (whole_rows order.n list_size))
      (ended-kept table (run-kept table (list_rows order.n list_size) _ (inr refl)))
    where
      table : List Exchange
      table = table_of order group_size

  pub parts-kept : (order : Order) (vector : List ℤ) (list_size group_size pieces_size : ℕ)
      → Kept OutcomeBy (parts_within low order vector list_size group_size pieces_size)
      (parts_within high order vector list_size group_size pieces_size)
  unfolding parts_within parts_of
  parts-kept order vector list_size group_size pieces_size =
      unless-kept (inr refl)
      (kept_next OutcomeBy OutcomeBy (parts_of vector pieces_size) (parts_of vector pieces_size) met (λ x. inr refl)
      (listing-kept order list_size group_size))
    where
      met : (x : Outcome Listing) → OutcomeBy x → OutcomeBy (parts_of vector pieces_size x)
      met (Err r) by = by
      met (accepted found) by = absurd by

  -- ---- brought rows: 17

  unfit-high : (table : List Exchange) (row : Vector) → is_unfit_within low table row ≡ false
      → is_unfit_within high table row ≡ false
  unfolding is_unfit_within
  unfit-high table row e =
      ap (λ (fits : Bool). is_zero row || not fits || not (equal row (representative table row)))
      (within-high row low_fits ∙ sym low_fits)
      ∙ e
    where
      low_fits : within low row ≡ true
      low_fits =
          not-false (within low row)
          (or-false-right (is_zero row) (not (within low row))
          (or-false-left (is_zero row || not (within low row)) (not (equal row (representative table row))) e))

  brought-kept : (table : List Exchange) (rows : List Vector)
      → Kept FaultBy (fault_where 17 (length rows) (λ r. is_unfit_within low table (get_or rows r [])))
      (fault_where 17 (length rows) (λ r. is_unfit_within high table (get_or rows r [])))
  unfolding is_of_entries
  brought-kept table rows = where-kept 17 (length rows) _ _ refl (λ r. unfit-high table (get_or rows r []))

  pub check-kept : (order : Order) (rows coefficients : List ℤ) (group_size : ℕ)
      → Kept FaultBy (check_fault_within low order rows coefficients group_size)
      (check_fault_within high order rows coefficients group_size)
  unfolding check_fault_within rules_fault_within rows_fault_within
  check-kept order rows coefficients group_size =
      first-kept _ _
      (first-kept _ _ (admission-kept order group_size (brought_fits order rows coefficients))
      (first-kept _ _
      (first-kept _ _ (brought-kept (table_of order group_size) (vectors_of order.n rows)) (inr refl))
      (inr refl)))
      (inr refl)
