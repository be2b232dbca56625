-- AN ORDER'S END IS ITS OWN: but for the shared 5 and 6 and a differing exchange, once its last sum is tried, an order has
-- come to what a List on its own with 64 rows finds. Assumes nothing.
use Rattle.std.specs.declared.result.Result.TheVariants.{Err}
use Rattle.definitions.specs.Refusals.{Fault, no_fault, fault_at}
use mathlib.Core.Path.{◌≡◌, refl, sym, ◌∙◌, ap, subst}
use mathlib.Core.Bool.{Bool, true, false, cond}
use mathlib.Core.List.{List}
use Prim.Native.Nat.{ℕ, ◌+◌, ◌-◌, ◌/◌, ◌≤◌, ◌<◌}
use native.Mathlib.Nat.{mul-div_cancel_left, mul-mod_right}
use native.Mathlib.Omega.{arith}
use borrow.Author.Tests.{eq-eqb}
use lib.ListN.{length}
use Rattle.definitions.specs.Limits.{session_rows}
use Rattle.definitions.specs.Vector.{Vector}
use Rattle.definitions.specs.Group.{Exchange}
use Rattle.definitions.specs.Completion.{Completion, begun, completed, is_finished, is_over, running, stopped, sum_count}
use Rattle.definitions.specs.Lent.{Order, generators_of, list_rows, table_of, whole_rows}
use Rattle.definitions.specs.Refusals.{Outcome, admission_fault, refused, unless_fault}
use Rattle.definitions.specs.Calls.{Listing, listing, listing_of}
use Rattle.definitions.specs.Session.{Result, difference_fault, ended, half, own_fault, result_of, session_fault, shared_fault}
use Rattle.definitions.specs.Session.{started, unfinished, unless_met}
use Rattle.theory.proofs.Counting.{completed-over}
use Rattle.theory.proofs.Accepted.{admission-none, cells-none}
use Rattle.theory.proofs.Refused.{table-some}
use Rattle.theory.proofs.Steps.{steps, steps-complete, steps-over}
use Rattle.session_theory.proofs.Tests.{fault-early, fault-none, own-tests}
use Rattle.session_theory.proofs.Turns.{Fits, Tries, begun-fits, begun-tries, steps-fit, steps-past, steps-tries}

-- a half is whole rows, and 64 of them are in use
half-whole : (n : ℕ) → whole_rows n (half n) ≡ true
unfolding whole_rows half
half-whole n = eq-eqb _ 0 (mul-mod_right n session_rows)

half-rows : (n : ℕ) → 1 ≤ n → list_rows n (half n) ≡ session_rows
unfolding list_rows half
half-rows n h = let e : half n / n ≡ session_rows = mul-div_cancel_left session_rows h in omega (arith, e)

-- a completion that is over is ended
pub result-over : (table : List Exchange) (c : Completion) → is_over c ≡ true → result_of table c ≡ ended (listing_of table c)
unfolding result_of is_over listing_of
result-over table (stopped number place) e = refl
result-over table (running s) e =
    ap (λ (b : Bool). cond b (ended (listing_of table (running s))) (unfinished s.sums)) e

pub ended-unfinished : {X : Type 0} {o : Outcome Listing} {sums : ℕ} → ended o ≡ unfinished sums → X
ended-unfinished e = let z : ◌≡◌ {A = ℕ} 0 1 = cc in absurd (omega (arith, z))

-- what is unfinished has tried so many sums
left-sums : (table : List Exchange) (k : ℕ) (c : Completion) → Tries table session_rows k c → (sums : ℕ)
    → result_of table c ≡ unfinished sums → sums ≡ k
unfolding result_of
left-sums table k (stopped number place) h sums e = ended-unfinished e
left-sums table k (running s) h sums e = go (is_finished s) refl e
  where
    go : (b : Bool) → is_finished s ≡ b
        → cond b (ended (listing_of table (running s))) (unfinished s.sums) ≡ unfinished sums → sums ≡ k
    go true p q = ended-unfinished q
    go false p q = let z : s.sums ≡ sums = cc in sym z ∙ h p

-- as many steps as bring it to its end
over-completed : (table : List Exchange) (limit k : ℕ) (generators : List Vector) → 0 < length table
    → is_over (steps table limit k (begun table limit generators)) ≡ true
    → steps table limit k (begun table limit generators) ≡ completed table limit generators
over-completed table limit k generators h e =
    sym (steps-past table limit k (sum_count (length table) limit) (begun table limit generators) e)
    ∙ ap (λ (m : ℕ). steps table limit m (begun table limit generators)) (swap k (sum_count (length table) limit))
    ∙ steps-complete table limit k generators h
  where
    swap : (a b : ℕ) → a + b ≡ b + a
    swap a b = omega arith

module _ (order other : Order) (list_size group_size : ℕ) where
  abbrev fault : Fault
  fault = session_fault order other list_size group_size

  -- where the order stands after k steps with a table, and what it has come to
  abbrev pub after : (table : List Exchange) (k : ℕ) → Completion
  after table k = steps table session_rows k (started table fault order)

  abbrev pub result_after : (table : List Exchange) (k : ℕ) → Result
  result_after table k = result_of table (after table k)

  abbrev own : Outcome Listing
  own = listing order (half order.n) group_size

  abbrev members : List Exchange
  members = table_of order group_size

  started-met : (table : List Exchange) {f : Fault} → fault ≡ f
      → started table fault order ≡ unless_met f (begun table session_rows (generators_of order))
  unfolding started
  started-met table e = ap (λ (f : Fault). unless_met f (begun table session_rows (generators_of order))) e

  -- an order that meets a test is refused by it, whatever the steps
  pub met-refused : (table : List Exchange) (k : ℕ) {number place : ℕ} → fault ≡ fault_at number place
      → result_after table k ≡ ended (refused number place)
  unfolding unless_met is_over result_of
  met-refused table k {number} {place} e =
      ap (λ (c : Completion). result_of table (steps table session_rows k c)) (started-met table e)
      ∙ ap (result_of table) (steps-over table session_rows k (stopped number place) refl)

  -- one that meets none is at its start
  unmet-begun : (table : List Exchange) → fault ≡ no_fault → started table fault order ≡ begun table session_rows (generators_of order)
  unfolding unless_met
  unmet-begun table e = started-met table e

  -- ---- a List on its own
  listing-met : {f : Fault} → admission_fault order group_size true ≡ f
      → own ≡ unless_fault f (listing_of members (completed members (list_rows order.n (half order.n)) (generators_of order)))
  unfolding listing
  listing-met e =
      let found = listing_of members (completed members (list_rows order.n (half order.n)) (generators_of order)) in
      ap (λ (b : Bool). unless_fault (admission_fault order group_size b) found) (half-whole order.n)
      ∙ ap (λ (f : Fault). unless_fault f found) e

  -- a test that it meets too
  pub own-refused : (k : ℕ) {number place : ℕ} → fault ≡ fault_at number place
      → admission_fault order group_size true ≡ fault_at number place → result_after members k ≡ ended own
  unfolding unless_fault
  own-refused k e p = met-refused members k e ∙ ap ended (sym (listing-met p))

  -- none: the group has members, and the completion is the same
  own-some : admission_fault order group_size true ≡ no_fault → 0 < length members
  own-some e =
      let P = admission-none order group_size true e in
      table-some order group_size P.cells_pass P.tests_pass

  own-found : admission_fault order group_size true ≡ no_fault → (k : ℕ)
      → is_over (steps members session_rows k (begun members session_rows (generators_of order))) ≡ true
      → ended (listing_of members (steps members session_rows k (begun members session_rows (generators_of order)))) ≡ ended own
  unfolding unless_fault
  own-found e k over =
      let least = (cells-none order.n (admission-none order group_size true e).cells_pass).least in
      ap (λ (x : Completion). ended (listing_of members x)) (over-completed members session_rows k (generators_of order) (own-some e) over)
      ∙ ap (λ (l : ℕ). ended (listing_of members (completed members l (generators_of order)))) (sym (half-rows order.n least))
      ∙ ap ended (sym (listing-met e))

  -- AN ORDER'S END IS ITS OWN
  pub own-end : shared_fault order other list_size ≡ no_fault → difference_fault order other ≡ no_fault → (k : ℕ)
      → is_over (after members k) ≡ true → result_after members k ≡ ended own
  own-end e f k over = go (admission_fault order group_size true) refl
    where
      same : fault ≡ admission_fault order group_size true
      same = own-tests order other list_size group_size e f

      go : (x : Fault) → admission_fault order group_size true ≡ x → result_after members k ≡ ended own
      go (Err r) p = own-refused k (same ∙ p) p
      go no_fault p =
          let begins = unmet-begun members (same ∙ p) in
          result-over members (after members k) over
          ∙ ap (λ (c : Completion). ended (listing_of members (steps members session_rows k c))) begins
          ∙ own-found p k (subst (λ (c : Completion). is_over (steps members session_rows k c) ≡ true) begins over)

  -- with a fault of its own up to 9 too
  pub early-end : {number place : ℕ} → shared_fault order other list_size ≡ no_fault → own_fault order group_size ≡ fault_at number place
      → (k : ℕ) → result_after members k ≡ ended own
  early-end e f k = let both = fault-early order other list_size group_size e f in own-refused k both.0 both.1

  -- it comes to its end with as many steps as its completion may need
  pub enough-steps : (k : ℕ) → sum_count (length members) session_rows ≤ k → is_over (after members k) ≡ true
  unfolding is_over unless_met
  enough-steps k h = go fault refl
    where
      parts : {a : ℕ} → a ≤ k → k ≡ a + (k - a)
      parts h = omega arith

      go : (x : Fault) → fault ≡ x → is_over (after members k) ≡ true
      go (Err r) p =
          ap (λ (c : Completion). is_over (steps members session_rows k c)) (started-met members p)
          ∙ ap is_over (steps-over members session_rows k (stopped r.number r.place) refl)
      go no_fault p =
          let s = fault-none order other list_size group_size p in
          let some = own-some (sym (own-tests order other list_size group_size s.0 s.1) ∙ p) in
          let generators = generators_of order in
          ap (λ (x : Completion). is_over (steps members session_rows k x)) (unmet-begun members p)
          ∙ ap (λ (m : ℕ). is_over (steps members session_rows m (begun members session_rows generators))) (parts h)
          ∙ ap is_over (steps-complete members session_rows (k - sum_count (length members) session_rows) generators some)
          ∙ completed-over members session_rows generators some

  -- UNFINISHED: with sums left it has tried as many sums as it had steps
  pub unfinished-sums : (table : List Exchange) (k sums : ℕ) → result_after table k ≡ unfinished sums → sums ≡ k
  unfolding unless_met
  unfinished-sums table k sums e = go fault refl
    where
      none_more : (k : ℕ) → k + 0 ≡ k
      none_more k = omega arith

      go : (x : Fault) → fault ≡ x → sums ≡ k
      go (Err r) p = ended-unfinished (sym (met-refused table k p) ∙ e)
      go no_fault p =
          let tries = steps-tries table session_rows k 0 (started table fault order)
          (subst (Tries table session_rows 0) (sym (unmet-begun table p)) (begun-tries table session_rows (generators_of order))) in
          left-sums table k (after table k) (subst (λ (m : ℕ). Tries table session_rows m (after table k)) (none_more k) tries) sums e

  -- no more rows than there is room for
  pub after-fits : (table : List Exchange) (k : ℕ) → Fits table session_rows (after table k)
  unfolding unless_met
  after-fits table k = steps-fit table session_rows k (started table fault order) (go fault refl)
    where
      go : (x : Fault) → fault ≡ x → Fits table session_rows (started table fault order)
      go (Err r) p = subst (Fits table session_rows) (sym (started-met table p)) tt
      go no_fault p = subst (Fits table session_rows) (sym (unmet-begun table p)) (begun-fits table session_rows (generators_of order))
