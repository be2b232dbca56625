-- Where an order stands after the steps is so many single steps of its own as name it, however they are mixed. Assumes
-- nothing.
use mathlib.Core.Path.{◌≡◌, refl, ◌∙◌, ap, subst}
use mathlib.Core.Bool.{Bool, true, false, not, cond}
use mathlib.Core.List.{List, [], ◌∷◌, ◌++◌}
use Prim.Native.Nat.{ℕ, zero, suc, ◌+◌, ◌≤◌}
use native.Mathlib.Omega.{arith}
use borrow.Author.Tests.{eqb-true, leb-true, leb-false}
use lib.Dec.{eqb, leb}
use lib.ListN.{length, length-append}
use Rattle.definitions.specs.Limits.{entry_limit, session_rows}
use Rattle.definitions.specs.Vector.{Vector, is_zero, within}
use Rattle.definitions.specs.Group.{Exchange}
use Rattle.definitions.specs.Orbit.{representative}
use Rattle.definitions.specs.Completion.{Completion, begun, first_state, is_finished, is_over, next, remainder, running, settled}
use Rattle.definitions.specs.Completion.{step, stopped, stored_rows, sum_at}
use Rattle.definitions.specs.Session.{Pair, session_step, session_steps, steps_of}
use Rattle.theory.proofs.Tests.{clash}
use Rattle.theory.proofs.Counting.{if-cases, next-sums}
use Rattle.theory.proofs.Places.{next-rows}
use Rattle.theory.proofs.Steps.{steps, steps-add, steps-over}

-- order 0 tries a sum, and order 1
abbrev by_first : List Exchange → Pair → Pair
by_first table pair = record { first = step table session_rows pair.first; second = pair.second }

abbrev by_second : List Exchange → Pair → Pair
by_second table pair = record { first = pair.first; second = step table session_rows pair.second }

-- ORDER 0
pub turns-first : (table : List Exchange) (bytes : List ℕ) (pair : Pair)
    → (session_steps table bytes pair).first ≡ steps table session_rows (steps_of 0 bytes) pair.first
unfolding session_steps session_step steps_of
turns-first table [] pair = refl
turns-first table (x ∷ bytes) pair = go (turns-first table bytes) (eqb x 0) (eqb x 1)
  where
    go : ((t : Pair) → (session_steps table bytes t).first ≡ steps table session_rows (steps_of 0 bytes) t.first) → (a b : Bool)
        → (session_steps table bytes (cond a (by_first table pair) (cond b (by_second table pair) pair))).first
        ≡ steps table session_rows (cond a (suc (steps_of 0 bytes)) (steps_of 0 bytes)) pair.first
    go again true b = again (by_first table pair)
    go again false true = again (by_second table pair)
    go again false false = again pair

-- ORDER 1
pub turns-second : (table : List Exchange) (bytes : List ℕ) (pair : Pair)
    → (session_steps table bytes pair).second ≡ steps table session_rows (steps_of 1 bytes) pair.second
unfolding session_steps session_step steps_of
turns-second table [] pair = refl
turns-second table (x ∷ bytes) pair = go (turns-second table bytes) (eqb x 0) refl (eqb x 1) refl
  where
    apart : eqb x 0 ≡ true → eqb x 1 ≡ false
    apart e = ap (λ (k : ℕ). eqb k 1) (eqb-true x 0 e)

    go : ((t : Pair) → (session_steps table bytes t).second ≡ steps table session_rows (steps_of 1 bytes) t.second)
        → (a : Bool) → eqb x 0 ≡ a → (b : Bool) → eqb x 1 ≡ b
        → (session_steps table bytes (cond a (by_first table pair) (cond b (by_second table pair) pair))).second
        ≡ steps table session_rows (cond b (suc (steps_of 1 bytes)) (steps_of 1 bytes)) pair.second
    go again true e true f = clash f (apart e)
    go again true e false f = again (by_first table pair)
    go again false e true f = again (by_second table pair)
    go again false e false f = again pair

-- ---- steps
module _ (table : List Exchange) (limit : ℕ) where
  -- steps past the end change nothing
  pub steps-past : (k more : ℕ) (c : Completion) → is_over (steps table limit k c) ≡ true
      → steps table limit (k + more) c ≡ steps table limit k c
  steps-past k more c e = steps-add table limit k more c ∙ steps-over table limit more (steps table limit k c) e

  -- ---- no more rows than there is room for
  abbrev pub Fits : Completion → Type 0
  Fits (stopped number place) = Unit {0}
  Fits (running s) = length s.rows ≤ limit

  step_fits : (c : Completion) → Fits c → Fits (step table limit c)
  unfolding step settled
  step_fits (stopped number place) h = h
  step_fits (running s) h =
      if-cases Fits (is_finished s) (λ e. h)
      (λ e. if-cases Fits (is_zero v) (λ e. omega (arith, ap length (next-rows (length table) s.rows s)))
      (λ e. if-cases Fits (not (within entry_limit v)) (λ e. tt)
      (λ e. if-cases Fits (leb limit (length s.rows)) (λ e. tt)
      (λ e. omega (
        arith,
        ap length (next-rows (length table) more s),
        length-append s.rows (representative table v ∷ []),
        leb-false limit (length s.rows) e,
      )))))
    where
      v : Vector
      v = remainder table s.rows (sum_at table s)

      more : List Vector
      more = s.rows ++ representative table v ∷ []

  pub begun-fits : (generators : List Vector) → Fits (begun table limit generators)
  unfolding begun first_state
  begun-fits generators =
      if-cases Fits (leb (length (stored_rows table [] generators)) limit) (λ e. leb-true _ _ e) (λ e. tt)

  pub steps-fit : (k : ℕ) (c : Completion) → Fits c → Fits (steps table limit k c)
  steps-fit zero c h = h
  steps-fit (suc k) c h = steps-fit k (step table limit c) (step_fits c h)

  -- ---- so many sums as steps, while sums are left
  abbrev pub Tries : (count : ℕ) → Completion → Type 0
  Tries count (stopped number place) = Unit {0}
  Tries count (running s) = is_finished s ≡ false → s.sums ≡ count

  step-tries : (count : ℕ) (c : Completion) → Tries count c → Tries (suc count) (step table limit c)
  unfolding step settled
  step-tries count (stopped number place) h = tt
  step-tries count (running s) h =
      if-cases (Tries (suc count)) (is_finished s) (λ e f. clash e f)
      (λ e. if-cases (Tries (suc count)) (is_zero v) (λ z f. one_more s.rows (h e))
      (λ z. if-cases (Tries (suc count)) (not (within entry_limit v)) (λ e. tt)
      (λ w. if-cases (Tries (suc count)) (leb limit (length s.rows)) (λ e. tt)
      (λ r f. one_more (s.rows ++ representative table v ∷ []) (h e)))))
    where
      v : Vector
      v = remainder table s.rows (sum_at table s)

      one_more : (rows : List Vector) → s.sums ≡ count → (next (length table) rows s).sums ≡ suc count
      one_more rows e = omega (arith, next-sums (length table) rows s, e)

  pub steps-tries : (k count : ℕ) (c : Completion) → Tries count c → Tries (k + count) (steps table limit k c)
  steps-tries zero count c h = subst (λ (m : ℕ). Tries m c) (first count) h
    where
      first : (count : ℕ) → count ≡ zero + count
      first count = omega arith
  steps-tries (suc k) count c h =
      subst (λ (m : ℕ). Tries m (steps table limit k (step table limit c))) (moved k count)
      (steps-tries k (suc count) (step table limit c) (step-tries count c h))
    where
      moved : (k count : ℕ) → k + suc count ≡ suc k + count
      moved k count = omega arith

  pub begun-tries : (generators : List Vector) → Tries zero (begun table limit generators)
  unfolding begun first_state
  begun-tries generators =
      if-cases (Tries zero) (leb (length (stored_rows table [] generators)) limit) (λ e f. refl) (λ e. tt)
