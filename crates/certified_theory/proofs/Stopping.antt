-- Where a completion with coefficients ends: no sum is left to try, or it is stopped as the plain one is, or by 24,
-- at a sum that can be tried. Assumes nothing.
use mathlib.Core.Path.{◌≡◌, refl, sym, ◌∙◌, ap, subst}
use mathlib.Core.Logic.{◌⊎◌, inl, inr}
use mathlib.Core.Bool.{Bool, true, false, cond}
use mathlib.Core.List.{List, []}
use Prim.Native.Nat.{ℕ, zero, suc, ◌≤◌, ◌<◌}
use native.Mathlib.Omega.{arith}
use borrow.Author.Tests.{leb-false, leb-true}
use lib.Dec.{leb}
use lib.IntN.{ℤ}
use lib.ListN.{length}
use Rattle.definitions.specs.Limits.{stored_coefficient_limit}
use Rattle.definitions.specs.Lists.{until}
use Rattle.definitions.specs.Vector.{Vector, within}
use Rattle.definitions.specs.Group.{Exchange}
use Rattle.definitions.specs.Completion.{Completion, State, begun, completed, is_finished, is_over, remainder}
use Rattle.definitions.specs.Completion.{running, settled, step, stopped, stored_rows, sum_at, sum_count}
use Rattle.definitions.specs.Certified.{CertifiedCompletion, certified_after, certified_begun, certified_completed}
use Rattle.definitions.specs.Certified.{certified_from, certified_step, is_over_certified, new_coefficients, noted}
use Rattle.theory.proofs.Tests.{bool_cases}
use Rattle.theory.proofs.Counting.{Counted, OneMore, completed-over, fewer, first_counted, if-cases, step_after}
use Rattle.certified_theory.proofs.Noting.{until-keeps}
use Rattle.certified_theory.proofs.Forgetting.{Follows, completed-forgets}

-- ---- turns of a run
pub until-over : {A : Type 0} (over : A → Bool) (onward : A → A) (fuel : ℕ) (a : A) → over a ≡ true
    → until over onward fuel a ≡ a
unfolding until
until-over over onward zero a e = refl
until-over over onward (suc fuel) a e = ap (λ (b : Bool). cond b a (until over onward fuel (onward a))) e

pub until-turn : {A : Type 0} (over : A → Bool) (onward : A → A) (fuel : ℕ) (a : A) → over a ≡ false
    → until over onward (suc fuel) a ≡ until over onward fuel (onward a)
unfolding until
until-turn over onward fuel a e = ap (λ (b : Bool). cond b a (until over onward fuel (onward a))) e

module _ (basis : List Vector) (table : List Exchange) (limit : ℕ) (generators : List Vector) where
  abbrev ended : CertifiedCompletion
  ended = certified_completed basis table limit generators

  -- ITS FUEL IS NEVER SPENT
  pub certified-over : 0 < length table → is_over_certified ended ≡ true
  unfolding is_over_certified is_over
  certified-over h = go (completed-forgets basis table limit generators)
    where
      go : Follows (completed table limit generators) ended → is_over ended.completion ≡ true
      go (inl e) = ap is_over e ∙ completed-over table limit generators h
      go (inr (place, e)) = ap is_over e

  -- IT STOPS AS THE PLAIN ONE DOES, OR BY 24
  pub certified-stops : (number place : ℕ) → ended.completion ≡ stopped number place
      → (completed table limit generators ≡ stopped number place) ⊎ (number ≡ 24)
  certified-stops number place e = go (completed-forgets basis table limit generators)
    where
      go : Follows (completed table limit generators) ended
          → (completed table limit generators ≡ stopped number place) ⊎ (number ≡ 24)
      go (inl q) = inl (sym q ∙ e)
      go (inr (p, q)) = let same : stopped number place ≡ stopped 24 p = sym e ∙ q in inr cc

  -- ---- the place
  abbrev Near : Completion → Type 0
  Near (stopped number place) = place ≤ sum_count (length table) limit
  Near (running s) = Counted (length table) limit s

  near-after : (s : State) (cs : List (List ℤ)) → Counted (length table) limit s → s.i < length s.rows
      → (c : Completion) → OneMore (length table) limit s c → Near (certified_after basis table s cs c).completion
  unfolding certified_after noted
  near-after s cs k left (stopped number place) m = omega (arith, m, fewer (length table) limit s k left)
  near-after s cs k left (running t) m =
      if-cases (λ (y : CertifiedCompletion). Near y.completion) (leb (length t.rows) (length s.rows))
      (λ e. m.0)
      (λ e. if-cases (λ (y : CertifiedCompletion). Near y.completion)
      (within stored_coefficient_limit (new_coefficients basis table s cs)) (λ w. m.0)
      (λ w. omega (arith, fewer (length table) limit s k left)))

  near_step : (x : CertifiedCompletion) → Near x.completion → Near (certified_step basis table limit x).completion
  unfolding certified_step certified_from certified_after step is_finished
  near_step x h = go x.completion x.coefficients h
    where
      still : (s : State) (cs : List (List ℤ)) → Counted (length table) limit s
          → Near (certified_after basis table s cs (running s)).completion
      still s cs k =
          if-cases (λ (y : CertifiedCompletion). Near y.completion) (leb (length s.rows) (length s.rows))
          (λ e. k) (λ e. absurd (omega (arith, leb-false (length s.rows) (length s.rows) e)))

      on : (s : State) (cs : List (List ℤ)) → Counted (length table) limit s
          → (is_finished s ≡ true) ⊎ (is_finished s ≡ false)
          → Near (certified_after basis table s cs (step table limit (running s))).completion
      on s cs k (inl e) =
          subst (λ (c : Completion). Near (certified_after basis table s cs c).completion)
          (sym (ap (λ (b : Bool).
          cond b (running s) (settled table limit s (remainder table s.rows (sum_at table s)))) e)) (still s cs k)
      on s cs k (inr e) =
          near-after s cs k (leb-false _ _ e) (step table limit (running s)) (step_after table limit s k e)

      go : (c : Completion) (cs : List (List ℤ)) → Near c → Near (certified_from basis table limit c cs).completion
      go (stopped number place) cs k = k
      go (running s) cs k = on s cs k (bool_cases (is_finished s))

  -- WHERE IT IS STOPPED, it is at a sum that can be tried
  pub certified-near : 0 < length table → (number place : ℕ) → ended.completion ≡ stopped number place
      → place ≤ sum_count (length table) limit
  unfolding certified_completed certified_begun begun
  certified-near h number place e = subst Near e near
    where
      rows : List Vector
      rows = stored_rows table [] generators

      first : Near (begun table limit generators)
      first =
          if-cases Near (leb (length rows) limit)
          (λ l. first_counted (length table) limit rows h (leb-true (length rows) limit l)) (λ l. omega arith)

      near : Near ended.completion
      near =
          until-keeps (λ (x : CertifiedCompletion). Near x.completion) is_over_certified (certified_step basis table limit)
          near_step (sum_count (length table) limit) (certified_begun basis table limit generators) first
