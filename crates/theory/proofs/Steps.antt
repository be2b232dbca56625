-- A run of the completion is so many single steps, and more of them change nothing. Assumes nothing.
use mathlib.Core.Path.{◌≡◌, refl, sym, ◌∙◌, ap}
use mathlib.Core.Bool.{Bool, true, false, cond}
use mathlib.Core.List.{List}
use Prim.Native.Nat.{ℕ, zero, suc, ◌+◌, ◌<◌}
use native.Mathlib.Omega.{arith}
use lib.ListN.{length}
use Rattle.definitions.specs.Lists.{until}
use Rattle.definitions.specs.Vector.{Vector}
use Rattle.definitions.specs.Group.{Exchange}
use Rattle.definitions.specs.Completion.{Completion, begun, completed, is_over, remainder, run, running, settled, step, stopped, sum_at, sum_count}
use Rattle.theory.proofs.Counting.{completed-over}

-- `count` steps, one after the other
abbrev pub steps : (table : List Exchange) (limit count : ℕ) → Completion → Completion
steps table limit zero c = c
steps table limit (suc count) c = steps table limit count (step table limit c)

-- a completion that is over stays as it is
pub step-over : (table : List Exchange) (limit : ℕ) (c : Completion) → is_over c ≡ true → step table limit c ≡ c
unfolding step is_over
step-over table limit (stopped number place) e = refl
step-over table limit (running s) e =
    ap (λ (b : Bool). cond b (running s) (settled table limit s (remainder table s.rows (sum_at table s)))) e

pub steps-over : (table : List Exchange) (limit count : ℕ) (c : Completion) → is_over c ≡ true → steps table limit count c ≡ c
steps-over table limit zero c e = refl
steps-over table limit (suc count) c e = ap (steps table limit count) (step-over table limit c e) ∙ steps-over table limit count c e

pub run-steps : (table : List Exchange) (limit fuel : ℕ) (c : Completion) → run table limit fuel c ≡ steps table limit fuel c
unfolding run until
run-steps table limit zero c = refl
run-steps table limit (suc fuel) c = go (is_over c) refl (run-steps table limit fuel (step table limit c))
  where
    go : (b : Bool) → is_over c ≡ b → run table limit fuel (step table limit c) ≡ steps table limit fuel (step table limit c) → cond b c (run table limit fuel (step table limit c)) ≡ steps table limit fuel (step table limit c)
    go true e ih = sym (steps-over table limit (suc fuel) c e)
    go false e ih = ih

pub steps-add : (table : List Exchange) (limit a b : ℕ) (c : Completion) → steps table limit (a + b) c ≡ steps table limit b (steps table limit a c)
steps-add table limit zero b c = ap (λ (k : ℕ). steps table limit k c) (first b)
  where
    first : (b : ℕ) → 0 + b ≡ b
    first b = omega arith
steps-add table limit (suc a) b c = ap (λ (k : ℕ). steps table limit k c) (next a b) ∙ steps-add table limit a b (step table limit c)
  where
    next : (a b : ℕ) → suc a + b ≡ suc (a + b)
    next a b = omega arith

-- as many steps as the completion needs, or more, end where it ends
pub steps-complete : (table : List Exchange) (limit more : ℕ) (generators : List Vector) → 0 < length table → steps table limit (sum_count (length table) limit + more) (begun table limit generators) ≡ completed table limit generators
unfolding completed
steps-complete table limit more generators h =
    steps-add table limit (sum_count (length table) limit) more (begun table limit generators)
    ∙ ap (steps table limit more) (sym (run-steps table limit (sum_count (length table) limit) (begun table limit generators)))
    ∙ steps-over table limit more (run table limit (sum_count (length table) limit) (begun table limit generators)) (completed-over table limit generators h)
