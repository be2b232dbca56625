-- The best step: no image gains more, and it is one of them where it gains at all. Assumes nothing.
use mathlib.Core.Path.{◌≡◌, refl, ◌∙◌, ap}
use mathlib.Core.Logic.{◌⊎◌, inl, inr}
use mathlib.Core.Bool.{Bool, true, false, cond}
use mathlib.Core.List.Memᴰ
use mathlib.Core.List.{List, [], ◌∷◌, ◌++◌, Memᴰ}
use Prim.Native.Nat.{ℕ, ◌≤◌, ◌<◌}
use native.Mathlib.Omega.{arith}
use borrow.Author.Tests.{le-ltb, lt-ltb, ltb-false, ltb-true}
use lib.Dec.{ltb}
use Rattle.definitions.specs.declared.Terms.{Terms}
use Rattle.definitions.specs.Vector.{Vector, plus, zero_vector}
use Rattle.definitions.specs.Plan.{best_gain, best_of, best_step, cost, fall, feasible, gain}
use Rattle.theory.proofs.Counting.{if-cases}
use Rattle.theory.proofs.Members.{Each, each-cons, each_nil}
use Rattle.plan_theory.proofs.Cost.{cost-zero}

module _ (terms : Terms) (x : Vector) where
  -- ---- what a gain says
  pub gain-is : (v : Vector) → feasible terms.upper (plus x v) ≡ true → gain terms x v ≡ fall (cost terms.costs v)
  unfolding gain
  gain-is v e = ap (λ (b : Bool). cond b (fall (cost terms.costs v)) 0) e

  pub gain-not : (v : Vector) → feasible terms.upper (plus x v) ≡ false → gain terms x v ≡ 0
  unfolding gain
  gain-not v e = ap (λ (b : Bool). cond b (fall (cost terms.costs v)) 0) e

  pub gain-fall : (v : Vector) → gain terms x v ≤ fall (cost terms.costs v)
  unfolding gain
  gain-fall v =
      if-cases (λ (k : ℕ). k ≤ fall (cost terms.costs v)) (feasible terms.upper (plus x v))
      (λ e. omega arith) (λ e. omega arith)

  pub gain-feasible : (v : Vector) → 0 < gain terms x v → feasible terms.upper (plus x v) ≡ true
  gain-feasible v h = go (feasible terms.upper (plus x v)) refl
    where
      go : (b : Bool) → feasible terms.upper (plus x v) ≡ b → b ≡ true
      go true e = refl
      go false e = absurd (omega (arith, gain-not v e))

  pub gain-zero : gain terms x zero_vector ≡ 0
  unfolding fall
  gain-zero = omega (arith, gain-fall zero_vector, ap fall (cost-zero terms.costs))

  -- ---- the best of some
  pub best-append : (v : Vector) (us vs : List Vector)
      → best_of terms x v (us ++ vs) ≡ best_of terms x (best_of terms x v us) vs
  unfolding best_of
  best-append v [] vs = refl
  best-append v (u ∷ us) vs = best-append (cond (ltb (gain terms x v) (gain terms x u)) u v) us vs

  -- none gains more
  pub best-top : (v : Vector) (us : List Vector) → (gain terms x v ≤ gain terms x (best_of terms x v us))
      × Each (λ u. gain terms x u ≤ gain terms x (best_of terms x v us)) us
  unfolding best_of
  best-top v [] = (omega arith, each_nil)
  best-top v (u ∷ us) =
      let r = best-top (cond (ltb (gain terms x v) (gain terms x u)) u v) us in
      (omega (arith, r.0, above.0), each-cons {x = u} (omega (arith, r.0, above.1)) r.1)
    where
      above : (gain terms x v ≤ gain terms x (cond (ltb (gain terms x v) (gain terms x u)) u v))
          × (gain terms x u ≤ gain terms x (cond (ltb (gain terms x v) (gain terms x u)) u v))
      above =
          if-cases (λ (w : Vector). (gain terms x v ≤ gain terms x w) × (gain terms x u ≤ gain terms x w))
          (ltb (gain terms x v) (gain terms x u))
          (λ e. let h = ltb-true (gain terms x v) (gain terms x u) e in (omega arith, omega arith))
          (λ e. (omega arith, ltb-false (gain terms x v) (gain terms x u) e))

  pub best-more : (v u : Vector) → gain terms x v < gain terms x u → best_of terms x v (u ∷ []) ≡ u
  unfolding best_of
  best-more v u h = ap (λ (b : Bool). cond b u v) (lt-ltb (gain terms x v) (gain terms x u) h)

  pub best_none : (v : Vector) {us : List Vector} → Each (λ u. gain terms x u ≤ gain terms x v) us
      → best_of terms x v us ≡ v
  unfolding best_of
  best_none v each_nil = refl
  best_none v (each-cons {x = u} {xs = us} h t) =
      ap (λ (b : Bool). best_of terms x (cond b u v) us) (le-ltb (gain terms x v) (gain terms x u) h) ∙ best_none v t

  -- it is one of them
  pub best-member : (v : Vector) (us : List Vector) → Memᴰ (best_of terms x v us) (v ∷ us)
  unfolding best_of
  best-member v [] = Memᴰ.head refl
  best-member v (u ∷ us) =
      if-cases (λ (w : Vector). Memᴰ (best_of terms x w us) (v ∷ u ∷ us)) (ltb (gain terms x v) (gain terms x u))
      (λ e. Memᴰ.tail (best-member u us)) (λ e. later (Memᴰ.cases_cons (best-member v us)))
    where
      later : {w : Vector} → (w ≡ v) ⊎ Memᴰ w us → Memᴰ w (v ∷ u ∷ us)
      later (inl e) = Memᴰ.head e
      later (inr k) = Memᴰ.tail (Memᴰ.tail k)

  -- THE BEST STEP IS AN IMAGE, where it gains
  pub best-listed : (images : List Vector) → 0 < best_gain terms images x → Memᴰ (best_step terms images x) images
  unfolding best_gain best_step
  best-listed images h = go (Memᴰ.cases_cons (best-member zero_vector images))
    where
      go : {w : Vector} → (best_step terms images x ≡ zero_vector) ⊎ Memᴰ w images → Memᴰ w images
      go (inl e) = absurd (omega (arith, h, ap (gain terms x) e, gain-zero))
      go (inr k) = k
