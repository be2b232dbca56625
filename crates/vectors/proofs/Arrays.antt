-- An array that is made cell by cell, by a function that stays as it is. Assumes nothing.
use Rattle.std.proofs.Common.{◌≡◌, refl, ◌∙◌, ℕ, zero, suc, ◌+◌, ◌≤◌, ◌<◌, arith, List, length, get_or, inl, inr}
use Rattle.std.specs.Array.{index_steps, IsFromFnResult, IsFromFnResultFrom}
use Rattle.std.specs.Iterator.{CallableAtEachTurn}
use Rattle.std.specs.Fn.{Called}
use Rattle.std.proofs.lemmas.Bool.{cases_eq}
use Rattle.std.proofs.lemmas.Fn.{serves_by}
use Rattle.std.proofs.lemmas.List.{ext_get_or}
use denote.Param.Members.{Mut}

-- it may be called for each cell
pub callable-below : {P : Type 0} {R : P → ℕ → P → Type 0} {Q : P → ℕ → Type 0} {n : ℕ} {p : P}
    → ((i : ℕ) (q : P) → R p i q → q ≡ p) → ((i : ℕ) → i < n → Q p i) → CallableAtEachTurn (index_steps n) R Q 0 p
callable-below {R = R} {Q = Q} {n = n} {p = p} stays may =
    serves_by R (λ _ q. q ≡ p) (λ xs q x v e r. stays x v (rw e at r)) (index_steps n) Q 0 p refl (λ xs t q x u y s e. rw e (may x (omega arith)))

-- what it makes is p, of n cells, if it makes each cell of p
module _ {F B : Type 0} {g : Mut F (ℕ × Unit {0}) B} {f : F} (d : B) (p : List B) (n : ℕ) (long : length p ≡ n) (each : (i : ℕ) (y : B) (q : F) → i < n → Called g f (i, tt) y q → (q ≡ f) × (y ≡ get_or p i d)) where
  made-from : (ys : List B) (i left k : ℕ) → i + left ≤ n → IsFromFnResultFrom g f ys i left → i ≤ k → k < i + left → get_or ys k d ≡ get_or p k d
  made-from ys i zero k m h a b = absurd (omega arith)
  made-from ys i (suc left) k m (q, y, at, call, rest) a b =
      let told = each i y q (omega arith) call in
      elim (cases_eq i k) [
        | inl e ↦ rw (← e) (at.1 d ∙ told.1)
        | inr e ↦ made-from ys (i + 1) left k (omega arith) (rw told.0 at rest) (omega arith) (omega arith)
      ]

  pub made-is : (ys : List B) → IsFromFnResult g f ys n → ys ≡ p
  made-is ys h = let l = h.long in ext_get_or d ys p (omega arith) (λ i l. made-from ys 0 n i (omega arith) h.each (omega arith) (omega arith))
