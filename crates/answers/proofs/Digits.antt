-- The digits of a number: one digit, or those of its tenth part and the last one. Assumes nothing.
use mathlib.Core.Path.{◌≡◌, sym, ◌∙◌, ap}
use mathlib.Core.List.{List, [], ◌∷◌, ◌++◌}
use mathlib.Core.Logic.{⊎_elim}
use Prim.Native.Nat.{ℕ, zero, suc, ◌+◌, ◌/◌, ◌%◌, ◌<◌, ◌≤◌}
use native.Mathlib.Omega.{arith}
use borrow.Author.Tests.{lt-ltb, le-ltb}
use Rattle.answers.specs.Text.{digit_zero, digits, decimal}
use Rattle.answers.proofs.Pages.{either}

-- the definition by cases
digits-small : (f n : ℕ) → n < 10 → digits (suc f) n ≡ (digit_zero + n) ∷ []
unfolding digits
digits-small f n h = rw (lt-ltb n 10 h)

digits_more : (f n : ℕ) → 10 ≤ n → digits (suc f) n ≡ digits f (n / 10) ++ ((digit_zero + n % 10) ∷ [])
unfolding digits
digits_more f n h = rw (le-ltb n 10 h)

-- any fuel above the number gives the same digits
enough : (f g n : ℕ) → n < f → n < g → digits f n ≡ digits g n
enough zero g n h k = absurd (omega arith)
enough (suc f) zero n h k = absurd (omega arith)
enough (suc f) (suc g) n h k =
    ⊎_elim
    (λ b. digits_more f n b ∙ ap (λ (l : List ℕ). l ++ ((digit_zero + n % 10) ∷ [])) (enough f g (n / 10) (omega arith) (omega arith)) ∙ sym (digits_more g n b))
    (λ b. digits-small f n b ∙ sym (digits-small g n b))
    (either 10 n)

-- the same of a number's digits, as the code writes them
pub decimal-small : (n : ℕ) → n < 10 → decimal n ≡ (digit_zero + n % 10) ∷ []
unfolding decimal
decimal-small n h = digits-small n n h ∙ ap (λ (k : ℕ). (digit_zero + k) ∷ []) (let e : n ≡ n % 10 = omega arith in e)

pub decimal-more : (n : ℕ) → 10 ≤ n → decimal n ≡ decimal (n / 10) ++ ((digit_zero + n % 10) ∷ [])
unfolding decimal
decimal-more n h =
    digits_more n n h
    ∙ ap (λ (l : List ℕ). l ++ ((digit_zero + n % 10) ∷ []))
    (enough n (suc (n / 10)) (n / 10) (omega arith) (omega arith))
