-- `put_integer` meets its contract: the sign where there is one, and the absolute value. Assumes nothing.
use Rattle.std.proofs.Common.{◌≡◌, true, ap, ℕ, ℤ, pos, negsuc, nat_abs, ◌∷◌, arith, rules}
use lib.Signed.{lt_z}
use Rattle.answers.specs.Text.{minus_sign, decimal, decimalℤ}
use Rattle.answers.proofs.Pages.{wrote-append, wrote_as}
use Rattle.answers.proofs.put_integer.Goals as goal

-- a number below zero has a sign
negative_text : (z : ℤ) (n : ℕ) → lt_z z (pos 0) ≡ true → n ≡ nat_abs z → minus_sign ∷ decimal n ≡ decimalℤ z
negative_text (pos m) n h e = absurd (grind arith)
negative_text (negsuc m) n h e = ap (λ (k : ℕ). minus_sign ∷ decimal k) e

pub returns-then-z-lt0 : goal.returns-then-z-lt0
returns-then-z-lt0 c =
    let w = wrote-append c.put_byte-next.ensures.wrote c.put_natural.ensures.wrote in
    record { wrote = wrote_as w (search (rules, negative_text)) }
