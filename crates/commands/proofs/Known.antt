-- What stands where a command is due (Specification 8.1). Assumes nothing.
use Rattle.std.specs.Prelude.{if◌then◌else◌}
use mathlib.Core.Path.{◌≡◌, refl, sym, ◌∙◌, ap}
use mathlib.Core.Bool.{Bool, true, false}
use mathlib.Core.List.{List}
use Prim.Native.Nat.{ℕ, zero, suc, ◌+◌, ◌*◌, ◌<◌, ◌≤◌}
use native.Mathlib.Omega.{arith}
use lib.Dec.{ltb}
use lib.ListN.{length, get_or}
use borrow.Author.Tests.{lt-ltb, le-ltb, ltb-true, ltb-false}
use Rattle.commands.specs.declared.Command.{Command}
use Rattle.commands.specs.declared.Command.TheVariants.{Size, Generator, Exchange, Row, Coefficients, Vector, Image, End}
use Rattle.commands.specs.declared.Reading.TheVariants.{Known, Past}
use Rattle.commands.specs.Commands.{command_of, command_at, code_of, operands_of, width_of}

-- no byte is left
pub past-at : (order : List ℕ) (at : ℕ) → length order ≤ at → command_at order at ≡ Past
unfolding command_at
past-at order at h = rw (le-ltb at (length order) h)

-- a byte is there
pub byte-at : (order : List ℕ) (at b : ℕ) → at < length order → get_or order at 0 ≡ b → command_at order at ≡ command_of b (at + 1)
unfolding command_at
byte-at order at b h e = rw (lt-ltb at (length order) h) (ap (λ (x : ℕ). command_of x (at + 1)) e)

-- the operands of a byte's command start where they are said to
of-operands : (b p : ℕ) (c : Command) → command_of b p ≡ Known c → operands_of c ≡ p
unfolding command_of
of-operands zero p c e = cc
of-operands (suc zero) p c e = cc
of-operands (suc (suc zero)) p c e = cc
of-operands (suc (suc (suc zero))) p c e = cc
of-operands (suc (suc (suc (suc zero)))) p c e = cc
of-operands (suc (suc (suc (suc (suc zero))))) p c e = cc
of-operands (suc (suc (suc (suc (suc (suc zero)))))) p c e = cc
of-operands (suc (suc (suc (suc (suc (suc (suc zero))))))) p c e = cc
of-operands (suc (suc (suc (suc (suc (suc (suc (suc b)))))))) p c e = cc

-- a byte is not the end
of_end : (b p : ℕ) → command_of b p ≡ Past → ⊥
unfolding command_of
of_end zero p e = let z : ◌≡◌ {A = ℕ} 0 1 = cc in omega arith
of_end (suc zero) p e = let z : ◌≡◌ {A = ℕ} 0 1 = cc in omega arith
of_end (suc (suc zero)) p e = let z : ◌≡◌ {A = ℕ} 0 1 = cc in omega arith
of_end (suc (suc (suc zero))) p e = let z : ◌≡◌ {A = ℕ} 0 1 = cc in omega arith
of_end (suc (suc (suc (suc zero)))) p e = let z : ◌≡◌ {A = ℕ} 0 1 = cc in omega arith
of_end (suc (suc (suc (suc (suc zero))))) p e = let z : ◌≡◌ {A = ℕ} 0 1 = cc in omega arith
of_end (suc (suc (suc (suc (suc (suc zero)))))) p e = let z : ◌≡◌ {A = ℕ} 0 1 = cc in omega arith
of_end (suc (suc (suc (suc (suc (suc (suc zero))))))) p e = let z : ◌≡◌ {A = ℕ} 0 1 = cc in omega arith
of_end (suc (suc (suc (suc (suc (suc (suc (suc b)))))))) p e = let z : ◌≡◌ {A = ℕ} 0 1 = cc in omega arith

-- a command stands inside the order, and its operands start behind its byte
pub known_at : (order : List ℕ) (at : ℕ) (c : Command) → command_at order at ≡ Known c → (operands_of c ≡ at + 1) × (at < length order)
unfolding command_at
known_at order at c = go (ltb at (length order)) refl
  where
    go : (t : Bool) → ltb at (length order) ≡ t → (if t then command_of (get_or order at 0) (at + 1) else Past) ≡ Known c → (operands_of c ≡ at + 1) × (at < length order)
    go true i e = (of-operands (get_or order at 0) (at + 1) c e, ltb-true at (length order) i)
    go false i e = absurd (let z : ◌≡◌ {A = ℕ} 0 1 = cc in omega arith)

-- the end is read only at the end
pub past-only : (order : List ℕ) (at : ℕ) → command_at order at ≡ Past → length order ≤ at
unfolding command_at
past-only order at = go (ltb at (length order)) refl
  where
    go : (t : Bool) → ltb at (length order) ≡ t → (if t then command_of (get_or order at 0) (at + 1) else Past) ≡ Past → length order ≤ at
    go true i e = absurd (of_end (get_or order at 0) (at + 1) e)
    go false i e = ltb-false at (length order) i

-- a command is the one of its byte
pub of_code : (c : Command) → command_of (code_of c) (operands_of c) ≡ Known c
unfolding command_of
of_code (Size p) = refl
of_code (Generator p) = refl
of_code (Exchange p) = refl
of_code (Row p) = refl
of_code (Coefficients p) = refl
of_code (Vector p) = refl
of_code (Image p) = refl
of_code (End p) = refl

-- so that a byte and the place of the operands tell a command
pub of-same-code : (c : Command) (code : ℕ) (x : Command) → code_of c ≡ code → command_of code (operands_of c) ≡ Known x → x ≡ c
of-same-code c code x e made =
    let same : Known c ≡ Known x = sym (of_code c) ∙ ap (λ (k : ℕ). command_of k (operands_of c)) e ∙ made in
    cc

-- the bytes that operands take at most
pub width-most : (c : Command) (n m : ℕ) → width_of c n m ≤ 1 + 4 * (n + m)
width-most (Size p) n m = omega arith
width-most (Generator p) n m = omega arith
width-most (Exchange p) n m = omega arith
width-most (Row p) n m = omega arith
width-most (Coefficients p) n m = omega arith
width-most (Vector p) n m = omega arith
width-most (Image p) n m = omega arith
width-most (End p) n m = omega arith
