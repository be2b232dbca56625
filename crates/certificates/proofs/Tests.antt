-- What the tests 18, 19 and 23 say of one place (Specification 7.2). Assumes nothing.
use mathlib.Core.Path.{◌≡◌, sym, ap, ◌∙◌}
use mathlib.Core.Bool.{false, not}
use mathlib.Core.List.{List, []}
use Prim.Native.Nat.{ℕ, zero, suc, ◌+◌, ◌-◌, ◌*◌, ◌/◌, ◌%◌, ◌≤◌, ◌<◌}
use native.Mathlib.Nat.{div-add-mod', div-lt_iff_lt-mul, mod-lt, mul-zero}
use native.Mathlib.Omega.{arith}
use lib.IntN.{ℤ}
use lib.ListN.{length, get_or}
use Rattle.definitions.specs.Lists.{any}
use Rattle.definitions.specs.Vector.{Vector}
use Rattle.definitions.specs.Group.{Exchange, exchanged}
use Rattle.definitions.specs.Orbit.{precedes}
use Rattle.definitions.specs.Refusals.{is_misplaced, is_past, sent_images}
use Rattle.theory.proofs.Members.{any_none, each_map, none_any}
use Rattle.theory.proofs.Accepted.{past-none}
use Rattle.theory.proofs.Bare.{sent-image-at}
use Rattle.refusals.proofs.Turns.{not-past}

-- ---- 18

-- row 0 is never out of its place
pub misplaced-first : (rows : List Vector) (p : ℕ) → p ≡ 0 → false ≡ is_misplaced rows p
unfolding is_misplaced
misplaced-first rows p e = ap (is_misplaced rows) (sym e)

-- a later row
pub misplaced-at : (rows : List Vector) (p : ℕ) → 1 ≤ p
    → not (precedes (get_or rows (p - 1) []) (get_or rows p [])) ≡ is_misplaced rows p
unfolding is_misplaced
misplaced-at rows zero h = absurd (omega arith)
misplaced-at rows (suc p) h =
    let e : suc p - 1 ≡ p = omega arith in
    ap (λ (i : ℕ). not (precedes (get_or rows i []) (get_or rows (suc p) []))) e

-- either
pub ruleset misplaced = (misplaced-first, misplaced-at)

-- ---- 19 and 23

-- numbers that are not past a limit are not past a higher one
pub past_more : {limit more : ℕ} → limit ≤ more → (xs : List ℤ) → any (is_past limit) xs ≡ false
    → any (is_past more) xs ≡ false
past_more {limit} {more} h xs e =
    none_any (is_past more)
    (each_map (λ x (f : is_past limit x ≡ false). not-past more x (omega (arith, past-none limit x f)))
    (any_none (is_past limit) xs e))

-- ---- 23

-- place p of e times m: one of e, and one of m
pub place-in : (e m p : ℕ) → p < e * m → (0 < m) × (p / m < e) × (p % m < m)
place-in e zero p h = absurd (omega (arith, mul-zero e))
place-in e (suc m) p h = let some : 0 < suc m = omega arith in (some, (div-lt_iff_lt-mul some).1 h, mod-lt p some)

-- the image at p is that of generator p % m by exchange p / m
pub image-is : (generators : List Vector) (sent : List Exchange) (e m p : ℕ) → length sent ≡ e → length generators ≡ m → p < e * m
    → exchanged (get_or sent (p / m) []) (get_or generators (p % m) []) ≡ get_or (sent_images generators sent) p []
image-is generators sent e m p many wide h =
    let i = place-in e m p h in
    let at : p / m * length generators + p % m ≡ p = ap (λ (k : ℕ). p / m * k + p % m) wide ∙ div-add-mod' p m in
    sym (sent-image-at generators sent (p / m) (p % m) (omega (arith, i)) (omega (arith, i))) ∙ ap (λ (k : ℕ). get_or (sent_images generators sent) k []) at
