-- The comparison of two vectors is that of its two parts, and a fold that keeps whether all cells so far have passed.
-- Assumes nothing.
use mathlib.Core.Path.{◌≡◌, refl, sym, ◌∙◌}
use mathlib.Core.Bool.{Bool, ◌&&◌, ◌||◌, not, and_assoc, and-true}
use mathlib.Core.List.{[], ◌∷◌}
use native.Mathlib.Omega.{arith}
use lib.IntN.{ℤ}
use lib.ListN.{length}
use Rattle.std.specs.List.{fold, zip}
use Rattle.std.proofs.lemmas.Bool.Decides.{nat_tests}
use Rattle.std.proofs.lemmas.Int.{ints}
use Rattle.definitions.specs.Vector.{Vector, cell_below, below}
use Rattle.vectors.specs.Support.{cell_outside, outside_support, cell_on_support, below_on_support}
use Rattle.vectors.proofs.Kit.{Every}

-- ---- both parts together

cell_parts : (a b : ℤ) → cell_below a b ≡ not (cell_outside a b) && cell_on_support a b
unfolding cell_below cell_outside cell_on_support
cell_parts a b = grind (arith, nat_tests, ints)

apart : (c d s t : Bool) → (not c && s) && (not d && t) ≡ not (c || d) && (s && t)
apart c d s t = grind arith

-- u lies below v where it reaches nowhere outside the support of v, and lies below v on it
pub below_parts : (u v : Vector) → below u v ≡ not (outside_support u v) && below_on_support u v
unfolding below outside_support below_on_support
below_parts [] [] = refl
below_parts [] (b ∷ v) = refl
below_parts (a ∷ u) [] = refl
below_parts (a ∷ u) (b ∷ v) =
    rw (cell_parts a b, below_parts u v) (apart (cell_outside a b) (outside_support u v) (cell_on_support a b) (below_on_support u v))

-- ---- the two parts by the cell

not-or : (c d : Bool) → not (c || d) ≡ not c && not d
not-or c d = grind arith

pub every-within : Every (λ u v. not (outside_support u v)) (λ a b. not (cell_outside a b))
unfolding outside_support
every-within = record { none = refl; some = λ a b u v. not-or (cell_outside a b) (outside_support u v) }

pub every-on-support : Every below_on_support cell_on_support
unfolding below_on_support
every-on-support = record { none = refl; some = λ a b u v. refl }

-- ---- a fold that keeps whether all cells so far have passed
pub kept-all : {all : Vector → Vector → Bool} {test : ℤ → ℤ → Bool} → Every all test → (u v : Vector) → length u ≡ length v → (kept : Bool)
    → fold (λ (lies : Bool) (p : ℤ × ℤ). lies && test p.0 p.1) kept (zip u v) ≡ kept && all u v
kept-all {all} {test} rule [] [] h kept = sym (rw (rule.none, and-true kept))
kept-all {all} {test} rule [] (b ∷ v) h kept = absurd (omega arith)
kept-all {all} {test} rule (a ∷ u) [] h kept = absurd (omega arith)
kept-all {all} {test} rule (a ∷ u) (b ∷ v) h kept = kept-all rule u v (omega arith) (kept && test a b) ∙ rw (rule.some a b u v, and_assoc)
