-- `reach` meets its contract. The invariant: the sum is that of the cells from `i` on, each less than 2 ^ 32.
-- Assumes nothing.
use Rattle.std.proofs.Common.{◌≡◌, true, ℕ, zero, suc, ◌<◌, [], ◌∷◌, length, arith, rules}
use Rattle.std.proofs.lemmas.Int.{ints}
use Rattle.theory.proofs.Tests.{and-true-left, and-true-right}
use Rattle.vectors.proofs.Cells.{false-true, none_below}
use Rattle.vectors.proofs.Kit.{cell_at}
use Rattle.definitions.specs.Vector.{Vector}
use Rattle.definitions.specs.Plan.{feasible, is_bounded}
use Rattle.costs.proofs.Sums.{reach-cell, reach-none}
use Rattle.costs.proofs.reach.Goals as goal

-- each entry of a plan that is within its bounds
feasible-at : (upper v : Vector) (i : ℕ) → feasible upper v ≡ true → i < length upper → is_bounded (cell_at upper i) (cell_at v i) ≡ true
unfolding feasible
feasible-at [] v i e h = none_below h
feasible-at (bound ∷ upper) [] i e h = false-true e
feasible-at (bound ∷ upper) (x ∷ v) zero e h = and-true-left (is_bounded bound x) (feasible upper v) e
feasible-at (bound ∷ upper) (x ∷ v) (suc i) e h =
    feasible-at upper v i (and-true-right (is_bounded bound x) (feasible upper v) e) (omega arith)

pub loop-i-init : goal.loop-i-init
loop-i-init c = search (rules, reach-none)

pub larger_part-requires : goal.larger_part-requires
larger_part-requires c = search (rules, feasible-at)

pub loop-i-preserved : goal.loop-i-preserved
loop-i-preserved c = (omega arith, grind (arith, ints, reach-cell))
