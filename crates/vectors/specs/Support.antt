-- The two parts of the comparison of two vectors: the cells where the upper one is zero, and the others, its support
-- (Specification 2.3). Assumes nothing.
use Rattle.std.specs.Prelude.{Bool, true, false, ◌&&◌, ◌||◌, not, [], ◌∷◌, eqb, ℤ, nat_abs}
use Rattle.definitions.specs.Vector.{Vector, cell_below}

-- one cell: y is zero, and x is not
unfoldable pub cell_outside : (x y : ℤ) → Bool
cell_outside x y = eqb (nat_abs y) 0 && not (eqb (nat_abs x) 0)

-- some cell has an entry of v that is zero, and one of u that is not: u reaches outside the support of v
unfoldable pub outside_support : (u v : Vector) → Bool
outside_support [] v = false
outside_support (x ∷ u) [] = false
outside_support (x ∷ u) (y ∷ v) = let rest = outside_support u v in cell_outside x y || rest

-- one cell: if y is not zero, x lies below it
unfoldable pub cell_on_support : (x y : ℤ) → Bool
cell_on_support x y = eqb (nat_abs y) 0 || cell_below x y

-- u lies below v in every cell of the support of v
unfoldable pub below_on_support : (u v : Vector) → Bool
below_on_support [] [] = true
below_on_support [] (y ∷ v) = false
below_on_support (x ∷ u) [] = false
below_on_support (x ∷ u) (y ∷ v) = let rest = below_on_support u v in cell_on_support x y && rest
