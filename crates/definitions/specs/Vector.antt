-- Specification 2.1 and 2.3: vectors of whole numbers. Assumes nothing.
use Rattle.std.specs.Prelude.{Bool, true, false, ◌&&◌, ◌||◌, not, List, [], ◌∷◌, ◌++◌, ℕ, ◌+◌, ◌-◌, max, ℤ, pos, negsuc, nat_abs, neg_ℤ, ◌+ℤ◌, ◌*ℤ◌, leb, eqb, length, replicate, if◌then◌else◌}
use Rattle.std.specs.Int.Signed.{non_neg, lt_z}
use Rattle.definitions.specs.Limits.{cells}
use Rattle.definitions.specs.Lists.{every, any}

-- 2.1: `cells` numbers, those past the order's own cells zero
abbrev pub Vector : Type 0
Vector = List ℤ

-- 2.1: numbers with zeros behind them
unfoldable pub padded : List ℤ → Vector
padded numbers = numbers ++ replicate (cells - length numbers) (pos 0)

-- n zeros
unfoldable pub zeros : (n : ℕ) → Vector
zeros n = replicate n (pos 0)

unfoldable pub zero_vector : Vector
zero_vector = zeros cells

-- sum, negative, difference and multiple, cell by cell
unfoldable pub plus : Vector → Vector → Vector
plus [] v = []
plus (x ∷ u) [] = []
plus (x ∷ u) (y ∷ v) = (x +ℤ y) ∷ plus u v

unfoldable pub negative : Vector → Vector
negative [] = []
negative (x ∷ v) = neg_ℤ x ∷ negative v

unfoldable pub minus : Vector → Vector → Vector
minus u v = plus u (negative v)

unfoldable pub scale : ℤ → Vector → Vector
scale c [] = []
scale c (x ∷ v) = (c *ℤ x) ∷ scale c v

-- the sum of some vectors
unfoldable pub total : List Vector → Vector
total [] = zero_vector
total (v ∷ vectors) = plus v (total vectors)

-- v less each of some more
unfoldable pub minus_all : Vector → List Vector → Vector
minus_all v [] = v
minus_all v (u ∷ vectors) = minus_all (minus v u) vectors

-- 2.1: the sum of the absolute values
unfoldable pub weight : Vector → ℕ
weight [] = 0
weight (x ∷ v) = nat_abs x + weight v

-- the sum of the positive entries
unfoldable pub positive_sum : Vector → ℕ
positive_sum [] = 0
positive_sum (pos a ∷ v) = a + positive_sum v
positive_sum (negsuc a ∷ v) = positive_sum v

-- 2.1: the larger of the sum of the positive entries and that of the negative entries without their signs
unfoldable pub degree : Vector → ℕ
degree v = max (positive_sum v) (positive_sum (negative v))

-- no entry is past ±limit
unfoldable pub within : (limit : ℕ) → Vector → Bool
within limit v = every (λ x. leb (nat_abs x) limit) v

unfoldable pub is_zero : Vector → Bool
is_zero v = within 0 v

-- 2.3, one cell: the product is not negative, and x is at most y in absolute value
unfoldable pub cell_below : (x y : ℤ) → Bool
cell_below x y = non_neg (x *ℤ y) && leb (nat_abs x) (nat_abs y)

-- 2.3: u lies below v
unfoldable pub below : (u v : Vector) → Bool
below [] [] = true
below [] (y ∷ v) = false
below (x ∷ u) [] = false
below (x ∷ u) (y ∷ v) = let rest = below u v in cell_below x y && rest

-- 2.3, one cell: the product is negative, or y is zero and x is not
unfoldable pub cell_opposes : (x y : ℤ) → Bool
cell_opposes x y = not (non_neg (x *ℤ y)) || (eqb (nat_abs y) 0 && not (eqb (nat_abs x) 0))

-- 2.3: u opposes v in some cell
unfoldable pub opposes : (u v : Vector) → Bool
opposes [] v = false
opposes (x ∷ u) [] = false
opposes (x ∷ u) (y ∷ v) = let rest = opposes u v in cell_opposes x y || rest

-- the same number, and the same vector
unfoldable pub equal_cell : (x y : ℤ) → Bool
equal_cell (pos a) (pos b) = eqb a b
equal_cell (pos a) (negsuc b) = false
equal_cell (negsuc a) (pos b) = false
equal_cell (negsuc a) (negsuc b) = eqb a b

unfoldable pub equal : (u v : Vector) → Bool
equal [] [] = true
equal [] (y ∷ v) = false
equal (x ∷ u) [] = false
equal (x ∷ u) (y ∷ v) = let rest = equal u v in equal_cell x y && rest

unfoldable pub is_member : Vector → List Vector → Bool
is_member v vectors = any (λ u. equal u v) vectors

-- 2.1: u is lexicographically greater than v
unfoldable pub greater : (u v : Vector) → Bool
greater [] v = false
greater (x ∷ u) [] = false
greater (x ∷ u) (y ∷ v) = let rest = greater u v in if lt_z y x then true else if lt_z x y then false else rest
