-- Specification 4: the pieces of a vector. Assumes nothing.
use Rattle.std.specs.Prelude.{Bool, true, false, List, [], ◌∷◌, ◌++◌, ℕ, zero, suc, ◌/◌, min, ℤ, pos, negsuc, nat_abs, ◌*ℤ◌, eqb, if◌then◌else◌}
use Rattle.std.specs.Int.Signed.{non_neg}
use Rattle.definitions.specs.Vector.{Vector, negative, minus, scale, weight}
use Rattle.definitions.specs.Group.{Exchange, exchanged}

-- an image of a row of a list, and its place: the row, the position, + or −
pub record Image : Type 0 where
  pub row : ℕ
  pub position : ℕ
  pub positive : Bool
  pub vector : Vector

-- the images of v, which is row `row`: positions ascending from `position` on, + before −
unfoldable pub placed_orbit : (row position : ℕ) (table : List Exchange) → Vector → List Image
placed_orbit row position [] v = []
placed_orbit row position (s ∷ table) v =
    let u = exchanged s v in
    record { row = row; position = position; positive = true; vector = u }
    ∷ record { row = row; position = position; positive = false; vector = negative u }
    ∷ placed_orbit row (suc position) table v

-- the images of rows, which are numbered from `row` on
unfoldable pub placed_orbits : (row : ℕ) (table : List Exchange) (rows : List Vector) → List Image
placed_orbits row table [] = []
placed_orbits row table (v ∷ rows) = placed_orbit row 0 table v ++ placed_orbits (suc row) table rows

-- 4.1: an image, and how often it is taken
pub record Piece : Type 0 where
  pub image : Image
  pub count : ℕ

-- one cell: the greatest number up to `bound` for which that multiple of x lies below y
unfoldable pub cell_times : (bound : ℕ) (x y : ℤ) → ℕ
cell_times bound x y =
    if eqb (nat_abs x) 0 then bound
    else if non_neg (x *ℤ y) then min bound (nat_abs y / nat_abs x)
    else 0

unfoldable pub times_up_to : (bound : ℕ) (u v : Vector) → ℕ
times_up_to bound [] v = bound
times_up_to bound (x ∷ u) [] = bound
times_up_to bound (x ∷ u) (y ∷ v) = times_up_to (cell_times bound x y) u v

-- 4.1: the greatest number for which that multiple of u lies below v; for u not zero it is at most the weight of v
unfoldable pub times : (u v : Vector) → ℕ
times u v = times_up_to (weight v) u v

-- the pieces taken, and what remains
pub record Splitting : Type 0 where
  pub pieces : List Piece
  pub rest : Vector

unfoldable pub with_piece : Image → (count : ℕ) → Splitting → Splitting
with_piece image zero taken = taken
with_piece image (suc count) taken =
    record { pieces = record { image = image; count = suc count } ∷ taken.pieces; rest = taken.rest }

-- 4.1: each image in turn is taken from v as often as it fits
unfoldable pub splitting : (images : List Image) → Vector → Splitting
splitting [] v = record { pieces = []; rest = v }
splitting (image ∷ images) v =
    let count = times image.vector v in
    with_piece image count (splitting images (minus v (scale (pos count) image.vector)))

-- 4.1: 1 or −1
unfoldable pub sign : (positive : Bool) → ℤ
sign true = pos 1
sign false = negsuc 0

-- 4.1: the four numbers of a piece
unfoldable pub written : Piece → List ℤ
written piece =
    pos piece.image.row ∷ pos piece.image.position ∷ sign piece.image.positive ∷ pos piece.count ∷ []

-- what a piece adds to the sum
unfoldable pub share : Piece → Vector
share piece = scale (pos piece.count) piece.image.vector
