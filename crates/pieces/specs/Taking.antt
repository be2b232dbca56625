-- Pieces taken image by image, and the area that they are written to (Specification 4.1). Assumes nothing.
use Rattle.std.specs.Prelude.{◌≡◌, Bool, true, false, cond, List, [], ◌∷◌, map, ℕ, suc, ◌+◌, ◌*◌, ◌/◌, ◌≤◌, ◌<◌, ltb, ℤ, pos, length}
use Rattle.std.proofs.Math.Seq.{paste}
use Rattle.definitions.specs.Limits.{cells, group_limit, list_limit, piece_width, split_limit}
use Rattle.definitions.specs.Lists.{concat}
use Rattle.definitions.specs.Vector.{Vector, negative, scale, within}
use Rattle.definitions.specs.Split.{Image, Piece, placed_orbits, sign, splitting, times, written}
use Rattle.definitions.specs.Lent.{filled}
use Rattle.theory.proofs.Below.{◌⊑◌}
use Rattle.vectors.specs.Areas.{LentMut}
use Rattle.reduction.specs.declared.Shape.{Shape}
use Rattle.reduction.specs.Areas.{Area, Table, rows_at, sequences_in}
use Rattle.pieces.specs.declared.Place.{Place}
use Rattle.pieces.specs.declared.Taken.{Taken}

-- the place of an image is that of a row and a position within the limits
pub record Placed (place : Place) : Type 0 where
  pub row : place.row < list_limit
  pub position : place.position < group_limit

-- an image with its place
abbrev pub image_at : Place → (positive : Bool) → Vector → Image
image_at place positive u =
    record { row = place.row; position = place.position; positive = positive; vector = u }

-- the two images of a position
abbrev pub pair : Place → Vector → List Image
pair place u = image_at place true u ∷ image_at place false (negative u) ∷ []

-- the images of the first k rows of a list, in turn
abbrev pub images_in : Shape → (k : ℕ) (table : List ℕ) (list : List ℤ) → List Image
images_in shape k table list = placed_orbits 0 (sequences_in shape table) (rows_at shape.n k list)

-- the first k rows of a list and a group's table, within the limits
pub record Listed (shape : Shape) (k : ℕ) (table : List ℕ) (list : List ℤ) : Type 0 where
  pub is_table : Table shape table
  pub area : Area shape.n k list
  pub few_rows : k ≤ list_limit
  pub few_members : shape.g ≤ group_limit

-- the most pieces of a vector: each image of each row is one at most
abbrev pub piece_limit : ℕ
piece_limit = list_limit * (2 * group_limit)

-- an image is taken at most so often: this bounds the weight of a vector to split
abbrev pub count_limit : ℕ
count_limit = cells * split_limit

-- the number of times that u is taken from v: that multiple lies below v, and the number is small
pub record Most (u v : Vector) (count : ℕ) : Type 0 where
  pub greatest : count ≡ times u v
  pub lies : scale (pos count) u ⊑ v
  pub few : count ≤ count_limit

-- the four numbers of a piece
abbrev pub four_numbers : Place → (positive : Bool) (count : ℕ) → List ℤ
four_numbers place positive count = pos place.row ∷ pos place.position ∷ sign positive ∷ pos count ∷ []

-- the pieces area with the numbers of piece `count` written, where it has room for them
abbrev pub with_numbers : (area : List ℤ) (count : ℕ) (numbers : List ℤ) → List ℤ
with_numbers area count numbers =
    cond (ltb count (length area / piece_width)) (paste area (count * piece_width) numbers piece_width) area

-- the pieces area with pieces written from piece `count` on, as far as it has room
unfoldable pub laid : (area : List ℤ) (count : ℕ) (pieces : List Piece) → List ℤ
laid area count [] = area
laid area count (piece ∷ pieces) = laid (with_numbers area count (written piece)) (suc count) pieces

-- what remains is a vector, as small as one to split, and so many images may yet be tried
pub record Ready (images : ℕ) (t : Taken) : Type 0 where
  pub long : length t.rest ≡ cells
  pub limited : within split_limit t.rest ≡ true
  pub few : t.count + images ≤ piece_limit

-- each image in turn was taken from what remained, its piece counted, and written where there is room
pub record Takes (images : List Image) (t : Taken) (area area' : List ℤ) (r : Taken) : Type 0 where
  pub remains : r.rest ≡ (splitting images t.rest).rest
  pub counted : r.count ≡ t.count + length (splitting images t.rest).pieces
  pub lies : area' ≡ laid area t.count (splitting images t.rest).pieces
  pub lower : r.rest ⊑ t.rest

-- .. written to a lent area
abbrev pub TakesTo : (pieces : LentMut ℤ) (images : List Image) (t r : Taken) → Type 0
TakesTo pieces images t r = Takes images t pieces.entry.now pieces.exit.now r

-- 4.1: all images were taken from v, and the cleared area holds the pieces as far as it has room; where it has room
-- for all, zeros stand behind
pub record Splits (images : List Image) (v : Vector) (size : ℕ) (area : List ℤ) (r : Taken) : Type 0 where
  pub rest : r.rest ≡ (splitting images v).rest
  pub count : r.count ≡ length (splitting images v).pieces
  pub lies : area ≡ laid (filled (pos 0) size []) 0 (splitting images v).pieces
  pub held : r.count ≤ size / piece_width
      → area ≡ filled (pos 0) size (concat (map written (splitting images v).pieces))

-- .. in a lent area
abbrev pub SplitsTo : (pieces : LentMut ℤ) (images : List Image) (v : Vector) (r : Taken) → Type 0
SplitsTo pieces images v r = Splits images v (length pieces.entry.now) pieces.exit.now r
