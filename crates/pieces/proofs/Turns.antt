-- What one turn of the loops over positions and over rows takes, and what is taken in the end (Specification 4.1).
-- Assumes nothing.
use mathlib.Core.Path.{◌≡◌, refl, sym, ap, ap₂, ◌∙◌, subst}
use mathlib.Core.List.{List, [], ◌∷◌, ◌++◌, append_assoc, append-nil}
use Prim.Native.Nat.{ℕ, suc, ◌+◌, ◌*◌, ◌≤◌, ◌<◌}
use native.Mathlib.Nat.{add-zero, zero-add, suc-mul, le-div_iff_mul-le}
use native.Mathlib.Numerals.{add-one}
use native.Mathlib.Omega.{arith}
use lib.IntN.{ℤ, pos}
use lib.ListN.{length, get_or, take, length-append}
use lib.Seq.{length-take-le, take-suc}
use Rattle.definitions.specs.Limits.{piece_width}
use Rattle.definitions.specs.Vector.{Vector}
use Rattle.definitions.specs.Group.{Exchange, exchanged}
use Rattle.definitions.specs.Split.{Image, Piece, placed_orbit, placed_orbits, splitting}
use Rattle.definitions.specs.Lent.{filled}
use Rattle.theory.proofs.Lists.{row-end}
use Rattle.pieces.specs.declared.Place.{Place}
use Rattle.pieces.specs.declared.Taken.{Taken}
use Rattle.pieces.specs.Taking.{laid, pair, Ready, Splits, Takes}
use Rattle.pieces.proofs.Laying.{laid_filled}
use Rattle.pieces.proofs.Joining.{ready-after, takes-append}

-- the part of a list that a loop has gone through
length_front : {A : Type 0} (l : List A) (i : ℕ) → i < length l → length (take i l) ≡ i
length_front l i h = length-take-le i l (omega arith)

-- ---- positions

-- a row and a position
abbrev pub place_at : (row position : ℕ) → Place
place_at row position = record { row = row; position = position }

-- two images for each
orbit-length : (row from : ℕ) (table : List Exchange) (v : Vector)
    → length (placed_orbit row from table v) ≡ 2 * length table
unfolding placed_orbit
orbit-length row from [] v = refl
orbit-length row from (s ∷ table) v = omega (arith, orbit-length row (suc from) table v)

-- some positions, and then others
orbit-append : (row from : ℕ) (table others : List Exchange) (v : Vector)
    → placed_orbit row from (table ++ others) v
    ≡ placed_orbit row from table v ++ placed_orbit row (from + length table) others v
unfolding placed_orbit
orbit-append row from [] others v = ap (λ (k : ℕ). placed_orbit row k others v) (sym (add-zero from))
orbit-append row from (s ∷ table) others v =
    let e : suc from + length table ≡ from + suc (length table) = omega arith in
    ap (λ (l : List Image). pair (place_at row from) (exchanged s v) ++ l)
    (orbit-append row (suc from) table others v
    ∙ ap (λ (k : ℕ). placed_orbit row (suc from) table v ++ placed_orbit row k others v) e)

module _ (row : ℕ) (table : List Exchange) (v : Vector) (p : ℕ) (left : p < length table) where
  -- one position more
  orbit-more : placed_orbit row 0 (take (p + 1) table) v
      ≡ placed_orbit row 0 (take p table) v ++ pair (place_at row p) (exchanged (get_or table p []) v)
  unfolding placed_orbit
  orbit-more =
      let e : 0 + length (take p table) ≡ p = omega (arith, length_front table p left) in
      ap (λ (k : ℕ). placed_orbit row 0 (take k table) v) (add-one p)
      ∙ ap (λ (l : List Exchange). placed_orbit row 0 l v) (take-suc table p [] left)
      ∙ orbit-append row 0 (take p table) (get_or table p [] ∷ []) v
      ∙ ap (λ (k : ℕ). placed_orbit row 0 (take p table) v ++ placed_orbit row k (get_or table p [] ∷ []) v) e

  -- the positions up to p are done
  abbrev OrbitDone : (t : Taken) (first second : List ℤ) (r : Taken) → Type 0
  OrbitDone t first second r = Takes (placed_orbit row 0 (take p table) v) t first second r

  module _ {t r : Taken} {first second : List ℤ} (done : OrbitDone t first second r) where
    -- there is room for two images more
    pub ready-position : {g : ℕ} → length table ≡ g → Ready (2 * g) t → Ready 2 r
    ready-position {g} e h =
        let l = orbit-length row 0 (take p table) v in
        ready-after 2 (2 * g) (omega (arith, length_front table p left)) h done

    -- and they are taken
    pub takes-position : (u : Vector) → u ≡ exchanged (get_or table p []) v → {s : Taken} {third : List ℤ}
        → Takes (pair (place_at row p) u) r second third s
        → Takes (placed_orbit row 0 (take (p + 1) table) v) t first third s
    takes-position u e {s} {third} a =
        subst (λ (l : List Image). Takes l t first third s)
        (ap (λ (u : Vector). placed_orbit row 0 (take p table) v ++ pair (place_at row p) u) e ∙ sym orbit-more)
        (takes-append done a)

-- ---- rows

-- two images for each row and position
orbits-length : (row : ℕ) (table : List Exchange) (rows : List Vector)
    → length (placed_orbits row table rows) ≡ length rows * (2 * length table)
unfolding placed_orbits
orbits-length row table [] = omega arith
orbits-length row table (v ∷ rows) =
    omega (
      arith,
      length-append (placed_orbit row 0 table v) (placed_orbits (suc row) table rows),
      orbit-length row 0 table v,
      orbits-length (suc row) table rows,
      suc-mul (length rows) (2 * length table),
    )

-- some rows, and then others
orbits-append : (row : ℕ) (table : List Exchange) (rows others : List Vector)
    → placed_orbits row table (rows ++ others)
    ≡ placed_orbits row table rows ++ placed_orbits (row + length rows) table others
unfolding placed_orbits
orbits-append row table [] others = ap (λ (k : ℕ). placed_orbits k table others) (sym (add-zero row))
orbits-append row table (v ∷ rows) others =
    let e : suc row + length rows ≡ row + suc (length rows) = omega arith in
    let mine = placed_orbits (suc row) table rows in
    ap (λ (l : List Image). placed_orbit row 0 table v ++ l)
    (orbits-append (suc row) table rows others ∙ ap (λ (k : ℕ). mine ++ placed_orbits k table others) e)
    ∙ sym (append_assoc (placed_orbit row 0 table v) mine (placed_orbits (row + suc (length rows)) table others))

module _ (table : List Exchange) (rows : List Vector) (i : ℕ) (left : i < length rows) where
  -- one row more
  orbits-more : placed_orbits 0 table (take (i + 1) rows)
      ≡ placed_orbits 0 table (take i rows) ++ placed_orbit i 0 table (get_or rows i [])
  unfolding placed_orbits
  orbits-more =
      let e : 0 + length (take i rows) ≡ i = omega (arith, length_front rows i left) in
      ap (λ (k : ℕ). placed_orbits 0 table (take k rows)) (add-one i)
      ∙ ap (placed_orbits 0 table) (take-suc rows i [] left)
      ∙ orbits-append 0 table (take i rows) (get_or rows i [] ∷ [])
      ∙ ap (λ (k : ℕ). placed_orbits 0 table (take i rows) ++ (placed_orbit k 0 table (get_or rows i []) ++ [])) e
      ∙ ap (λ (l : List Image). placed_orbits 0 table (take i rows) ++ l)
      (append-nil (placed_orbit i 0 table (get_or rows i [])))

  -- the rows up to i are done
  abbrev OrbitsDone : (t : Taken) (first second : List ℤ) (r : Taken) → Type 0
  OrbitsDone t first second r = Takes (placed_orbits 0 table (take i rows)) t first second r

  module _ {t r : Taken} {first second : List ℤ} (done : OrbitsDone t first second r) where
    -- there is room for the images of a row more
    pub ready-row : {k g : ℕ} → length rows ≡ k → length table ≡ g → Ready (k * (2 * g)) t → Ready (2 * g) r
    ready-row {k} {g} e f h =
        let before : length (placed_orbits 0 table (take i rows)) ≡ i * (2 * g) =
        orbits-length 0 table (take i rows) ∙ ap₂ (λ (a b : ℕ). a * (2 * b)) (length_front rows i left) f in
        ready-after (2 * g) (k * (2 * g)) (omega (arith, before, row-end i k (2 * g) (omega arith))) h done

    -- and they are taken
    pub takes-row : (v : Vector) → v ≡ get_or rows i [] → {s : Taken} {third : List ℤ}
        → Takes (placed_orbit i 0 table v) r second third s
        → Takes (placed_orbits 0 table (take (i + 1) rows)) t first third s
    takes-row v e {s} {third} a =
        subst (λ (l : List Image). Takes l t first third s)
        (ap (λ (v : Vector). placed_orbits 0 table (take i rows) ++ placed_orbit i 0 table v) e ∙ sym orbits-more)
        (takes-append done a)

-- ---- all images taken from v, with an area that was cleared first
pub takes_all : {images : List Image} (v : Vector) (size : ℕ) {cleared area : List ℤ} {r : Taken}
    → cleared ≡ filled (pos 0) size [] → Takes images (record { rest = v; count = 0 }) cleared area r
    → Splits images v size area r
takes_all {images} v size {area = area} {r = r} e a = record {
  rest = a.remains;
  count = count-is;
  lies = whole;
  held = λ h.
      let wide : 0 < piece_width = omega arith in
      let room : length pieces * piece_width ≤ size = (le-div_iff_mul-le wide).0 (omega (arith, count-is)) in
      whole ∙ laid_filled size [] 0 pieces (omega arith) (omega arith);
}
  where
    pieces : List Piece
    pieces = (splitting images v).pieces

    whole : area ≡ laid (filled (pos 0) size []) 0 pieces
    whole = a.lies ∙ ap (λ (x : List ℤ). laid x 0 pieces) e

    count-is : r.count ≡ length pieces
    count-is = a.counted ∙ zero-add (length pieces)
