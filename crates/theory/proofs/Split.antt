-- Split (Specification 4): the pieces and what remains add up, no piece opposes the vector, and nothing remains exactly of a lattice vector.
-- Assumes nothing.
use mathlib.Core.Path.{◌≡◌, refl, sym, ◌∙◌, ap, subst, ap₂}
use mathlib.Core.Logic.{◌⊎◌, inl, inr, ◌↔◌}
use mathlib.Core.Bool.{Bool, true, false}
use mathlib.Core.List.{List, [], ◌∷◌, map, map-append, Memᴰ, ◌++◌}
use Prim.Native.Nat.{ℕ, zero, suc, ◌≤◌, ◌<◌, ◌+◌}
use lib.IntN.{ℤ, pos, ◌+ℤ◌, ◌*ℤ◌, neg_ℤ}
use lib.ListN.{length, get_or}
use native.Mathlib.Omega.{arith}
use native.Mathlib.Nat as NatL
use Rattle.definitions.specs.Limits.{cells}
use Rattle.definitions.specs.Vector.{Vector, below, minus, negative, plus, scale, total, weight, zero_vector}
use Rattle.definitions.specs.Lattice.{InLattice}
use Rattle.definitions.specs.Group.{Exchange, exchanged}
use Rattle.definitions.specs.Orbit.{orbit, orbits, signed}
use Rattle.definitions.specs.Completion.{remainder}
use Rattle.definitions.specs.Split.{Image, Piece, Splitting, placed_orbit, placed_orbits, share, splitting, times, with_piece}
use Rattle.definitions.specs.Demands.{SplitKept, Whole}
use Rattle.theory.proofs.Lists.{mem-map}
use Rattle.theory.proofs.Members.{Each, each-cons, each-image, each_map, each_member, each_nil, each_of}
use Rattle.theory.proofs.Cell.{CellBelow, apart, balance, down-neg, up_neg}
use Rattle.theory.proofs.Vector.{length-minus, negative-plus, negative-zero, plus_assoc, plus-minus, plus-zero, zero-plus}
use Rattle.theory.proofs.Below.{◌⊑◌, cons-below, head-below, tail-below, unopposed, weight-rest, ⊑-rest, ⊑_trans, ⊑-weight}
use Rattle.theory.proofs.Conformal.{length-total}
use Rattle.theory.proofs.Lattice.{length-scale, scale_one, scale-plus, scale-zero}
use Rattle.theory.proofs.Reduction.{one_pass, reduce-one-pass, reduced-conformal, take_no, take-yes, take_within}
use Rattle.theory.proofs.Complete.{lattice-total}
use Rattle.theory.proofs.Symmetric.{Symmetric, inside-length}
use Rattle.theory.proofs.Whole.{Stored, orbits-inside, orbits-positive, whole-reduces}
use Rattle.theory.proofs.Times.{down-times, times-greatest, up-times}

-- ---- multiples, cell by cell
cell-first : (c : ℕ) (x y : ℤ) → CellBelow (pos (suc c) *ℤ x) y → CellBelow x y
cell-first c x y h = record { rise = omega (arith, h.rise, up-times (suc c) x); fall = omega (arith, h.fall, down-times (suc c) x) }

cell-later : (c : ℕ) (x y : ℤ) → CellBelow (pos (suc c) *ℤ x) y → CellBelow (pos c *ℤ x) (y +ℤ neg_ℤ x)
cell-later c x y h = record {
  rise = omega (arith, h.rise, h.fall, up-times (suc c) x, up-times c x, down-times (suc c) x, balance y (neg_ℤ x), up_neg x, down-neg x, apart (y +ℤ neg_ℤ x), apart x, apart y);
  fall = omega (arith, h.rise, h.fall, down-times (suc c) x, down-times c x, up-times (suc c) x, balance y (neg_ℤ x), up_neg x, down-neg x, apart (y +ℤ neg_ℤ x), apart x, apart y);
}

cell_join : (c : ℕ) (x y : ℤ) → CellBelow x y → CellBelow (pos c *ℤ x) (y +ℤ neg_ℤ x) → CellBelow (pos (suc c) *ℤ x) y
cell_join c x y h k = record {
  rise = omega (arith, h.rise, h.fall, k.rise, up-times (suc c) x, up-times c x, balance y (neg_ℤ x), up_neg x, down-neg x, apart (y +ℤ neg_ℤ x), apart y);
  fall = omega (arith, h.rise, h.fall, k.fall, down-times (suc c) x, down-times c x, balance y (neg_ℤ x), up_neg x, down-neg x, apart (y +ℤ neg_ℤ x), apart y);
}

pub multiple-first : (c : ℕ) (g s : Vector) → scale (pos (suc c)) g ⊑ s → g ⊑ s
unfolding scale below
multiple-first c [] [] h = h
multiple-first c [] (y ∷ s) h = absurd h.test
multiple-first c (x ∷ g) [] h = absurd h.test
multiple-first c (x ∷ g) (y ∷ s) h = cons-below (cell-first c x y (head-below h)) (multiple-first c g s (tail-below h))

multiple-later : (c : ℕ) (g s : Vector) → scale (pos (suc c)) g ⊑ s → scale (pos c) g ⊑ minus s g
unfolding scale minus plus negative below
multiple-later c [] [] h = h
multiple-later c [] (y ∷ s) h = absurd h.test
multiple-later c (x ∷ g) [] h = absurd h.test
multiple-later c (x ∷ g) (y ∷ s) h = cons-below (cell-later c x y (head-below h)) (multiple-later c g s (tail-below h))

multiple-join : (c : ℕ) (g s : Vector) → g ⊑ s → scale (pos c) g ⊑ minus s g → scale (pos (suc c)) g ⊑ s
unfolding scale minus plus negative below
multiple-join c [] [] h k = h
multiple-join c [] (y ∷ s) h k = absurd h.test
multiple-join c (x ∷ g) [] h k = absurd h.test
multiple-join c (x ∷ g) (y ∷ s) h k = cons-below (cell_join c x y (head-below h) (head-below k)) (multiple-join c g s (tail-below h) (tail-below k))

one_more : (c : ℕ) (g : Vector) → scale (pos (suc c)) g ≡ plus g (scale (pos c) g)
one_more c g =
    let e : pos 1 +ℤ pos c ≡ pos (suc c) = ap pos (omega arith) in
    ap (λ (z : ℤ). scale z g) (sym e) ∙ scale-plus (pos 1) (pos c) g ∙ ap (λ (w : Vector). plus w (scale (pos c) g)) (scale_one g)

pub none-taken : (g s : Vector) → length g ≡ cells → length s ≡ cells → minus s (scale (pos zero) g) ≡ s
unfolding minus
none-taken g s q p = ap (λ (w : Vector). plus s (negative w)) (scale-zero g q) ∙ ap (plus s) negative-zero ∙ plus-zero s p

-- one taken, and then c more
less-more : (g : Vector) (c : ℕ) (s : Vector) → minus (minus s g) (scale (pos c) g) ≡ minus s (scale (pos (suc c)) g)
unfolding minus
less-more g c s = plus_assoc s (negative g) (negative (scale (pos c) g)) ∙ ap (plus s) (sym (negative-plus g (scale (pos c) g)) ∙ ap negative (sym (one_more c g)))

-- ---- the repeated subtraction of the one pass is one subtraction of the greatest multiple
module _ (g : Vector) (sized : length g ≡ cells) (positive : zero < weight g) where
  take-multiple : (k c : ℕ) (s : Vector) → length s ≡ cells → weight s ≤ k → scale (pos c) g ⊑ s → ¬ (scale (pos (suc c)) g ⊑ s) → take_within k g s ≡ minus s (scale (pos c) g)
  take-multiple k zero s p b h f = take_no k (λ (l : g ⊑ s). f (subst (λ (w : Vector). w ⊑ s) (sym (scale_one g)) l)) ∙ sym (none-taken g s sized p)
  take-multiple zero (suc c) s p b h f = absurd (omega (arith, ⊑-weight (multiple-first c g s h)))
  take-multiple (suc k) (suc c) s p b h f =
      let l = multiple-first c g s h in
      take-yes k l
      ∙ take-multiple k c (minus s g) (length-minus cells s g p sized) (omega (arith, weight-rest l)) (multiple-later c g s h) (λ m. f (multiple-join (suc c) g s l m))
      ∙ less-more g c s

  pub times_below : (s : Vector) → length s ≡ cells → scale (pos (times g s)) g ⊑ s
  times_below s p = record { test = (times-greatest g s (times g s) (sized ∙ sym p) positive).1 (NatL.le_refl (times g s)) }

  take-times : (s : Vector) → length s ≡ cells → take_within (weight s) g s ≡ minus s (scale (pos (times g s)) g)
  take-times s p = take-multiple (weight s) (times g s) s p (NatL.le_refl (weight s)) (times_below s p)
      (λ h. let k = (times-greatest g s (suc (times g s)) (sized ∙ sym p) positive).0 h.test in omega (arith, k))

-- ---- the pass over images with their places
abbrev pub Fit : Image → Type 0
Fit image = (length image.vector ≡ cells) × (zero < weight image.vector)

-- what remains when so many of an image are taken
abbrev after : Image → Vector → Vector
after image s = minus s (scale (pos (times image.vector s)) image.vector)

length-after : (image : Image) (s : Vector) → Fit image → length s ≡ cells → length (after image s) ≡ cells
length-after image s f p = length-minus cells s (scale (pos (times image.vector s)) image.vector) p (length-scale (pos (times image.vector s)) image.vector ∙ f.0)

rest-kept : (image : Image) (count : ℕ) (taken : Splitting) → (with_piece image count taken).rest ≡ taken.rest
unfolding with_piece
rest-kept image zero taken = refl
rest-kept image (suc count) taken = refl

pub splitting-pass : {images : List Image} → Each Fit images → (s : Vector) → length s ≡ cells → (splitting images s).rest ≡ one_pass (map (λ image. image.vector) images) s
unfolding splitting one_pass
splitting-pass each_nil s p = refl
splitting-pass (each-cons {x = image} {xs = images} f t) s p =
    rest-kept image (times image.vector s) (splitting images (after image s))
    ∙ splitting-pass t (after image s) (length-after image s f p)
    ∙ ap (one_pass (map (λ image. image.vector) images)) (sym (take-times image.vector f.0 f.1 s p))

-- the pieces and what remains add up
pub splitting-sum : {images : List Image} → Each Fit images → (s : Vector) → length s ≡ cells → plus (total (map share (splitting images s).pieces)) (splitting images s).rest ≡ s
unfolding splitting total with_piece share
splitting-sum each_nil s p = zero-plus s p
splitting-sum (each-cons {x = image} {xs = images} f t) s p =
    go (times image.vector s) (splitting images (after image s)) (splitting-sum t (after image s) (length-after image s f p))
  where
    go : (count : ℕ) (taken : Splitting) → plus (total (map share taken.pieces)) taken.rest ≡ minus s (scale (pos count) image.vector)
        → plus (total (map share (with_piece image count taken).pieces)) (with_piece image count taken).rest ≡ s
    go zero taken e = e ∙ none-taken image.vector s f.0 p
    go (suc count) taken e =
        plus_assoc (scale (pos (suc count)) image.vector) (total (map share taken.pieces)) taken.rest
        ∙ ap (plus (scale (pos (suc count)) image.vector)) e
        ∙ plus-minus cells s (scale (pos (suc count)) image.vector) p (length-scale (pos (suc count)) image.vector ∙ f.0)

-- ---- the pieces
pub record Taken (images : List Image) (s : Vector) (piece : Piece) : Type 0 where
  pub listed : Memᴰ piece.image images
  pub counted : 0 < piece.count
  pub lies : piece.image.vector ⊑ s
  pub fits : share piece ⊑ s

pub splitting-pieces : {images : List Image} → Each Fit images → (s : Vector) → length s ≡ cells → (piece : Piece) → Memᴰ piece (splitting images s).pieces → Taken images s piece
unfolding splitting with_piece share
splitting-pieces each_nil s p piece k = absurd (mathlib.Core.List.Memᴰ.not-nil k)
splitting-pieces (each-cons {x = image} {xs = images} f t) s p piece k =
    go (times image.vector s) (times_below image.vector f.0 f.1 s p) (splitting images (after image s)) (λ l. splitting-pieces t (after image s) (length-after image s f p) piece l) k
  where
    lower : (count : ℕ) → scale (pos count) image.vector ⊑ s → minus s (scale (pos count) image.vector) ⊑ s
    lower count h = ⊑-rest h

    deeper : Taken images (after image s) piece → Taken (image ∷ images) s piece
    deeper x =
        let less = lower (times image.vector s) (times_below image.vector f.0 f.1 s p) in
        record { listed = mathlib.Core.List.Memᴰ.tail x.listed; counted = x.counted; lies = ⊑_trans x.lies less; fits = ⊑_trans x.fits less }

    pick : (count : ℕ) → scale (pos (suc count)) image.vector ⊑ s → (taken : Splitting) → (Memᴰ piece taken.pieces → Taken images (after image s) piece)
        → (piece ≡ record { image = image; count = suc count }) ⊎ Memᴰ piece taken.pieces → Taken (image ∷ images) s piece
    pick count h taken again (inl e) = record {
      listed = mathlib.Core.List.Memᴰ.head (ap (λ (x : Piece). x.image) e);
      counted = omega (arith, ap (λ (x : Piece). x.count) e);
      lies = subst (λ (x : Piece). x.image.vector ⊑ s) (sym e) (multiple-first count image.vector s h);
      fits = subst (λ (x : Piece). share x ⊑ s) (sym e) h;
    }
    pick count h taken again (inr l) = deeper (again l)

    go : (count : ℕ) → scale (pos count) image.vector ⊑ s → (taken : Splitting) → (Memᴰ piece taken.pieces → Taken images (after image s) piece)
        → Memᴰ piece (with_piece image count taken).pieces → Taken (image ∷ images) s piece
    go zero h taken again k = deeper (again k)
    go (suc count) h taken again k = pick count h taken again (mathlib.Core.List.Memᴰ.cases_cons k)

-- ---- the images of a list with their places
pub placed-vectors : (row : ℕ) (table : List Exchange) (rows : List Vector) → map (λ image. image.vector) (placed_orbits row table rows) ≡ orbits table rows
unfolding placed_orbits orbits orbit placed_orbit
placed-vectors row table [] = refl
placed-vectors row table (v ∷ rows) =
    map-append (λ image. image.vector) (placed_orbit row 0 table v) (placed_orbits (suc row) table rows) ∙ ap₂ ◌++◌ (one 0 table) (placed-vectors (suc row) table rows)
  where
    one : (position : ℕ) (table : List Exchange) → map (λ image. image.vector) (placed_orbit row position table v) ≡ orbit table v
    one position [] = refl
    one position (s ∷ table) = ap (λ (l : List Vector). exchanged s v ∷ negative (exchanged s v) ∷ l) (one (suc position) table)

-- an image of row `first + k` at position `from + p`
pub record Placed (first from : ℕ) (table : List Exchange) (rows : List Vector) (image : Image) : Type 0 where
  pub k : ℕ
  pub p : ℕ
  pub row : image.row ≡ first + k
  pub position : image.position ≡ from + p
  pub row_in : k < length rows
  pub position_in : p < length table
  pub is : image.vector ≡ signed image.positive (exchanged (get_or table p []) (get_or rows k []))

placed_one : (row from : ℕ) (table : List Exchange) (v : Vector) (image : Image) → Memᴰ image (placed_orbit row from table v) → Placed row from table (v ∷ []) image
unfolding placed_orbit signed
placed_one row from [] v image m = absurd (mathlib.Core.List.Memᴰ.not-nil m)
placed_one row from (s ∷ table) v image m = start (mathlib.Core.List.Memᴰ.cases_cons m) (λ l. placed_one row (suc from) table v image l)
  where
    at : (b : Bool) (u : Vector) → u ≡ signed b (exchanged s v) → image ≡ record { row = row; position = from; positive = b; vector = u } → Placed row from (s ∷ table) (v ∷ []) image
    at b u q e = subst (Placed row from (s ∷ table) (v ∷ [])) (sym e)
        (record { k = 0; p = 0; row = omega arith; position = omega arith; row_in = omega arith; position_in = omega arith; is = q })

    further : Placed row (suc from) table (v ∷ []) image → Placed row from (s ∷ table) (v ∷ []) image
    further x = record { k = x.k; p = suc x.p; row = x.row; position = omega (arith, x.position); row_in = x.row_in; position_in = omega (arith, x.position_in); is = x.is }

    second : (image ≡ record { row = row; position = from; positive = false; vector = negative (exchanged s v) }) ⊎ Memᴰ image (placed_orbit row (suc from) table v)
        → (Memᴰ image (placed_orbit row (suc from) table v) → Placed row (suc from) table (v ∷ []) image) → Placed row from (s ∷ table) (v ∷ []) image
    second (inl e) again = at false (negative (exchanged s v)) refl e
    second (inr l) again = further (again l)

    start : (image ≡ record { row = row; position = from; positive = true; vector = exchanged s v }) ⊎ Memᴰ image (record { row = row; position = from; positive = false; vector = negative (exchanged s v) } ∷ placed_orbit row (suc from) table v)
        → (Memᴰ image (placed_orbit row (suc from) table v) → Placed row (suc from) table (v ∷ []) image) → Placed row from (s ∷ table) (v ∷ []) image
    start (inl e) again = at true (exchanged s v) refl e
    start (inr l) again = second (mathlib.Core.List.Memᴰ.cases_cons l) again

pub placed : (row : ℕ) (table : List Exchange) (rows : List Vector) (image : Image) → Memᴰ image (placed_orbits row table rows) → Placed row 0 table rows image
unfolding placed_orbits
placed row table [] image m = absurd (mathlib.Core.List.Memᴰ.not-nil m)
placed row table (v ∷ rows) image m = go (mathlib.Core.List.Memᴰ.append_cases (placed_orbit row 0 table v) m) (λ l. placed (suc row) table rows image l)
  where
    own : Placed row 0 table (v ∷ []) image → Placed row 0 table (v ∷ rows) image
    own x = let z : x.k ≡ 0 = omega (arith, x.row_in) in record {
      k = 0;
      p = x.p;
      row = omega (arith, x.row);
      position = x.position;
      row_in = omega arith;
      position_in = x.position_in;
      is = x.is ∙ ap (λ (k : ℕ). signed image.positive (exchanged (get_or table x.p []) (get_or (v ∷ []) k []))) z;
    }

    further : Placed (suc row) 0 table rows image → Placed row 0 table (v ∷ rows) image
    further x = record { k = suc x.k; p = x.p; row = omega (arith, x.row); position = x.position; row_in = omega (arith, x.row_in); position_in = x.position_in; is = x.is }

    go : Memᴰ image (placed_orbit row 0 table v) ⊎ Memᴰ image (placed_orbits (suc row) table rows) → (Memᴰ image (placed_orbits (suc row) table rows) → Placed (suc row) 0 table rows image) → Placed row 0 table (v ∷ rows) image
    go (inl l) again = own (placed_one row 0 table v image l)
    go (inr l) again = further (again l)

-- ---- SPLIT over a whole list
module _ {n : ℕ} {sent table : List Exchange} {generators : List Vector} (O : Symmetric n sent table generators) (rows : List Vector) (S : Stored O rows) where
  -- each image of a stored row can be taken
  pub fit-images : Each Fit (placed_orbits 0 table rows)
  fit-images = each_of (placed_orbits 0 table rows) (λ image k.
      let m : Memᴰ image.vector (orbits table rows) = subst (Memᴰ image.vector) (placed-vectors 0 table rows) (mem-map (λ image. image.vector) (placed_orbits 0 table rows) k) in
      (inside-length O (each_member (orbits-inside O rows S) m), each_member (orbits-positive O rows S) m))

  -- what remains is the remainder
  pub split_rest : (v : Vector) → length v ≡ cells → (splitting (placed_orbits 0 table rows) v).rest ≡ remainder table rows v
  unfolding remainder
  split_rest v p =
      splitting-pass fit-images v p ∙ ap (λ (l : List Vector). one_pass l v) (placed-vectors 0 table rows) ∙ sym (reduce-one-pass (orbits table rows) v (orbits-positive O rows S))

  -- NOTHING REMAINS EXACTLY OF A LATTICE VECTOR
  pub split-exact : Whole n sent generators rows → (v : Vector) → length v ≡ cells → ((splitting (placed_orbits 0 table rows) v).rest ≡ zero_vector) ↔ InLattice generators v
  unfolding remainder
  split-exact W v p = (
    λ e. let c = reduced-conformal (orbits table rows) (orbits-positive O rows S) v p (sym (split_rest v p) ∙ e) in
        subst (InLattice generators) c.adds-up (lattice-total generators O.sizes (each_map (λ u k. each_member (orbits-inside O rows S) k) c.members)),
    λ h. split_rest v p ∙ whole-reduces O rows S W v h,
  )

  -- THE PIECES ADD UP, and none opposes the vector in any cell
  pub split-kept : (v : Vector) → length v ≡ cells → (splitting (placed_orbits 0 table rows) v).rest ≡ zero_vector → SplitKept table rows v (splitting (placed_orbits 0 table rows) v).pieces
  unfolding share
  split-kept v p e = record {
    adds_up = sym (plus-zero (total (map share pieces)) sized) ∙ ap (plus (total (map share pieces))) (sym e) ∙ splitting-sum fit-images v p;
    each = λ piece k.
        let t = splitting-pieces fit-images v p piece k in
        let x = placed 0 table rows piece.image t.listed in
        let row_is : x.k ≡ piece.image.row = omega (arith, x.row) in
        let position-is : x.p ≡ piece.image.position = omega (arith, x.position) in
        record {
          row = omega (arith, x.row, x.row_in);
          position = omega (arith, x.position, x.position_in);
          image = x.is ∙ (λ i. signed piece.image.positive (exchanged (get_or table (position-is i) []) (get_or rows (row_is i) [])));
          taken = t.counted;
          conforms = unopposed t.lies;
        };
  }
    where
      pieces : List Piece
      pieces = (splitting (placed_orbits 0 table rows) v).pieces

      shares : Each (λ w. length w ≡ cells) (map share pieces)
      shares = each-image share share-length (each_of pieces (λ piece k. splitting-pieces fit-images v p piece k))
        where
          share-length : (piece : Piece) → Taken (placed_orbits 0 table rows) v piece → length (share piece) ≡ cells
          share-length piece t = length-scale (pos piece.count) piece.image.vector ∙ (each_member fit-images t.listed).0

      sized : length (total (map share pieces)) ≡ cells
      sized = length-total shares
