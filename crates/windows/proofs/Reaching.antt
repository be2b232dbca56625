-- Where the records of a run lead (Specification 3.9): to the start plus a lattice vector, which an answer row shows. Assumes nothing.
use mathlib.Core.Path.{◌≡◌, refl, sym, ◌∙◌, ap, subst}
use mathlib.Core.Bool.{true}
use mathlib.Core.List.{List, [], ◌∷◌, ◌++◌, Memᴰ}
use Prim.Native.Nat.{ℕ, suc, ◌+◌, ◌-◌, ◌*◌, ◌≤◌, ◌<◌}
use native.Mathlib.Omega.{arith}
use lib.Dec.{eqb}
use lib.IntN.{ℤ, pos, nat_abs}
use lib.Signed.{non_neg}
use lib.ListN.{length, get_or, take, drop, replicate, length-append}
use lib.Seq.{length-take-le, take_at, take-take}
use Rattle.definitions.specs.declared.Draw.{Draw}
use Rattle.definitions.specs.declared.View.{View}
use Rattle.definitions.specs.Limits.{cells}
use Rattle.definitions.specs.Lists.{concat}
use Rattle.definitions.specs.Vector.{Vector, padded, plus, zero_vector}
use Rattle.definitions.specs.Lattice.{InLattice}
use Rattle.definitions.specs.Group.{Exchange}
use Rattle.definitions.specs.Lent.{Order, chunks, filled, generators_of}
use Rattle.definitions.specs.Calls.{Listing}
use Rattle.definitions.specs.Demands.{Reached}
use Rattle.definitions.specs.Window.{Visit, answer_row, answer_rows, answer_width, drawn_image, is_drawable, is_index, names_image, visits}
use Rattle.theory.proofs.Tests.{and-true-left, and-true-right}
use Rattle.theory.proofs.Lists.{chunks-at, chunks-filled, length-concat}
use Rattle.theory.proofs.Members.{Each, each_at, each-cons, each_member, each_nil, place-member}
use Rattle.theory.proofs.Vector.{length-plus, plus_assoc, plus-zero}
use Rattle.theory.proofs.Lattice.{lattice-plus, lattice-zeros}
use Rattle.theory.proofs.Images.{signed-lattice}
use Rattle.theory.proofs.Symmetric.{inside-length, member-keeps}
use Rattle.theory.proofs.Counting.{if-cases}
use Rattle.theory.proofs.Rows.{Short, lattice-short, short-padded, short-plus, vectors-short}
use Rattle.theory.proofs.ListCall.{ListFacts}
use Rattle.draws.proofs.Entries.{index_below}
use Rattle.windows.specs.Promise.{table_at}

-- as many answer rows as visits
pub rows-count : (view : View) (before after : List Visit) → length (answer_rows view before after) ≡ length after
unfolding answer_rows
rows-count view before [] = refl
rows-count view before (visit ∷ after) = ap suc (rows-count view (before ++ visit ∷ []) after)

-- no more visits than records
pub visits-few : (table : List Exchange) (rows : List Vector) (current : Vector) (draws : List Draw) → length (visits table rows current draws) ≤ length draws
unfolding visits
visits-few table rows current [] = omega arith
visits-few table rows current (draw ∷ draws) =
    let rest = visits-few table rows (plus current (drawn_image table rows draw)) draws in
    if-cases (λ (l : List Visit). length l ≤ length (draw ∷ draws)) (is_drawable table rows current draw) (λ t. omega arith) (λ f. omega arith)

-- the numbers of a contingency table that the start reaches, and three more
pub record RowReached (order : Order) (start : Vector) (row : List ℤ) : Type 0 where
  pub wide : length row ≡ answer_width order.n
  pub reached : Reached order start (padded (take order.n row))

module _ {order : Order} {found : Listing} (F : ListFacts order found) where
  abbrev generators : List Vector
  generators = generators_of order

  -- the image that a record names is in the lattice
  drawn-inside : (draw : Draw) → names_image found.table found.rows draw ≡ true → InLattice generators (drawn_image found.table found.rows draw)
  unfolding names_image drawn_image
  drawn-inside draw e =
      let both = and-true-left _ (eqb (nat_abs draw.sign) 1) e in
      let row = index_below (length found.rows) draw.row (and-true-left _ (is_index (length found.table) draw.position) both) in
      let position = index_below (length found.table) draw.position (and-true-right (is_index (length found.rows) draw.row) _ both) in
      let s = get_or found.table (nat_abs draw.position) [] in
      signed-lattice F.symmetric.sizes (non_neg draw.sign)
      (member-keeps F.symmetric s (F.kept.table.sound s (place-member found.table [] (nat_abs draw.position) position)) (get_or found.rows (nat_abs draw.row) []) (F.kept.whole.sound (nat_abs draw.row) row).in_lattice)

  -- EACH RECORD leads to the start plus a lattice vector
  visits-reached : (start current move : Vector) → InLattice generators move → current ≡ plus start move → (draws : List Draw)
      → Each (λ visit. Reached order start visit.reached) (visits found.table found.rows current draws)
  unfolding visits is_drawable
  visits-reached start current move h e [] = each_nil
  visits-reached start current move h e (draw ∷ draws) =
      if-cases (Each (λ visit. Reached order start visit.reached)) (is_drawable found.table found.rows current draw) (λ t.
      let image = drawn_image found.table found.rows draw in
      let inside = lattice-plus generators F.symmetric.sizes h (drawn-inside draw (and-true-left _ _ t)) in
      let adds : plus current image ≡ plus start (plus move image) = ap (λ (v : Vector). plus v image) e ∙ plus_assoc start move image in
      each-cons (record { move = plus move image; in_lattice = inside; adds_up = adds; entries = and-true-right (names_image found.table found.rows draw) _ t })
      (visits-reached start (plus current image) (plus move image) inside adds draws))
      (λ f. each_nil)

  -- no more answer rows than records
  pub run-few : (view : View) (start : Vector) (draws : List Draw) → length (answer_rows view [] (visits found.table found.rows start draws)) ≤ length draws
  run-few view start draws = omega (arith, rows-count view [] (visits found.table found.rows start draws), visits-few found.table found.rows start draws)

  module _ (start : Vector) (long : length start ≡ cells) (short : Short order.n start) where
    reached-long : {v : Vector} → Reached order start v → length v ≡ cells
    reached-long h = ap length h.adds_up ∙ length-plus cells start h.move long (inside-length F.symmetric h.in_lattice)

    -- what is reached is read again from its first n numbers
    reached-read : {v : Vector} → Reached order start v → padded (take order.n v) ≡ v
    unfolding generators_of
    reached-read {v} h =
        let s = lattice-short order.n F.symmetric.sizes (vectors-short order.n order.generators) h.move h.in_lattice in
        short-padded order.n v F.symmetric.fits (reached-long h) (ap (drop order.n) h.adds_up ∙ short-plus order.n start h.move short s)

    -- .. so its answer row shows it
    row-reached : {v : Vector} → Reached order start v → (k : ℕ) → k ≡ order.n → (x y z : ℤ) → RowReached order start (take k v ++ x ∷ y ∷ z ∷ [])
    row-reached {v} h k e x y z =
        let l : length (take k v) ≡ order.n = length-take-le k v (omega (arith, reached-long h, F.symmetric.fits)) ∙ e in
        record {
          wide = length-append (take k v) (x ∷ y ∷ z ∷ []) ∙ ap (λ (m : ℕ). m + 3) l;
          reached = subst (Reached order start) (sym (ap padded (take_at (take k v) (x ∷ y ∷ z ∷ []) order.n l) ∙ ap (λ (m : ℕ). padded (take m v)) e ∙ reached-read h)) h;
        }

    rows-reached : (view : View) → view.n ≡ order.n → (before : List Visit) {after : List Visit} → Each (λ visit. Reached order start visit.reached) after → Each (RowReached order start) (answer_rows view before after)
    unfolding answer_row answer_rows
    rows-reached view e before each_nil = each_nil
    rows-reached view e before (each-cons {x = visit} {xs = after} h k) =
        each-cons (row-reached h view.n e _ _ _) (rows-reached view e (before ++ visit ∷ []) k)

    -- EACH ANSWER ROW of a run has a contingency table that the start reaches
    pub run-reached : (view : View) → view.n ≡ order.n → (draws : List Draw) → Each (RowReached order start) (answer_rows view [] (visits found.table found.rows start draws))
    run-reached view e draws =
        rows-reached view e [] (visits-reached start start zero_vector (lattice-zeros (generators_of order) F.symmetric.sizes) (sym (plus-zero start long)) draws)

-- ---- an area that begins with such rows
module _ (order : Order) (start : Vector) {rows : List (List ℤ)} (h : Each (RowReached order start) rows) (size : ℕ) {answers : List ℤ} (e : answers ≡ filled (pos 0) size (concat rows)) where
  abbrev width : ℕ
  width = answer_width order.n

  wide : (row : List ℤ) → Memᴰ row rows → length row ≡ width
  wide row m = (each_member h m).wide

  -- each row is read again
  pub area-reached : (i : ℕ) → i < length rows → Reached order start (table_at order.n answers i)
  area-reached i l =
      let row : get_or rows i [] ≡ take width (drop (i * width) answers) =
      ap (λ (r : List (List ℤ)). get_or r i []) (sym (ap (chunks width (length rows)) e ∙ chunks-filled width size (pos 0) rows wide)) ∙ chunks-at width (length rows) i answers l in
      subst (λ (numbers : List ℤ). Reached order start (padded numbers)) (ap (take order.n) row ∙ take-take order.n width (drop (i * width) answers) (omega arith)) (each_at rows [] h i l).reached

  -- the rows are its front
  pub area-front : take (length rows * answer_width order.n) answers ≡ concat rows
  unfolding filled
  area-front = ap (take (length rows * width)) e ∙ take_at (concat rows) (replicate (size - length (concat rows)) (pos 0)) (length rows * width) (length-concat width rows wide)
