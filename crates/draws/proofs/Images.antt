-- The image that a record names, by what is known of the list and the table. Assumes nothing.
use mathlib.Core.Path.{◌≡◌, ◌∙◌, ap, subst}
use mathlib.Core.Bool.{Bool, true, false, ◌&&◌}
use mathlib.Core.List.{List, [], map}
use Prim.Native.Nat.{ℕ, ◌+◌, ◌-◌, ◌*◌, ◌≤◌, ◌<◌}
use native.Mathlib.Omega.{arith}
use lib.Dec.{eqb}
use lib.IntN.{ℤ, pos, nat_abs}
use lib.ListN.{length, get_or, take, drop, length-map}
use lib.Seq.{drop_at}
use lib.Signed.{non_neg}
use Rattle.definitions.specs.declared.Draw.{Draw}
use Rattle.definitions.specs.Limits.{cells, contingency_limit}
use Rattle.definitions.specs.Vector.{Vector, negative, padded, within}
use Rattle.definitions.specs.Group.{Exchange, exchanged, is_exchange}
use Rattle.definitions.specs.Orbit.{signed}
use Rattle.definitions.specs.Window.{drawn_image, is_contingency, is_entry, is_index, names_image}
use Rattle.theory.proofs.Tests.{and-true-left, and-true-right}
use Rattle.theory.proofs.Lists.{mem-at, row-end}
use Rattle.theory.proofs.Members.{each_map, every-each}
use Rattle.theory.proofs.Vector.{length-negative}
use Rattle.theory.proofs.Exchanges.{length_exchanged, valid-of}
use Rattle.theory.proofs.Bounds.{each_within, within-each, within-exchanged, within_more, within_signed}
use Rattle.theory.proofs.Accepted.{padded-length}
use Rattle.theory.proofs.Rows.{row_at, rows-count, short-negative, short-rows}
use Rattle.vectors.specs.Bounds.{headroom}
use Rattle.vectors.proofs.Kit.{length-row}
use Rattle.reduction.specs.declared.Extent.{Extent}
use Rattle.reduction.specs.Areas.{image_of}
use Rattle.reduction.proofs.Lent.{row_within, sequences-count}
use Rattle.draws.specs.Draws.{Filled, Listed, names_in, rows_in, table_in}
use Rattle.draws.proofs.Entries.{entry-bound, index_below}

-- a contingency table has headroom
pub contingency-within : (v : Vector) → is_contingency v ≡ true → within headroom v ≡ true
unfolding is_contingency
contingency-within v e =
    each_within headroom (within_more {a = contingency_limit} (omega arith) (each_map entry-bound (every-each is_entry v e)))

-- a record names an image of a list and a table just where its numbers are within their counts
pub names-drawn : (extent : Extent) (list : List ℤ) (group : List ℕ) (draw : Draw)
    → names_image (table_in extent group) (rows_in extent list) draw ≡ names_in extent draw
unfolding names_image
names-drawn extent list group draw =
    rw (rows-count extent.shape.n extent.k list, sequences-count extent.shape group)

-- ---- vectors of n cells
module _ {n : ℕ} (narrow : n ≤ cells) where
  pub filled_row : (row : List ℤ) → length row ≡ n → Filled n (padded row)
  filled_row row e = record { long = padded-length row (omega arith); short = short-rows n row e }

  pub filled-exchanged : (s : Exchange) {v : Vector} → is_exchange n s ≡ true → Filled n v → Filled n (exchanged s v)
  unfolding exchanged
  filled-exchanged s {v} e h =
      let l = (valid-of n s e).long in
      record {
        long = length_exchanged s v (omega (arith, h.long)) ∙ h.long;
        short =
            drop_at (map (λ (cell : ℕ). get_or v (cell - 1) (pos 0)) s) (drop (length s) v) n (length-map s _ ∙ l)
            ∙ ap (λ (k : ℕ). drop k v) l ∙ h.short;
      }

pub filled-signed : {n : ℕ} (positive : Bool) {v : Vector} → Filled n v → Filled n (signed positive v)
unfolding signed
filled-signed true h = h
filled-signed {n} false {v} h = record { long = length-negative v ∙ h.long; short = short-negative n v h.short }

-- ---- the image

-- before its sign
abbrev pub plain_image : Extent → (list : List ℤ) (group : List ℕ) → Draw → Vector
plain_image extent list group draw =
    exchanged (get_or (table_in extent group) (nat_abs draw.position) []) (get_or (rows_in extent list) (nat_abs draw.row) [])

module _ {extent : Extent} {list : List ℤ} {group : List ℕ} (listed : Listed extent list group) (draw : Draw) (named : names_in extent draw ≡ true) where
  abbrev indexed : Bool
  indexed = is_index extent.k draw.row && is_index extent.shape.g draw.position

  both_indexed : indexed ≡ true
  both_indexed = and-true-left indexed (eqb (nat_abs draw.sign) 1) named

  -- there is such a row
  pub row_below : nat_abs draw.row < extent.k
  row_below =
      index_below extent.k draw.row
      (and-true-left (is_index extent.k draw.row) (is_index extent.shape.g draw.position) both_indexed)

  -- and such a position
  pub position-below : nat_abs draw.position < extent.shape.g
  position-below =
      index_below extent.shape.g draw.position
      (and-true-right (is_index extent.k draw.row) (is_index extent.shape.g draw.position) both_indexed)

  -- the row lies within the list
  pub row_inside : nat_abs draw.row * extent.shape.n + extent.shape.n ≤ length list
  row_inside = omega (arith, row-end (nat_abs draw.row) extent.k extent.shape.n row_below, listed.area.holds)

  -- the row as code loads it
  pub row_loaded : padded (take extent.shape.n (drop (nat_abs draw.row * extent.shape.n) list))
      ≡ get_or (rows_in extent list) (nat_abs draw.row) []
  row_loaded = row_at extent.shape.n extent.k (nat_abs draw.row) list row_below

  -- it has headroom, and so has its image
  pub plain-within : within headroom (plain_image extent list group draw) ≡ true
  plain-within =
      let row =
      row_within headroom list (nat_abs draw.row * extent.shape.n) extent.shape.n listed.area.limited in
      each_within headroom
      (within-exchanged (get_or (table_in extent group) (nat_abs draw.position) [])
      (within-each headroom (get_or (rows_in extent list) (nat_abs draw.row) []) (rw row_loaded at row)))

  -- the image as code makes it, before its sign
  module _ {row position : ℕ} {v image : Vector} (r : row ≡ nat_abs draw.row) (p : position ≡ nat_abs draw.position)
      (l : v ≡ padded (take extent.shape.n (drop (row * extent.shape.n) list))) (m : image ≡ image_of (table_in extent group) position v) where
    plain-is : image ≡ plain_image extent list group draw
    plain-is = m ∙ rw (p, l, r, row_loaded)

    pub made-within : within headroom image ≡ true
    made-within = rw plain-is plain-within

    pub made-positive : non_neg draw.sign ≡ true → image ≡ drawn_image (table_in extent group) (rows_in extent list) draw
    unfolding drawn_image signed
    made-positive e = plain-is ∙ rw e

    pub made-negative : non_neg draw.sign ≡ false → negative image ≡ drawn_image (table_in extent group) (rows_in extent list) draw
    unfolding drawn_image signed
    made-negative e = ap negative plain-is ∙ rw e

  -- the image that is drawn has headroom
  pub image-within : within headroom (drawn_image (table_in extent group) (rows_in extent list) draw) ≡ true
  unfolding drawn_image
  image-within =
      each_within headroom
      (within_signed (non_neg draw.sign) (within-each headroom (plain_image extent list group draw) plain-within))

  -- and it is a vector of n cells
  pub image-filled : Filled extent.shape.n (drawn_image (table_in extent group) (rows_in extent list) draw)
  unfolding drawn_image
  image-filled =
      let n = extent.shape.n in
      let narrow = listed.is_table.narrow in
      let s : Exchange = get_or (table_in extent group) (nat_abs draw.position) [] in
      let valid =
      listed.is_table.valid s
      (mem-at (table_in extent group) (nat_abs draw.position) []
      (omega (arith, position-below, sequences-count extent.shape group))) in
      let row =
      filled_row narrow (take n (drop (nat_abs draw.row * n) list))
      (length-row list (nat_abs draw.row * n) n row_inside) in
      filled-signed (non_neg draw.sign) (filled-exchanged narrow s valid (subst (Filled n) row_loaded row))
