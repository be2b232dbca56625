-- A multiple that lies below a vector, cell by cell: it fits, and so does what remains. Assumes nothing.
use mathlib.Core.Path.{◌≡◌, refl, sym, ap, ap₂, ◌∙◌, subst}
use mathlib.Core.Bool.{true}
use mathlib.Core.List.{[], ◌∷◌}
use Prim.Native.Nat.{ℕ, zero, suc, ◌*◌, ◌≤◌, ◌<◌}
use native.Mathlib.Nat.{suc-mul}
use native.Mathlib.Omega.{arith}
use lib.IntN.{ℤ, pos, negsuc, ◌+ℤ◌, ◌-ℤ◌, ◌*ℤ◌, neg_ℤ}
use lib.Signed.{mag}
use lib.ListN.{length}
use mir.Syntax.{w32}
use mir.Val.{to_z, of_z, SFits}
use mir.Facts.{to_z-of_z}
use Rattle.definitions.specs.Limits.{cells, split_limit}
use Rattle.definitions.specs.Vector.{Vector, below, minus, negative, plus, scale, weight, within}
use Rattle.definitions.specs.Split.{times}
use Rattle.theory.proofs.Cell.{CellBelow, cell-rest}
use Rattle.theory.proofs.Below.{◌⊑◌, head-below, tail-below, ⊑-length}
use Rattle.theory.proofs.Lattice.{length-scale}
use Rattle.theory.proofs.Members.{each-cons, each_nil}
use Rattle.theory.proofs.Bounds.{Within, within-each}
use Rattle.theory.proofs.Times.{Multiple, times-least}
use Rattle.vectors.proofs.Kit.{cell_at}
use Rattle.vectors.proofs.Cells.{none_below}
use Rattle.pieces.specs.Taking.{count_limit, Most}

-- ---- one cell

-- what lies below a number fits where it does
below-fits : (x y : ℤ) → CellBelow x y → SFits w32 y → SFits w32 x
below-fits x y h k = let j = go x y h in record { sfits = omega (arith, k.sfits) }
  where
    go : (x y : ℤ) → CellBelow x y → mag x ≤ mag y
    go (pos a) (pos b) h = h.rise
    go (pos a) (negsuc b) h = omega (arith, h.rise)
    go (negsuc a) (pos b) h = absurd (omega (arith, h.fall))
    go (negsuc a) (negsuc b) h = omega (arith, h.fall)

-- a row, a position and a count fit
pub small-fits : {k : ℕ} → k ≤ count_limit → SFits w32 (pos k)
small-fits h = record { sfits = omega arith }

-- ---- cell i

below_at : (u v : Vector) (i : ℕ) → u ⊑ v → i < length v → CellBelow (cell_at u i) (cell_at v i)
unfolding below
below_at u [] i h l = none_below l
below_at [] (y ∷ v) i h l = absurd h.test
below_at (x ∷ u) (y ∷ v) zero h l = head-below h
below_at (x ∷ u) (y ∷ v) (suc i) h l = below_at u v i (tail-below h) (omega arith)

scale_at : (c : ℤ) (u : Vector) (i : ℕ) → i < length u → cell_at (scale c u) i ≡ c *ℤ cell_at u i
unfolding scale
scale_at c [] i h = none_below h
scale_at c (x ∷ u) zero h = refl
scale_at c (x ∷ u) (suc i) h = scale_at c u i (omega arith)

minus-at : (v u : Vector) (i : ℕ) → length v ≡ length u → i < length v
    → cell_at (minus v u) i ≡ cell_at v i +ℤ neg_ℤ (cell_at u i)
unfolding minus plus negative
minus-at [] u i e h = none_below h
minus-at (x ∷ v) [] i e h = absurd (omega arith)
minus-at (x ∷ v) (y ∷ u) zero e h = refl
minus-at (x ∷ v) (y ∷ u) (suc i) e h = minus-at v u i (omega arith) (omega arith)

-- cell i of v less that multiple of u, which lies below v: the cells fit
pub record Turn (v u : Vector) (count i : ℕ) : Type 0 where
  pub lies : scale (pos count) u ⊑ v
  pub small : count ≤ count_limit
  pub inside : i < length v
  pub left-fits : SFits w32 (cell_at v i)
  pub right-fits : SFits w32 (cell_at u i)

-- a number as it is read
abbrev read : ℤ → ℤ
read z = to_z w32 (of_z w32 z)

-- what the machine makes of it
module _ {v u : Vector} {count i : ℕ} (turn : Turn v u count i) where
  abbrev multiple : Vector
  multiple = scale (pos count) u

  abbrev product : ℤ
  product = pos count *ℤ cell_at u i

  -- the product, as it is computed
  abbrev computed : ℤ
  computed = to_z w32 count *ℤ read (cell_at u i)

  long : length multiple ≡ length v
  long = ⊑-length turn.lies

  product_at : cell_at multiple i ≡ product
  product_at = scale_at (pos count) u i (omega (arith, turn.inside, long, length-scale (pos count) u))

  product-below : CellBelow product (cell_at v i)
  product-below =
      subst (λ (x : ℤ). CellBelow x (cell_at v i)) product_at (below_at multiple v i turn.lies turn.inside)

  product-fits : SFits w32 product
  product-fits = below-fits product (cell_at v i) product-below turn.left-fits

  rest-fits : SFits w32 (cell_at v i +ℤ neg_ℤ product)
  rest-fits = below-fits (cell_at v i +ℤ neg_ℤ product) (cell_at v i) (cell-rest product-below) turn.left-fits

  computed-is : computed ≡ product
  computed-is = ap₂ ◌*ℤ◌ (to_z-of_z (small-fits turn.small)) (to_z-of_z turn.right-fits)

  pub products-fit : SFits w32 computed
  products-fit = rw computed-is product-fits

  product-read : read computed ≡ product
  product-read = ap read computed-is ∙ to_z-of_z product-fits

  pub rests-fit : SFits w32 (read (cell_at v i) -ℤ read computed)
  rests-fit = rw (to_z-of_z turn.left-fits, product-read) rest-fits

  pub rests-read : read (read (cell_at v i) -ℤ read computed) ≡ cell_at (minus v multiple) i
  rests-read =
      rw (to_z-of_z turn.left-fits, product-read) (to_z-of_z rest-fits)
      ∙ ap (λ (x : ℤ). cell_at v i +ℤ neg_ℤ x) (sym product_at)
      ∙ sym (minus-at v multiple i (sym long) turn.inside)

-- ---- how often an image is taken

weight-within : (limit : ℕ) {v : Vector} → Within limit v → weight v ≤ length v * limit
unfolding weight
weight-within limit each_nil = omega arith
weight-within limit (each-cons {xs = v} k h) = omega (arith, weight-within limit h, suc-mul (length v) limit)

-- that multiple of a vector lies below the other, and its number is small
pub times-most : (u v : Vector) (count : ℕ) → length u ≡ cells → length v ≡ cells → within split_limit v ≡ true
    → count ≡ times u v → Most u v count
unfolding times
times-most u v count u-long v-long limited is =
    let least : Multiple (weight v) count u v = times-least (weight v) u v count (u-long ∙ sym v-long) (omega arith) in
    let e : length v * split_limit ≡ cells * split_limit = ap (λ (k : ℕ). k * split_limit) v-long in
    record {
      greatest = is;
      lies = record { test = least.lies };
      few = omega (arith, least.most, weight-within split_limit (within-each split_limit v limited));
    }
