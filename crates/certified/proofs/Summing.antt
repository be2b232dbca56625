-- The coefficients of a sum: those of row i, and of the image of row j (Specification 3.2 and 3.7). Assumes nothing.
use mathlib.Core.Path.{◌≡◌, sym, ◌∙◌, ap, ap₂}
use mathlib.Core.List.{List, []}
use Prim.Native.Nat.{ℕ, ◌+◌, ◌-◌, ◌*◌, ◌≤◌, ◌<◌}
use native.Mathlib.Omega.{arith}
use lib.IntN.{ℤ, pos, nat_abs}
use lib.ListN.{length, get_or, take, drop}
use Rattle.definitions.specs.Vector.{plus, scale, weight, zeros}
use Rattle.definitions.specs.Split.{sign}
use Rattle.definitions.specs.Certified.{certified_sum}
use Rattle.theory.proofs.Lattice.{scale_one}
use Rattle.theory.proofs.Vector.{weight-zeros, zeros-plus}
use Rattle.vectors.specs.Areas.{cleared_from}
use Rattle.reduction.specs.declared.Shape.{Shape}
use Rattle.coefficients.specs.Carrying.{Movable, moved_by, widest}
use Rattle.coefficients.proofs.Blanks.{cleared-zeros, scale-sign, sign-light}
use Rattle.coefficients.proofs.Closing.{movable, moved-is, position-part}
use Rattle.completion.specs.declared.State.{State}
use Rattle.certified.specs.Noting.{Limited, Notable, noted_in, sum_coefficients_in, width_of}
use Rattle.certified.proofs.Noted.{noted-light, noted-long, noted-part}

module _ {shape : Shape} {table : List ℕ} {basis coefficients : List ℤ} (s : State) (into : List ℤ)
    (N : Notable shape s.stored table basis coefficients) (L : Limited shape.n basis s.stored coefficients)
    (tried : (s.i < s.stored) × (s.j ≤ s.i) × (s.position < shape.g)) (sized : length into ≡ width_of shape.n basis) where
  abbrev w : ℕ
  w = length into

  -- the coefficients of a row, as they are read, and by the definition
  abbrev part : (i : ℕ) → List ℤ
  part i = take (i * w + w - i * w) (drop (i * w) coefficients)

  abbrev row : (i : ℕ) → List ℤ
  row i = get_or (noted_in shape.n basis s.stored coefficients) i []

  part-is : (i : ℕ) → i < s.stored → part i ≡ row i
  part-is = noted-part N w sized

  light : (i : ℕ) → i < s.stored → weight (row i) + weight (row i) ≤ widest
  light i h = omega (arith, noted-light N i h L)

  j-in : s.j < s.stored
  j-in = omega (arith, tried.0, tried.1)

  -- row i is added to nothing
  module _ (none : List ℤ) (cleared : none ≡ cleared_from (pos 0) 0 into) where
    none-is : none ≡ zeros w
    none-is = cleared ∙ cleared-zeros into

    pub first-room : weight none + 1 * weight (part s.i) ≤ widest
    first-room = rw (none-is, part-is s.i tried.0) (omega (arith, weight-zeros w, light s.i tried.0))

    -- and stands alone
    module _ (first : List ℤ) (added : first ≡ plus none (scale (pos 1) (part s.i))) where
      alone : first ≡ row s.i
      alone =
          added ∙ ap₂ (λ (u v : List ℤ). plus u (scale (pos 1) v)) none-is (part-is s.i tried.0)
          ∙ ap (plus (zeros w)) (scale_one (row s.i))
          ∙ zeros-plus w (row s.i) (noted-long N s.i tried.0 ∙ sym sized)

      pub second-room : weight first + nat_abs (sign s.positive) * weight (part s.j) ≤ widest
      second-room = rw (alone, part-is s.j j-in) (omega (arith, sign-light 0 s.positive (row s.j), noted-light N s.i tried.0 L, noted-light N s.j j-in L))

      -- the image of row j is added to it
      pub sum-made : (made : List ℤ) → made ≡ plus first (scale (sign s.positive) (moved_by basis (take (s.position * shape.n + shape.n - s.position * shape.n) (drop (s.position * shape.n) table)) (part s.j)))
          → made ≡ sum_coefficients_in shape table basis coefficients s
      unfolding certified_sum
      sum-made made e =
          let moved = ap₂ (moved_by basis) (position-part N.closed s.position tried.2) (part-is s.j j-in)
          ∙ moved-is N.closed s.position tried.2 (row s.j) (noted-long N s.j j-in) in
          e ∙ ap₂ (λ (u v : List ℤ). plus u (scale (sign s.positive) v)) alone moved ∙ ap (plus (row s.i)) (scale-sign s.positive _)

  -- it can be moved
  pub sum_movable : Movable basis (take (s.position * shape.n + shape.n - s.position * shape.n) (drop (s.position * shape.n) table)) (part s.j)
  sum_movable =
      rw (position-part N.closed s.position tried.2, part-is s.j j-in)
      (movable N.closed s.position tried.2 (row s.j) (noted-long N s.j j-in) (omega (arith, light s.j j-in)))
