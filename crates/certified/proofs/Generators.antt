-- A generator, and the coefficients that it gives the row of its kind (Specification 3.1 and 3.7). Assumes nothing.
use mathlib.Core.Path.{◌≡◌, refl, sym, ◌∙◌, ap}
use mathlib.Core.Bool.{Bool, true, false, ◌||◌}
use mathlib.Core.Logic.{inl}
use mathlib.Core.List.{List, [], ◌∷◌, ◌++◌, Memᴰ}
use Prim.Native.Nat.{ℕ, zero, suc, ◌+◌, ◌*◌, ◌≤◌, ◌<◌}
use native.Mathlib.Omega.{arith}
use lib.IntN.{ℤ, pos, nat_abs}
use lib.ListN.{length, get_or, take, drop, replicate}
use lib.Seq.{take_at}
use Rattle.definitions.specs.Limits.{cells, generator_limit}
use Rattle.definitions.specs.Vector.{Vector, equal, is_member, negative, padded, plus, scale, weight, within, zeros}
use Rattle.definitions.specs.Group.{Exchange}
use Rattle.definitions.specs.Orbit.{orbit, representative}
use Rattle.definitions.specs.Certified.{certified_row, counted_as}
use Rattle.definitions.specs.Lent.{vectors_of}
use Rattle.definitions.specs.Refusals.{is_generator}
use Rattle.theory.proofs.Accepted.{vectors-length, vectors-within}
use Rattle.theory.proofs.Bounds.{each_within, within-each}
use Rattle.theory.proofs.CheckCall.{vectors-count}
use Rattle.theory.proofs.Equal.{equal-same, member_is, same-equal}
use Rattle.theory.proofs.Lattice.{scale_one}
use Rattle.theory.proofs.Members.{Each, each_at, place-member}
use Rattle.theory.proofs.Rows.{row_at}
use Rattle.theory.proofs.Tests.{clash}
use Rattle.theory.proofs.Vector.{plus-zeros, weight-zeros}
use Rattle.certified_theory.proofs.Made.{counted-made}
use Rattle.certified_theory.proofs.Weights.{counted-light}
use Rattle.vectors.specs.Bounds.{headroom}
use Rattle.reduction.specs.declared.Shape.{Shape}
use Rattle.reduction.specs.Areas.{rows_at, sequences_in}
use Rattle.coefficients.specs.Carrying.{ClosedBasis, row_coefficients_in, widest}
use Rattle.certified.specs.Noting.{GeneratorNoted, Notable, RowsMade, coefficients_by, noted_in, width_of}
use Rattle.certified.proofs.Noted.{blank, put, put-rows}

take-blank : (m k : ℕ) → m ≤ k → take m (replicate k (pos 0)) ≡ replicate m (pos 0)
take-blank zero k h = refl
take-blank (suc m) zero h = absurd (omega arith)
take-blank (suc m) (suc k) h = ap (λ (l : List ℤ). pos 0 ∷ l) (take-blank m k (omega arith))

module _ {shape : Shape} {table : List ℕ} {basis : List ℤ} (closed : ClosedBasis shape table basis) (p : ℕ)
    (h : p < width_of shape.n basis) where
  abbrev G : List Exchange
  G = sequences_in shape table

  abbrev generators : List Vector
  generators = vectors_of shape.n basis

  abbrev v : Vector
  v = get_or generators p []

  abbrev m : ℕ
  m = width_of shape.n basis

  count : length generators ≡ m
  count = vectors-count shape.n basis

  pub generator-limited : within headroom v ≡ true
  generator-limited =
      each_within headroom
      (each_at generators [] (vectors-within shape.n (within-each headroom basis closed.is_basis.limited)) p (omega (arith, count)))

  sizes : Each (λ g. length g ≡ cells) generators
  sizes = vectors-length shape.n basis closed.is_basis.narrow

  pub generator-long : length v ≡ cells
  generator-long = each_at generators [] sizes p (omega (arith, count))

  here : Memᴰ v generators
  here = place-member generators [] p (omega (arith, count))

  pub generator-is : is_generator generators v ≡ true
  unfolding is_generator
  generator-is = ap (λ (b : Bool). b || is_member (negative v) generators) (member_is here)

  -- what it counts as
  counted-long : length (counted_as generators v) ≡ m
  counted-long = (counted-made generators sizes v (inl here)).one_each ∙ count

  no-numbers : take m blank ≡ zeros m
  unfolding zeros
  no-numbers = take-blank m generator_limit closed.is_basis.few

  pub counted-alone : plus (scale (pos 1) (counted_as generators v)) (take m blank) ≡ counted_as generators v
  counted-alone =
      ap (λ (l : List ℤ). plus (scale (pos 1) (counted_as generators v)) l) no-numbers
      ∙ ap (λ (l : List ℤ). plus l (zeros m)) (scale_one (counted_as generators v))
      ∙ plus-zeros m (counted_as generators v) counted-long

  pub counted-room : nat_abs (pos 1) + weight (take m blank) ≤ widest
  counted-room = omega (arith, ap weight no-numbers, weight-zeros m)

  -- .. stands in the first places of an array
  module _ {u : Vector} {counted : List ℤ} (rest : List ℤ) (f : u ≡ v) (long : length counted ≡ m)
      (e : counted ≡ plus (scale (pos 1) (counted_as generators u)) (take m blank)) where
    pub counted-is : take m (counted ++ rest) ≡ counted_as generators v
    counted-is =
        take_at counted rest m long ∙ e ∙ ap (λ (u : Vector). plus (scale (pos 1) (counted_as generators u)) (take m blank)) f ∙ counted-alone

    pub counted-small : weight (take m (counted ++ rest)) ≤ widest
    counted-small = omega (arith, ap weight counted-is, counted-light generators v)

  -- the row
  module _ (row u : Vector) (e : row ≡ representative G v) (f : u ≡ v) where
    pub generator-made : RowsMade G → is_member row (orbit G u) ≡ true
    generator-made made = rw (e, f) (made v generator-long)

    pub given_is : {from : List ℤ} → from ≡ counted_as generators v
        → row_coefficients_in shape table basis row u from ≡ coefficients_by shape table basis p
    unfolding certified_row
    given_is g = rw (e, f, g)

-- ---- whether row r is the row of generator p, as code tells it
module _ (shape : Shape) (table : List ℕ) (list basis : List ℤ) (p r : ℕ) {v own row : Vector} {b : Bool}
    (found : v ≡ get_or (vectors_of shape.n basis) p []) (kind : own ≡ representative (sequences_in shape table) v)
    (read : row ≡ padded (take shape.n (drop (r * shape.n) list))) (told : b ≡ equal own row) where
  row-is : row ≡ get_or (rows_at shape.n (r + 1) list) r []
  row-is = read ∙ row_at shape.n (r + 1) r list (omega arith)

  own-is : own ≡ representative (sequences_in shape table) (get_or (vectors_of shape.n basis) p [])
  own-is = kind ∙ ap (representative (sequences_in shape table)) found

  -- it is not
  pub noted-other : b ≡ false → (coefficients : List ℤ) → GeneratorNoted shape table list basis p r coefficients coefficients r
  noted-other e coefficients = record {
    other = λ f. (refl, refl);
    own = λ q. absurd (clash (same-equal row) (ap (λ (u : Vector). equal u row) (sym (own-is ∙ q ∙ sym row-is)) ∙ sym told ∙ e));
  }

  -- it is
  module _ (e : b ≡ true) where
    same : own ≡ row
    same = equal-same own row (sym told ∙ e)

    pub alike : row ≡ representative (sequences_in shape table) (get_or (vectors_of shape.n basis) p [])
    alike = sym same ∙ own-is

    pub noted-own : {coefficients : List ℤ} (N : Notable shape (r + 1) table basis coefficients) (new : List ℤ)
        (long : length new ≡ width_of shape.n basis) → new ≡ coefficients_by shape table basis p
        → GeneratorNoted shape table list basis p r coefficients (put r N new long) (r + 1)
    noted-own {coefficients} N new long given = record {
      other = λ f. absurd (f (sym own-is ∙ same ∙ row-is));
      own = λ q. (refl, put-rows r N new long ∙ ap (λ (l : List ℤ). noted_in shape.n basis r coefficients ++ l ∷ []) given);
    }
