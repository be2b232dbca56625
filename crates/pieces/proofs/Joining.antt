-- Images taken from a vector, and then others (Specification 4.1). Assumes nothing.
use mathlib.Core.Path.{◌≡◌, refl, sym, ap, ap₂, ◌∙◌, subst}
use mathlib.Core.Bool.{Bool}
use mathlib.Core.List.{List, [], ◌∷◌, ◌++◌}
use Prim.Native.Nat.{ℕ, zero, suc, ◌+◌, ◌≤◌}
use native.Mathlib.Nat.{add-zero, add_assoc}
use native.Mathlib.Omega.{arith}
use lib.IntN.{ℤ, pos}
use lib.ListN.{length, length-append}
use Rattle.definitions.specs.Limits.{cells, split_limit}
use Rattle.definitions.specs.Vector.{Vector, minus, scale}
use Rattle.definitions.specs.Split.{Image, Piece, Splitting, splitting, times, with_piece, written}
use Rattle.theory.proofs.Below.{◌⊑◌, ⊑-length, ⊑_refl, ⊑-rest, ⊑_trans}
use Rattle.theory.proofs.Split.{none-taken}
use Rattle.reduction.proofs.Lent.{rest-within}
use Rattle.pieces.specs.declared.Place.{Place}
use Rattle.pieces.specs.declared.Taken.{Taken}
use Rattle.pieces.specs.Taking.{four_numbers, image_at, laid, with_numbers}
use Rattle.pieces.specs.Taking.{Most, Ready, Takes}
use Rattle.pieces.proofs.Laying.{laid-append}

-- the pieces of one splitting, and then of what it leaves
abbrev joined : Splitting → Splitting → Splitting
joined first second = record { pieces = first.pieces ++ second.pieces; rest = second.rest }

-- images, and then others
splitting-append : (images others : List Image) (v : Vector) → splitting (images ++ others) v
    ≡ joined (splitting images v) (splitting others (splitting images v).rest)
unfolding splitting with_piece
splitting-append [] others v = refl
splitting-append (image ∷ images) others v =
    let count = times image.vector v in
    let left = minus v (scale (pos count) image.vector) in
    ap (with_piece image count) (splitting-append images others left) ∙ go count (splitting images left)
  where
    go : (count : ℕ) (first : Splitting) → with_piece image count (joined first (splitting others first.rest))
        ≡ joined (with_piece image count first) (splitting others (with_piece image count first).rest)
    go zero first = refl
    go (suc count) first = refl

-- an image is one piece at most
pieces-few : (images : List Image) (v : Vector) → length (splitting images v).pieces ≤ length images
unfolding splitting with_piece
pieces-few [] v = omega arith
pieces-few (image ∷ images) v =
    let count = times image.vector v in
    let left = minus v (scale (pos count) image.vector) in
    go count (splitting images left) (pieces-few images left)
  where
    go : (count : ℕ) (first : Splitting) → length first.pieces ≤ length images
        → length (with_piece image count first).pieces ≤ suc (length images)
    go zero first h = omega arith
    go (suc count) first h = omega arith

-- nothing was taken yet
pub takes-nothing : (t : Taken) (area : List ℤ) → Takes [] t area area t
unfolding splitting laid
takes-nothing t area =
    record { remains = refl; counted = sym (add-zero t.count); lies = refl; lower = ⊑_refl t.rest }

-- and so with the area
pub takes-append : {images others : List Image} {t r s : Taken} {first second third : List ℤ}
    → Takes images t first second r → Takes others r second third s → Takes (images ++ others) t first third s
takes-append {images} {others} {t} {r} {s} {first} {second} {third} a b = record {
  remains =
      b.remains
      ∙ ap (λ (v : Vector). (splitting others v).rest) a.remains
      ∙ sym (ap (λ (x : Splitting). x.rest) both);
  counted =
      b.counted
      ∙ ap₂ (λ (k : ℕ) (v : Vector). k + length (splitting others v).pieces) a.counted a.remains
      ∙ add_assoc t.count (length mine) (length theirs)
      ∙ ap (λ (k : ℕ). t.count + k)
      (sym (length-append mine theirs) ∙ ap (λ (x : Splitting). length x.pieces) (sym both));
  lies =
      b.lies
      ∙ (λ i. laid (a.lies i) (a.counted i) (splitting others (a.remains i)).pieces)
      ∙ sym (laid-append first t.count mine theirs)
      ∙ ap (λ (x : Splitting). laid first t.count x.pieces) (sym both);
  lower = ⊑_trans b.lower a.lower;
}
  where
    mine : List Piece
    mine = (splitting images t.rest).pieces

    theirs : List Piece
    theirs = (splitting others (splitting images t.rest).rest).pieces

    both : splitting (images ++ others) t.rest
        ≡ joined (splitting images t.rest) (splitting others (splitting images t.rest).rest)
    both = splitting-append images others t.rest

-- what is ready for more images is ready for those left
pub ready-after : {images : List Image} {t r : Taken} {area area' : List ℤ} (more all : ℕ)
    → length images + more ≤ all → Ready all t → Takes images t area area' r → Ready more r
ready-after {images} {t} {r} more all h s a = record {
  long = ⊑-length a.lower ∙ s.long;
  limited = rest-within split_limit r.rest t.rest a.lower s.limited;
  few = omega (arith, a.counted, pieces-few images t.rest, s.few);
}

-- ---- one image, taken so often
module _ (place : Place) (positive : Bool) (u : Vector) (t : Taken) (count : ℕ) (most : Most u t.rest count) where
  abbrev images : List Image
  images = image_at place positive u ∷ []

  -- what is left of it
  abbrev less_by : ℕ → Vector
  less_by k = minus t.rest (scale (pos k) u)

  -- so many of it
  taken : ℕ → Splitting
  taken k = with_piece (image_at place positive u) k (record { pieces = []; rest = less_by k })

  -- the splitting by it alone
  one : splitting images t.rest ≡ taken count
  unfolding splitting taken
  one = ap taken (sym most.greatest)

  -- it is not taken
  pub takes_none : (area : List ℤ) → count ≡ 0 → length u ≡ cells → length t.rest ≡ cells
      → Takes images t area area t
  unfolding with_piece laid taken
  takes_none area z image-long rest-long = record {
    remains = sym (none-taken u t.rest image-long rest-long) ∙ ap (λ (x : Splitting). x.rest) none;
    counted = sym (add-zero t.count) ∙ ap (λ (x : Splitting). t.count + length x.pieces) none;
    lies = ap (λ (x : Splitting). laid area t.count x.pieces) none;
    lower = ⊑_refl t.rest;
  }
    where
      none : taken 0 ≡ splitting images t.rest
      none = ap taken (sym z) ∙ sym one

  -- it is taken
  pub takes-some : (r : Taken) (area area' : List ℤ) → (count ≡ 0 → ⊥)
      → r.rest ≡ less_by count → r.count ≡ t.count + 1
      → area' ≡ with_numbers area t.count (four_numbers place positive count) → Takes images t area area' r
  unfolding with_piece laid written taken
  takes-some r area area' f e k x = go count refl
    where
      go : (c : ℕ) → count ≡ c → Takes images t area area' r
      go zero z = absurd (f z)
      go (suc c) z = let some : taken (suc c) ≡ splitting images t.rest = ap taken (sym z) ∙ sym one in record {
        remains = e ∙ ap less_by z ∙ ap (λ (x : Splitting). x.rest) some;
        counted = k ∙ ap (λ (x : Splitting). t.count + length x.pieces) some;
        lies =
            x ∙ ap (λ (c : ℕ). with_numbers area t.count (four_numbers place positive c)) z
            ∙ ap (λ (x : Splitting). laid area t.count x.pieces) some;
        lower = subst (λ (v : Vector). v ⊑ t.rest) (sym e) (⊑-rest most.lies);
      }
