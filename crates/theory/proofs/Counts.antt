-- How great the numbers of accepted calls can be (Specification 4.1, 6 and 7.4): the counts that answers report, and the numbers of pieces.
-- Assumes nothing.
use Rattle.definitions.specs.Refusals.{no_fault}
use mathlib.Core.Path.{◌≡◌, refl, subst}
use mathlib.Core.Bool.{Bool, true, false}
use mathlib.Core.List.{List, [], ◌∷◌, map, Memᴰ}
use Prim.Native.Nat.{ℕ, zero, suc, ◌/◌, ◌≤◌, ◌<◌}
use native.Mathlib.Omega.{arith}
use lib.IntN.{ℤ, pos, nat_abs}
use lib.ListN.{length}
use Rattle.definitions.specs.Limits.{group_limit, list_limit, piece_width, split_limit}
use Rattle.definitions.specs.Lists.{concat}
use Rattle.definitions.specs.Vector.{Vector, padded, scale, weight}
use Rattle.definitions.specs.Completion.{sum_count}
use Rattle.definitions.specs.Split.{Piece, share, sign, written}
use Rattle.definitions.specs.Lent.{Order, table_of}
use Rattle.definitions.specs.Refusals.{accepted, admission_fault, brought_fits}
use Rattle.definitions.specs.Calls.{Listing, Parts, check_fault, listing, parts, rules_fault}
use Rattle.theory.proofs.Members.{Each, each_append, each-cons, each-image, each_member, each_nil, each_of}
use Rattle.theory.proofs.Bounds.{Within, within-below}
use Rattle.theory.proofs.Times.{abs-times, no_more}
use Rattle.theory.proofs.Split.{fit-images, splitting-pieces}
use Rattle.theory.proofs.Faults.{tests-none}
use Rattle.theory.proofs.Sizes.{sizes-of-check}
use Rattle.theory.proofs.Accepted.{admission-none, padded-within, table-small}
use Rattle.theory.proofs.ListCall.{ListFacts, listing-facts}
use Rattle.theory.proofs.SplitCall.{SplitMade, split-facts, split-made}
use Rattle.theory.proofs.Refused.{place_limit, sums-few}

-- ---- List
pub record ListCounts (found : Listing) : Type 0 where
  pub table : length found.table ≤ group_limit
  pub rows : length found.rows ≤ list_limit
  pub stored : found.stored ≤ list_limit
  pub sums : found.sums ≤ place_limit

-- LIST: the counts that an accepted one reports
pub listing-counts : (order : Order) (list_size group_size : ℕ) (found : Listing) → listing order list_size group_size ≡ accepted found → ListCounts found
listing-counts order list_size group_size found e = record {
  table = F.small;
  rows = omega (arith, F.few, F.room);
  stored = F.room;
  sums = omega (arith, F.kept.counted, sums-few F.small F.room);
}
  where
    F : ListFacts order found
    F = listing-facts order list_size group_size found e

-- ---- Check
pub record CheckCounts (order : Order) (brought : List ℤ) (group_size : ℕ) : Type 0 where
  pub table : length (table_of order group_size) ≤ group_limit
  pub rows : length brought / order.n ≤ list_limit
  pub sums : sum_count (length (table_of order group_size)) (length brought / order.n) ≤ place_limit

-- CHECK: the counts that a passed one reports
pub check-counts : (order : Order) (brought coefficients : List ℤ) (group_size : ℕ) → check_fault order brought coefficients group_size ≡ no_fault → CheckCounts order brought group_size
unfolding check_fault rules_fault
check-counts order brought coefficients group_size e =
    let a = tests-none (rules_fault order brought coefficients group_size) _ e in
    let b = tests-none (admission_fault order group_size (brought_fits order brought coefficients)) _ a.0 in
    let A = admission-none order group_size (brought_fits order brought coefficients) b.0 in
    let few = (sizes-of-check order brought coefficients group_size A.sizes_pass).few in
    let small = table-small order group_size A.tests_pass in
    record { table = small; rows = few; sums = sums-few small few }

-- ---- Split

-- a multiple of a nonzero vector with no entry past the limit is at most so many times the vector
multiple-few : {limit : ℕ} (c : ℕ) (u : Vector) → 0 < weight u → Within limit (scale (pos c) u) → c ≤ limit
unfolding scale weight
multiple-few c [] w h = absurd (omega arith)
multiple-few {limit} c (x ∷ u) w (each-cons k h) = go (nat_abs x) refl (λ l. multiple-few c u l h)
  where
    go : (a : ℕ) → nat_abs x ≡ a → (0 < weight u → c ≤ limit) → c ≤ limit
    go zero e rest = rest (omega arith)
    go (suc a) e rest = omega (arith, no_more c (nat_abs x) (omega arith), abs-times c x)

-- how great the numbers of a piece can be
pub record PieceCounts (piece : Piece) : Type 0 where
  pub row : piece.image.row < list_limit
  pub position : piece.image.position < group_limit
  pub count : piece.count ≤ split_limit

pub written-within : (piece : Piece) → PieceCounts piece → Within split_limit (written piece)
unfolding written sign
written-within piece h =
    let row : piece.image.row ≤ split_limit = omega arith in
    let position : piece.image.position ≤ split_limit = omega arith in
    each-cons row (each-cons position (each-cons (sign-within piece.image.positive) (each-cons h.count each_nil)))
  where
    sign-within : (b : Bool) → nat_abs (sign b) ≤ split_limit
    sign-within true = omega arith
    sign-within false = omega arith

each-concat : {A : Type 0} {P : A → Type 0} {xss : List (List A)} → Each (Each P) xss → Each P (concat xss)
unfolding concat
each-concat each_nil = each_nil
each-concat (each-cons h t) = each_append h (each-concat t)

pub record SplitCounts (pieces_size : ℕ) (found : Parts) : Type 0 where
  pub listed : ListCounts found.listing
  pub room : length found.pieces ≤ pieces_size / piece_width
  pub each : (piece : Piece) → Memᴰ piece found.pieces → PieceCounts piece
  pub numbers : Within split_limit (concat (map written found.pieces))

-- SPLIT: the counts that an accepted one reports, and the numbers of its pieces
pub split-counts : (order : Order) (vector : List ℤ) (list_size group_size pieces_size : ℕ) (found : Parts) → parts order vector list_size group_size pieces_size ≡ accepted found → SplitCounts pieces_size found
unfolding share
split-counts order vector list_size group_size pieces_size found e = record {
  listed = C;
  room = M.room;
  each = counts;
  numbers = each-concat (each-image written written-within (each_of found.pieces counts));
}
  where
    M : SplitMade order vector list_size group_size pieces_size found
    M = split-made order vector list_size group_size pieces_size found e

    F : ListFacts order found.listing
    F = listing-facts order list_size group_size found.listing M.listed

    C : ListCounts found.listing
    C = listing-counts order list_size group_size found.listing M.listed

    counts : (piece : Piece) → Memᴰ piece found.pieces → PieceCounts piece
    counts piece k =
        let fit = fit-images F.symmetric found.listing.rows F.stored in
        let t = splitting-pieces fit (padded vector) M.long piece (subst (Memᴰ piece) M.pieces k) in
        let is = (split-facts order vector list_size group_size pieces_size found e).kept.each piece k in
        record {
          row = omega (arith, is.row, C.rows);
          position = omega (arith, is.position, C.table);
          count = multiple-few piece.count piece.image.vector (each_member fit t.listed).1 (within-below (share piece) (padded vector) t.fits (padded-within M.limited));
        }
