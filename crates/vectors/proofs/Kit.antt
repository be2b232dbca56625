-- The cells of a vector, one by one: what a turn of each loop reads or fills, and what the machine makes of sums and
-- negatives. Assumes nothing.
use mathlib.Core.Path.{◌≡◌, refl, ap, ◌∙◌, subst}
use mathlib.Core.Bool.{Bool, true, false, ◌&&◌}
use mathlib.Core.List.{List, [], ◌∷◌, ◌++◌, append-nil}
use Prim.Native.Nat.{ℕ, zero, suc, ◌+◌, ◌-◌, ◌≤◌, ◌<◌}
use native.Mathlib.Nat.{zero-add}
use native.Mathlib.Numerals.{add-one, unary_clauses}
use native.Mathlib.Omega.{arith}
use lib.IntN.{ℤ, pos, nat_abs, neg_ℤ, ◌+ℤ◌}
use lib.Signed.{lt_z}
use mir.Syntax.{w32}
use mir.Val.{SFits}
use Rattle.std.proofs.Common.{to_z-of_z}
use Rattle.std.proofs.lemmas.Int.{ints}
use lib.ListN.{length, take, drop, get_or, set, replicate, length-drop, drop_of_length-le}
use Rattle.std.specs.Cmp.Lexicographic.{pointwise}
use Rattle.std.specs.List.{fold, zip}
use Rattle.std.specs.Ordering.{int_eq}
use lib.Seq.{drop-cons, take_all, length-take-le, get_or-take, get_or-drop, paste, paste-suc}
use Rattle.definitions.specs.Limits.{cells}
use Rattle.definitions.specs.Vector.{Vector, padded, plus, negative, weight, positive_sum, within, equal, greater}
use Rattle.definitions.specs.Group.{Exchange, exchanged}
use Rattle.definitions.specs.Split.{cell_times, times_up_to}
use Rattle.theory.proofs.Turns.{map-turn}
use Rattle.theory.proofs.Cell.{down, up}
use Rattle.theory.proofs.Degree.{negative-cons, positive-cons}
use Rattle.theory.proofs.Bounds.{within-each, within-cell, each_within, within-negative}
use Rattle.vectors.specs.Bounds.{headroom}
use Rattle.vectors.proofs.Cells.{equal-cell, none_below, abs-sum, abs_neg, small-fits}

-- cell i of v
abbrev pub cell_at : Vector → ℕ → ℤ
cell_at v i = get_or v i (pos 0)

-- one cell more
pub drop-one : (v : Vector) (i : ℕ) → i < length v → drop i v ≡ cell_at v i ∷ drop (i + 1) v
drop-one v i h = rw (add-one, drop-cons v i (pos 0))

-- ---- reading: a test of every two cells

-- it holds of all cells just where it holds of the first two and of the rest
pub record Every (all : Vector → Vector → Bool) (test : ℤ → ℤ → Bool) : Type 0 where
  pub none : all [] [] ≡ true
  pub some : (a b : ℤ) (u v : Vector) → all (a ∷ u) (b ∷ v) ≡ test a b && all u v

-- ---- reading: within a limit

-- each cell is within the limit
within-at : (limit : ℕ) (v : Vector) (i : ℕ) → within limit v ≡ true → nat_abs (cell_at v i) ≤ limit
within-at limit v i h = within-cell limit v (within-each limit v h) i

-- ---- reading: the weight

pub weight-cell : (v : Vector) (i : ℕ) → i < length v → weight (drop i v) ≡ nat_abs (cell_at v i) + weight (drop (i + 1) v)
unfolding weight
weight-cell v i h = rw (drop-one v i h)

pub weight-end : (v : Vector) (i : ℕ) → length v ≤ i → weight (drop i v) ≡ 0
unfolding weight
weight-end v i h = rw (drop_of_length-le v h)

pub ruleset weight_turn = (weight-cell, weight-end, to_z-of_z)

-- ---- reading: the two sums of the degree

pub positive-cell : (v : Vector) (i : ℕ) → i < length v → positive_sum (drop i v) ≡ up (cell_at v i) + positive_sum (drop (i + 1) v)
positive-cell v i h = ap positive_sum (drop-one v i h) ∙ positive-cons (cell_at v i) (drop (i + 1) v)

pub negative-cell : (v : Vector) (i : ℕ) → i < length v → positive_sum (negative (drop i v)) ≡ down (cell_at v i) + positive_sum (negative (drop (i + 1) v))
negative-cell v i h = ap (λ (u : Vector). positive_sum (negative u)) (drop-one v i h) ∙ negative-cons (cell_at v i) (drop (i + 1) v)

pub sums_end : (v : Vector) (i : ℕ) → length v ≤ i → (positive_sum (drop i v) ≡ 0) × (positive_sum (negative (drop i v)) ≡ 0)
unfolding positive_sum negative
sums_end v i h = let e = drop_of_length-le v {i = i} h in (ap positive_sum e, ap (λ (u : Vector). positive_sum (negative u)) e)

-- ---- reading: equality, and lexicographically greater

-- std's `==`
pub equal_is : (u v : Vector) → pointwise int_eq u v ≡ equal u v
unfolding equal
equal_is [] [] = refl
equal_is [] (b ∷ v) = refl
equal_is (a ∷ u) [] = refl
equal_is (a ∷ u) (b ∷ v) = rw (equal-cell a b, equal_is u v)

-- the first cell that differs decides
pub greater-cell : (u v : Vector) (i : ℕ) → i < length u → i < length v → (cell_at u i ≡ cell_at v i → ⊥) → greater (drop i u) (drop i v) ≡ lt_z (cell_at v i) (cell_at u i)
unfolding greater
greater-cell u v i h k e = rw (drop-one u i h, drop-one v i k) (grind (arith, ints))

-- one that does not decides nothing
pub greater_more : (u v : Vector) (i : ℕ) → i < length u → i < length v → cell_at u i ≡ cell_at v i → greater (drop i u) (drop i v) ≡ greater (drop (i + 1) u) (drop (i + 1) v)
unfolding greater
greater_more u v i h k e = rw (drop-one u i h, drop-one v i k) (grind (arith, ints))

-- no cell differs
pub greater-end : (u v : Vector) (i : ℕ) → length u ≤ i → greater (drop i u) (drop i v) ≡ false
unfolding greater
greater-end u v i h = rw (drop_of_length-le u h)

pub ruleset greater_turn = (greater-cell, greater_more, greater-end, to_z-of_z)

-- ---- reading: the greatest multiple

pub times-fold : (bound : ℕ) (u v : Vector) → fold (λ (b : ℕ) (p : ℤ × ℤ). cell_times b p.0 p.1) bound (zip u v) ≡ times_up_to bound u v
unfolding times_up_to
times-fold bound [] v = refl
times-fold bound (a ∷ u) [] = refl
times-fold bound (a ∷ u) (b ∷ v) = times-fold (cell_times bound a b) u v

-- ---- filling

-- the store of a loop that fills w with p
pub fill : (w₀ p : Vector) {w : Vector} (i : ℕ) {a : ℤ} → w ≡ paste w₀ 0 p i → a ≡ cell_at p i → i < length w₀ → i < length p → set w i a ≡ paste w₀ 0 p (i + 1)
fill w₀ p i e f h k =
    let stored = paste-suc w₀ 0 p i (pos 0) (omega arith) k in
    rw (e, f, add-one i) (subst (λ (at : ℕ). set (paste w₀ 0 p i) at (cell_at p i) ≡ paste w₀ 0 p (suc i)) (zero-add i) stored)

-- what a loop has filled: p, and what was behind it
pub filled-part : (w₀ p : Vector) {w : Vector} (i : ℕ) → w ≡ paste w₀ 0 p i → length p ≡ i → w ≡ p ++ drop (length p) w₀
filled-part w₀ p i e h = rw (e, zero-add i, ← h, take_all (length p) p (omega arith))

-- all of it
pub filled : (w₀ p : Vector) {w : Vector} (i : ℕ) → w ≡ paste w₀ 0 p i → length p ≡ i → length w₀ ≤ i → w ≡ p
filled w₀ p i e h k =
    let none : drop (length p) w₀ ≡ [] = drop_of_length-le w₀ {i = length p} (omega arith) in
    filled-part w₀ p i e h ∙ rw (none, append-nil p)

-- ---- sums and negatives, by the cell

pub plus-at : (u v : Vector) (i : ℕ) → i < length u → i < length v → cell_at (plus u v) i ≡ cell_at u i +ℤ cell_at v i
unfolding plus
plus-at [] v i h k = none_below h
plus-at (a ∷ u) [] i h k = none_below k
plus-at (a ∷ u) (b ∷ v) zero h k = refl
plus-at (a ∷ u) (b ∷ v) (suc i) h k = plus-at u v i (omega arith) (omega arith)

pub negative-at : (v : Vector) (i : ℕ) → cell_at (negative v) i ≡ neg_ℤ (cell_at v i)
unfolding negative
negative-at [] i = refl
negative-at (a ∷ v) zero = refl
negative-at (a ∷ v) (suc i) = negative-at v i

-- the sums and negatives of vectors within the headroom fit
pub sum-fits : (u v : Vector) (i : ℕ) → within headroom u ≡ true → within headroom v ≡ true → SFits w32 (cell_at u i +ℤ cell_at v i)
sum-fits u v i hu hv =
    let a = within-at headroom u i hu in
    let b = within-at headroom v i hv in
    small-fits (cell_at u i +ℤ cell_at v i) (omega (arith, abs-sum (cell_at u i) (cell_at v i)))

pub negative_fits : (v : Vector) (i : ℕ) → within headroom v ≡ true → SFits w32 (neg_ℤ (cell_at v i))
negative_fits v i hv =
    let a = within-at headroom v i hv in
    small-fits (neg_ℤ (cell_at v i)) (omega (arith, abs_neg (cell_at v i)))

-- a negative keeps a bound
pub negative_within : (limit : ℕ) (v : Vector) → within limit v ≡ true → within limit (negative v) ≡ true
negative_within limit v h = each_within limit (within-negative (within-each limit v h))

-- ---- exchanges

-- no cell is exchanged yet, and one more
pub exchanged_none : (v : Vector) → exchanged [] v ≡ v
unfolding exchanged
exchanged_none v = refl

pub exchanged_more : (s : Exchange) (v : Vector) (j : ℕ) → j < length s → j < length v
    → set (exchanged (take j s) v) j (cell_at v (get_or s j 0 - 1)) ≡ exchanged (take (j + 1) s) v
unfolding exchanged
exchanged_more s v j h k =
    rw (length-take-le j s (omega arith), length-take-le (j + 1) s (omega arith)) (map-turn (λ cell. cell_at v (cell - 1)) j s 0 v h k)

pub ruleset exchange_turn = (exchanged_none, exchanged_more, take_all, to_z-of_z)

-- ---- rows of an area

pub length-row : (area : List ℤ) (at n : ℕ) → at + n ≤ length area → length (take n (drop at area)) ≡ n
length-row area at n h = length-take-le n (drop at area) (simp length-drop (omega arith))

pub row_at : (area : List ℤ) (at n j : ℕ) → j < n → cell_at (take n (drop at area)) j ≡ cell_at area (at + j)
row_at area at n j h = rw (get_or-take n (drop at area) j (pos 0) h, get_or-drop)

drop-zeros : (k n : ℕ) → drop n (replicate k (pos 0)) ≡ replicate (k - n) (pos 0)
drop-zeros k zero = simp unary_clauses
drop-zeros zero (suc n) = ap (λ (k : ℕ). replicate k (pos 0)) (let e : 0 ≡ 0 - suc n = omega arith in e)
drop-zeros (suc k) (suc n) = simp unary_clauses (drop-zeros k n)

-- p in front of zeros is p padded
pub padded_front : (p : Vector) (n : ℕ) → length p ≡ n → p ++ drop n (replicate cells (pos 0)) ≡ padded p
unfolding padded
padded_front p n h = rw (← h, drop-zeros cells (length p))

-- zeros filled with p are p padded
pub filled-zeros : (p : Vector) {w : Vector} (i : ℕ) → w ≡ paste (replicate cells (pos 0)) 0 p i → length p ≡ i → w ≡ padded p
filled-zeros p i e h = filled-part (replicate cells (pos 0)) p i e h ∙ padded_front p (length p) refl
