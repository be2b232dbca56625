-- A combination cell by cell, and why its sums fit (Specification 2.2 and 6). Assumes nothing.
use mathlib.Core.Path.{◌≡◌, refl, sym, ◌∙◌, ap}
use mathlib.Core.Bool.{false}
use mathlib.Core.List.{List, [], ◌∷◌, append_assoc}
use Prim.Native.Nat.{ℕ, zero, suc, ◌+◌, ◌-◌, ◌*◌, ◌/◌, ◌≤◌, ◌<◌}
use native.Mathlib.Nat.{mul-le-mul}
use native.Mathlib.Numerals.{add-one}
use native.Mathlib.Omega.{arith}
use lib.IntN.{ℤ, pos, nat_abs, ◌+ℤ◌, ◌*ℤ◌}
use lib.ListN.{length, get_or, set, take, drop, replicate, drop_of_length-le, get_or-append}
use lib.Seq.{drop-cons, length-take-le, set-append_seam}
use mir.Syntax.{w64}
use mir.Val.{SFits}
use mir.Facts.{to_z-of_z}
use Rattle.std.specs.List.{list_all, zip}
use Rattle.std.specs.Ordering.{int_eq}
use Rattle.std.proofs.lemmas.List.{take_more}
use Rattle.std.proofs.lemmas.Int.{fits_signed_from_abs, unsigned_abs-mul}
use Rattle.definitions.specs.Limits.{cells, entry_limit, generator_limit, coefficient_limit}
use Rattle.definitions.specs.Lists.{any}
use Rattle.definitions.specs.Vector.{Vector, padded, plus, scale, zeros, zero_vector, equal}
use Rattle.definitions.specs.Lattice.{combination, InLattice}
use Rattle.definitions.specs.Lent.{vectors_of}
use Rattle.definitions.specs.Refusals.{is_past}
use Rattle.theory.proofs.Cell.{abs-plus}
use Rattle.theory.proofs.Members.{Each, any_none, each_at}
use Rattle.theory.proofs.CheckCall.{vectors-count}
use Rattle.theory.proofs.Lattice.{length-combination}
use Rattle.theory.proofs.Accepted.{each-drop, past-none, vectors-length}
use Rattle.theory.proofs.Rows.{lattice-short, short-padded, vectors-short}
use Rattle.theory.proofs.Bounds.{within-each, within-cell}
use Rattle.vectors.proofs.Cells.{equal-cell}
use Rattle.vectors.proofs.Kit.{cell_at, length-row, row_at}
use Rattle.vectors.proofs.Rows.{row_room, vectors-at}
use Rattle.certificates.specs.Tests.{Certificate}

-- cell j of a combination
abbrev pub combined_at : (coefficients : List ℤ) (generators : List Vector) (j : ℕ) → ℤ
combined_at coefficients generators j = cell_at (combination coefficients generators) j

-- ---- the cells

-- a multiple and the rest of a sum
scaled_at : (c : ℤ) (v w : Vector) (j : ℕ) → j < length v → j < length w
    → cell_at (plus (scale c v) w) j ≡ c *ℤ cell_at v j +ℤ cell_at w j
unfolding plus scale
scaled_at c [] w j h k = absurd (omega arith)
scaled_at c (x ∷ v) [] j h k = absurd (omega arith)
scaled_at c (x ∷ v) (y ∷ w) zero h k = refl
scaled_at c (x ∷ v) (y ∷ w) (suc j) h k = scaled_at c v w j (omega arith) (omega arith)

-- a cell of zeros, and past them
zero-at : (k j : ℕ) → cell_at (zeros k) j ≡ pos 0
unfolding zeros
zero-at zero j = refl
zero-at (suc k) zero = refl
zero-at (suc k) (suc j) = zero-at k j

module _ (coefficients : List ℤ) (generators : List Vector) (j q : ℕ) where
  -- the coefficients and the generators from q on
  abbrev left_at : (q : ℕ) → ℤ
  left_at q = combined_at (drop q coefficients) (drop q generators) j

  -- one generator more
  pub combined-turn : Each (λ g. length g ≡ cells) generators → j < cells
      → q < length coefficients → q < length generators
      → left_at q ≡ get_or coefficients q (pos 0) *ℤ cell_at (get_or generators q []) j +ℤ left_at (q + 1)
  unfolding combination
  combined-turn sizes h k l =
      let g = get_or generators q [] in
      let rest = combination (drop (suc q) coefficients) (drop (suc q) generators) in
      let a = each_at generators [] sizes q l in
      let b = length-combination (drop (suc q) coefficients) (each-drop (suc q) sizes) in
      rw (add-one q, drop-cons coefficients q (pos 0) k, drop-cons generators q [] l)
      (scaled_at (get_or coefficients q (pos 0)) g rest j (omega arith) (omega arith))

  -- no generator is left
  pub combined-end : length coefficients ≤ q → left_at q ≡ pos 0
  unfolding combination zero_vector
  combined-end h =
      ap (λ (cs : List ℤ). combined_at cs (drop q generators) j) (drop_of_length-le coefficients h) ∙ zero-at cells j

-- a cell of a generator, in the area that was lent
pub generator-at : (n q j : ℕ) (numbers : List ℤ) → q < length numbers / n → j < n
    → cell_at (get_or (vectors_of n numbers) q []) j ≡ cell_at numbers (q * n + j)
unfolding padded
generator-at n q j numbers h k =
    let row : List ℤ = take n (drop (q * n) numbers) in
    let l = length-row numbers (q * n) n (row_room (length numbers) n q h) in
    ap (λ (v : Vector). cell_at v j) (vectors-at n q numbers h)
    ∙ get_or-append row (replicate (cells - length row) (pos 0)) (pos 0) j (omega arith)
    ∙ row_at numbers (q * n) n j k

-- one generator more, in the area that was lent
module _ (n j q : ℕ) (numbers coefficients : List ℤ) where
  pub combined-next : (n ≤ cells) × (j < n) → Certificate n numbers coefficients → q < length coefficients
      → combined_at (drop q coefficients) (drop q (vectors_of n numbers)) j
      ≡ get_or coefficients q (pos 0) *ℤ get_or numbers (q * n + j) (pos 0) +ℤ combined_at (drop (q + 1) coefficients) (drop (q + 1) (vectors_of n numbers)) j
  combined-next h C k =
      let vs = vectors_of n numbers in
      combined-turn coefficients vs j q (vectors-length n numbers h.0) (omega arith) k (omega (arith, vectors-count n numbers, C.one_each))
      ∙ ap (λ (z : ℤ). get_or coefficients q (pos 0) *ℤ z +ℤ combined_at (drop (q + 1) coefficients) (drop (q + 1) vs) j) (generator-at n q j numbers (omega (arith, C.one_each)) h.1)

-- a combination has the cells of a vector, and those past n are zero
module _ (coefficients : List ℤ) (n : ℕ) (numbers : List ℤ) (h : n ≤ cells) where
  abbrev sum : Vector
  sum = combination coefficients (vectors_of n numbers)

  pub sum-long : length sum ≡ cells
  sum-long = length-combination coefficients (vectors-length n numbers h)

  pub sum-padded : length coefficients ≡ length numbers / n → padded (take n sum) ≡ sum
  sum-padded e =
      let inside : InLattice (vectors_of n numbers) sum =
      record { coefficients = coefficients; one_each = e ∙ sym (vectors-count n numbers); adds_up = refl } in
      short-padded n sum h sum-long
      (lattice-short n (vectors-length n numbers h) (vectors-short n numbers) sum inside)

-- the cells of a vector up to j, and zeros behind them: one cell more
pub padded-more : (v : Vector) (j : ℕ) → length v ≡ cells → j < cells → set (padded (take j v)) j (cell_at v j) ≡ padded (take (j + 1) v)
unfolding padded
padded-more v j e h =
    let l : length (take j v) ≡ j = length-take-le j v (omega arith) in
    let m : length (take (j + 1) v) ≡ j + 1 = length-take-le (j + 1) v (omega arith) in
    let left : cells - j ≡ suc (cells - (j + 1)) = omega arith in
    let seam = set-append_seam (take j v) (pos 0) (replicate (cells - (j + 1)) (pos 0)) (cell_at v j) in
    rw (m, take_more v j (pos 0) (omega arith), append_assoc, l, left) (rw l at seam)

-- .. none yet
pub padded-none : padded [] ≡ replicate cells (pos 0)
unfolding padded
padded-none = refl

-- what a loop that fills in the cells of a combination uses
pub ruleset sum_turn = (padded-none, padded-more, sum-long, sum-padded, to_z-of_z)

-- ---- what the machine makes of a sum

-- the greatest absolute value of a coefficient times an entry
abbrev pub term_limit : ℕ
term_limit = coefficient_limit * entry_limit

-- a coefficient times an entry is small, and fits
pub record Term (c e : ℤ) : Type 0 where
  pub small : nat_abs (c *ℤ e) ≤ term_limit
  pub product_fits : SFits w64 (c *ℤ e)

-- .. at place q of a sum
pub term-at : (n j q : ℕ) (numbers coefficients : List ℤ) → Certificate n numbers coefficients → any (is_past coefficient_limit) coefficients ≡ false
    → q < length coefficients → Term (get_or coefficients q (pos 0)) (get_or numbers (q * n + j) (pos 0))
term-at n j q numbers coefficients C e h =
    let c = get_or coefficients q (pos 0) in
    let entry = get_or numbers (q * n + j) (pos 0) in
    let coefficient-small = past-none coefficient_limit c (each_at coefficients (pos 0) (any_none (is_past coefficient_limit) coefficients e) q h) in
    let entry-small = within-cell entry_limit numbers (within-each entry_limit numbers C.bounded.entries) (q * n + j) in
    let small : nat_abs (c *ℤ entry) ≤ term_limit = omega (arith, unsigned_abs-mul c entry, mul-le-mul coefficient-small entry-small) in
    record { small = small; product_fits = fits_signed_from_abs w64 (c *ℤ entry) (omega arith) }

-- the sum of q such products and one more is small, and fits
pub sum_fits : {c e : ℤ} (s : ℤ) (q : ℕ) → Term c e → nat_abs s ≤ q * term_limit → q < generator_limit
    → (nat_abs (s +ℤ c *ℤ e) ≤ (q + 1) * term_limit) × SFits w64 (s +ℤ c *ℤ e)
sum_fits {c} {e} s q t h k =
    let small : nat_abs (s +ℤ c *ℤ e) ≤ (q + 1) * term_limit = omega (arith, abs-plus s (c *ℤ e), t.small) in
    (small, fits_signed_from_abs w64 (s +ℤ c *ℤ e) (omega arith))

-- ---- a combination against a row, cell by cell

-- std's test of their cells is the comparison of vectors
pub equal-zip : (u v : Vector) → length u ≡ length v → list_all (λ p. int_eq p.0 p.1) (zip u v) ≡ equal u v
unfolding equal
equal-zip [] [] h = refl
equal-zip [] (b ∷ v) h = absurd (omega arith)
equal-zip (a ∷ u) [] h = absurd (omega arith)
equal-zip (a ∷ u) (b ∷ v) h = rw (equal-cell a b, equal-zip u v (omega arith))
