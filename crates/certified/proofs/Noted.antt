-- The coefficients of rows, where they are noted: m numbers to a row, none past its limit; and those of one row more, in a
-- local array and then behind the others (Specification 3.7). Assumes nothing.
use mathlib.Core.Path.{◌≡◌, refl, sym, ◌∙◌, ap}
use mathlib.Core.List.{List, [], ◌∷◌, ◌++◌, append_assoc}
use Prim.Native.Nat.{ℕ, suc, ◌+◌, ◌-◌, ◌*◌, ◌≤◌, ◌<◌}
use native.Mathlib.Numerals.{add-one}
use native.Mathlib.Omega.{arith}
use native.Mathlib.Nat.{mul-le-mul_right}
use borrow.Rule.Slice.PartMut.{post_of, Post-is, put_mid}
use lib.IntN.{ℤ, pos}
use lib.ListN.{length, get_or, take, drop, replicate}
use lib.Seq.{drop_at, length-take-le, paste, take_all, take_at}
use Rattle.definitions.specs.Limits.{generator_limit, stored_coefficient_limit}
use Rattle.definitions.specs.Vector.{weight}
use Rattle.definitions.specs.Lent.{chunks}
use Rattle.theory.proofs.Lists.{chunks-length, part-row, row-end, row-long}
use Rattle.theory.proofs.Members.{Each, each_at, each_from}
use Rattle.theory.proofs.Rows.{chunks-paste}
use Rattle.certified_theory.proofs.Limits.{image_bound}
use Rattle.certified_theory.proofs.Weights.{weight-within}
use Rattle.reduction.specs.declared.Shape.{Shape}
use Rattle.certified.specs.Noting.{Limited, Notable, noted_in, width_of}

module _ {shape : Shape} {k : ℕ} {table : List ℕ} {basis coefficients : List ℤ} (N : Notable shape k table basis coefficients) where
  -- m, as a length of code
  module _ (w : ℕ) (e : w ≡ width_of shape.n basis) (i : ℕ) (h : i < k) where
    pub noted-end : i * w + w ≤ length coefficients
    noted-end =
        let room = ap (λ (m : ℕ). k * m) e in
        omega (arith, row-end i k w h, room, N.room)

    pub noted-part : take (i * w + w - i * w) (drop (i * w) coefficients) ≡ get_or (noted_in shape.n basis k coefficients) i []
    noted-part = part-row w k i coefficients h ∙ ap (λ (m : ℕ). get_or (chunks m k coefficients) i []) e

  module _ (i : ℕ) (h : i < k) where
    pub noted-long : length (get_or (noted_in shape.n basis k coefficients) i []) ≡ width_of shape.n basis
    noted-long = row-long (width_of shape.n basis) k i coefficients h N.room

    pub noted-light : Limited shape.n basis k coefficients → weight (get_or (noted_in shape.n basis k coefficients) i []) ≤ image_bound
    noted-light limited =
        let m = width_of shape.n basis in
        let c = get_or (noted_in shape.n basis k coefficients) i [] in
        let inside = each_at (noted_in shape.n basis k coefficients) [] limited i (omega (arith, chunks-length m k coefficients)) in
        let long = ap (λ (l : ℕ). l * stored_coefficient_limit) noted-long in
        omega (
          arith,
          weight-within stored_coefficient_limit inside,
          long,
          mul-le-mul_right {m = m} {n = generator_limit} stored_coefficient_limit N.closed.is_basis.few,
        )

  pub each_light : Limited shape.n basis k coefficients
      → Each (λ c. weight c ≤ image_bound) (noted_in shape.n basis k coefficients)
  each_light limited =
      each_from (noted_in shape.n basis k coefficients) []
      (λ i h. noted-light i (omega (arith, h, chunks-length (width_of shape.n basis) k coefficients)) limited)

-- ---- one row more

-- the local array
abbrev pub blank : List ℤ
blank = replicate generator_limit (pos 0)

module _ {shape : Shape} {k : ℕ} {table : List ℕ} {basis coefficients : List ℤ} (N : Notable shape k table basis coefficients) where
  -- its first places
  pub few : width_of shape.n basis ≤ generator_limit
  few = N.closed.is_basis.few

  pub blank-long : length (take (width_of shape.n basis) blank) ≡ width_of shape.n basis
  blank-long = length-take-le (width_of shape.n basis) blank few

module _ {shape : Shape} (k : ℕ) {table : List ℕ} {basis coefficients : List ℤ}
    (N : Notable shape (k + 1) table basis coefficients) where
  abbrev m : ℕ
  m = width_of shape.n basis

  -- the places behind those of k rows
  pub last_end : k * m + m ≤ length coefficients
  last_end = noted-end N m refl k (omega arith)

  pub last-long : length (take (k * m + m - k * m) (drop (k * m) coefficients)) ≡ m
  last-long = ap length (noted-part N m refl k (omega arith)) ∙ noted-long N k (omega arith)

  module _ (row : List ℤ) (long : length row ≡ m) where
    -- with the row's coefficients there
    abbrev pub put : List ℤ
    put = put_mid (k * m) (k * m + m - k * m) coefficients row

    pub put-rows : noted_in shape.n basis (k + 1) put ≡ noted_in shape.n basis k coefficients ++ row ∷ []
    put-rows =
        ap (λ (i : ℕ). chunks m i put) (add-one k)
        ∙ ap (chunks m (suc k)) pasted
        ∙ chunks-paste m k coefficients row last_end (omega arith)
        ∙ ap (λ (r : List ℤ). chunks m k coefficients ++ r ∷ []) (take_all m row (omega arith))
      where
        at : ℕ
        at = k * m

        pasted : put ≡ paste coefficients (k * m) row m
        pasted =
            ap (λ (l : List ℤ). take at coefficients ++ (row ++ l)) (Post-is at (at + m) coefficients (omega arith))
            ∙ ap (λ (r : List ℤ). take at coefficients ++ (r ++ drop (at + m) coefficients)) (sym (take_all m row (omega arith)))
            ∙ sym (append_assoc (take at coefficients) (take m row) (drop (at + m) coefficients))

    pub put-row : take (k * m + m - k * m) (drop (k * m) put) ≡ row
    put-row =
        let w : k * m + m - k * m ≡ m = omega arith in
        let rest = post_of (k * m) (k * m + m - k * m) coefficients in
        ap (take (k * m + m - k * m))
        (drop_at (take (k * m) coefficients) (row ++ rest) (k * m) (length-take-le (k * m) coefficients (omega (arith, last_end))))
        ∙ take_at row rest (k * m + m - k * m) (long ∙ sym w)
