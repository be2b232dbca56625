-- The rows of the generators, generator by generator: of those whose row is stored the first gives it its coefficients
-- (Specification 3.1 and 3.7). Assumes nothing.
use mathlib.Core.Path.{◌≡◌, refl, sym, ◌∙◌, ap, ap₂, subst}
use mathlib.Core.Logic.{◌⊎◌, inl, inr}
use mathlib.Core.Bool.{Bool, true, false, cond}
use mathlib.Core.List.Memᴰ
use mathlib.Core.List.{List, [], ◌∷◌, ◌++◌, map, append_assoc, append-nil, Memᴰ}
use Prim.Native.Nat.{ℕ, ◌+◌, ◌≤◌, ◌<◌}
use native.Mathlib.Numerals.{add-one}
use native.Mathlib.Omega.{arith}
use lib.ListN.{length, get_or, take, drop, drop_of_length-le, length-append, length-take}
use lib.Seq.{get_or_at, length-take-le, take-suc}
use Rattle.definitions.specs.Vector.{Vector, is_member}
use Rattle.definitions.specs.Group.{Exchange}
use Rattle.definitions.specs.Orbit.{representative}
use Rattle.definitions.specs.Completion.{stored_rows}
use Rattle.definitions.specs.Certified.{Certified, certified_row, coefficients_of, counted_as}
use Rattle.theory.proofs.Counting.{if-cases}
use Rattle.theory.proofs.Equal.{is_member_lem, not-member}
use Rattle.theory.proofs.Tests.{bool_cases, trichotomy}
use Rattle.certified_theory.proofs.Indices.{looked-generator}
use Rattle.certified_theory.proofs.Made.{of}
use Rattle.completion.specs.Storing.{with_stored}
use Rattle.completion.proofs.FirstRows.{stored-step}

-- what a generator gives the row of its kind
abbrev pub entry_of : (table : List Exchange) (basis : List Vector) → Vector → Certified
entry_of table basis v = certified_row basis table (of v (counted_as basis v))

module _ (table : List Exchange) where
  -- rows that are stored stay in front
  stored-tail : (rows gs : List Vector) → (tail : List Vector) × (stored_rows table rows gs ≡ rows ++ tail)
  unfolding stored_rows
  stored-tail rows [] = ([], sym (append-nil rows))
  stored-tail rows (v ∷ gs) =
      let row = representative table v in
      let more = stored-tail (rows ++ row ∷ []) gs in
      if-cases (λ (l : List Vector). (tail : List Vector) × (stored_rows table l gs ≡ rows ++ tail)) (is_member row rows)
      (λ e. stored-tail rows gs) (λ e. (row ∷ more.0, more.1 ∙ append_assoc rows (row ∷ []) more.0))

  -- the next row to be stored is
  stored_next : (rows gs : List Vector) (row : Vector)
      → get_or (stored_rows table (rows ++ row ∷ []) gs) (length rows) [] ≡ row
  stored_next rows gs row =
      let more = stored-tail (rows ++ row ∷ []) gs in
      ap (λ (l : List Vector). get_or l (length rows) []) (more.1 ∙ append_assoc rows (row ∷ []) more.0)
      ∙ get_or_at rows row more.0 [] (length rows) refl

  -- none of them
  stored-fresh : (rows gs : List Vector) → length rows < length (stored_rows table rows gs)
      → is_member (get_or (stored_rows table rows gs) (length rows) []) rows ≡ false
  unfolding stored_rows
  stored-fresh rows [] = λ h. absurd (omega arith)
  stored-fresh rows (v ∷ gs) =
      let row = representative table v in
      if-cases
      (λ (l : List Vector). length rows < length (stored_rows table l gs)
      → is_member (get_or (stored_rows table l gs) (length rows) []) rows ≡ false)
      (is_member row rows) (λ e. stored-fresh rows gs)
      (λ e h. ap (λ (u : Vector). is_member u rows) (stored_next rows gs row) ∙ e)

  module _ (gs : List Vector) where
    abbrev all : List Vector
    all = stored_rows table [] gs

    -- the row of generator j
    abbrev row_of : ℕ → Vector
    row_of j = representative table (get_or gs j [])

    -- the first r rows are those of the first p generators
    pub record Walked (r p : ℕ) : Type 0 where
      pub place : p ≤ length gs
      pub few : r ≤ length all
      pub same : stored_rows table (take r all) (drop p gs) ≡ all
      pub seen : (j : ℕ) → j < p → Memᴰ (row_of j) (take r all)

    pub walked_start : Walked 0 0
    walked_start = record { place = omega arith; few = omega arith; same = refl; seen = λ j h. absurd (omega arith) }

    -- all generators are passed
    pub walked_end : {r p : ℕ} → Walked r p → length gs ≤ p → r ≡ length all
    unfolding stored_rows
    walked_end {r} {p} W h =
        let none = drop_of_length-le gs {i = p} h in
        let whole = ap (stored_rows table (take r all)) (sym none) ∙ W.same in
        omega (arith, ap length whole, length-take r all, W.few)

    module _ {r p : ℕ} (W : Walked r p) where
      abbrev before : List Vector
      before = take r all

      before-long : length before ≡ r
      before-long = length-take-le r all W.few

      -- row r is none of those before it
      fresh : r < length all → ¬ (Memᴰ (get_or all r []) before)
      fresh l =
          let h : length before < length (stored_rows table before (drop p gs)) = omega (arith, before-long, ap length W.same) in
          let f = stored-fresh before (drop p gs) h in
          not-member (get_or all r []) before
          (ap₂ (λ (l : List Vector) (i : ℕ). is_member (get_or l i []) before) (sym W.same) (sym before-long) ∙ f)

      module _ (h : p < length gs) where
        onward : stored_rows table (with_stored (row_of p) before) (drop (p + 1) gs) ≡ all
        onward = sym (stored-step table before gs p h) ∙ W.same

        seen_more : (k : ℕ) → Memᴰ (row_of p) (take k all) → ((j : ℕ) → j < p → Memᴰ (row_of j) (take k all))
            → (j : ℕ) → j < p + 1 → Memᴰ (row_of j) (take k all)
        seen_more k here old j l = go (trichotomy j p)
          where
            go : (j < p) ⊎ ((j ≡ p) ⊎ (p < j)) → Memᴰ (row_of j) (take k all)
            go (inl a) = old j a
            go (inr (inl e)) = subst (λ (i : ℕ). Memᴰ (row_of i) (take k all)) (sym e) here
            go (inr (inr a)) = absurd (omega arith)

        -- its row is not row r: so it is one of those before
        pub walked-old : (r < length all → ¬ (row_of p ≡ get_or all r [])) → Walked r (p + 1)
        walked-old other = go (bool_cases (is_member (row_of p) before))
          where
            go : (is_member (row_of p) before ≡ true) ⊎ (is_member (row_of p) before ≡ false) → Walked r (p + 1)
            go (inl e) = record {
              place = omega arith;
              few = W.few;
              same = ap (λ (b : Bool). stored_rows table (cond b before (before ++ row_of p ∷ [])) (drop (p + 1) gs)) (sym e) ∙ onward;
              seen = seen_more r (is_member_lem (row_of p) before e) W.seen;
            }
            go (inr e) =
                let new = ap (λ (b : Bool). stored_rows table (cond b before (before ++ row_of p ∷ [])) (drop (p + 1) gs)) (sym e) ∙ onward in
                let more = stored-tail (before ++ row_of p ∷ []) (drop (p + 1) gs) in
                let long = ap length (sym new ∙ more.1) in
                let l : r < length all =
                omega (arith, long, length-append (before ++ row_of p ∷ []) more.0, length-append before (row_of p ∷ []), before-long) in
                absurd
                (other l
                (sym (stored_next before (drop (p + 1) gs) (row_of p)) ∙ ap₂ (λ (l : List Vector) (i : ℕ). get_or l i []) new before-long))

        -- its row is row r, and it is the first whose row that is
        module _ (l : r < length all) (own : row_of p ≡ get_or all r []) where
          pub walked-new : Walked (r + 1) (p + 1)
          walked-new =
              let none = not_in (bool_cases (is_member (row_of p) before)) in
              let new = ap (λ (b : Bool). stored_rows table (cond b before (before ++ row_of p ∷ [])) (drop (p + 1) gs)) (sym none) ∙ onward in
              let one = ap (λ (k : ℕ). take k all) (add-one r) ∙ take-suc all r [] l ∙ ap (λ (v : Vector). before ++ v ∷ []) (sym own) in
              record {
                place = omega arith;
                few = omega arith;
                same = ap (λ (rows : List Vector). stored_rows table rows (drop (p + 1) gs)) one ∙ new;
                seen = seen_more (r + 1) (subst (Memᴰ (row_of p)) (sym one) (Memᴰ.append_right before (Memᴰ.head refl)))
                    (λ j k. subst (Memᴰ (row_of j)) (sym one) (Memᴰ.append_left (row_of p ∷ []) (W.seen j k)));
              }
            where
              not_in : (is_member (row_of p) before ≡ true) ⊎ (is_member (row_of p) before ≡ false) → is_member (row_of p) before ≡ false
              not_in (inl e) = absurd (fresh l (subst (λ (v : Vector). Memᴰ v before) own (is_member_lem (row_of p) before e)))
              not_in (inr e) = e

          -- so it gives the row its coefficients
          pub first_gives : (basis : List Vector)
              → coefficients_of (map (entry_of table basis) gs) (get_or all r []) ≡ (entry_of table basis (get_or gs p [])).coefficients
          unfolding certified_row
          first_gives basis =
              looked-generator (entry_of table basis) gs p (get_or all r []) h own
              (λ j k e. fresh l (subst (λ (v : Vector). Memᴰ v before) e (W.seen j k)))
