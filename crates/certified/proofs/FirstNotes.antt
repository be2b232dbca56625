-- The coefficients of the rows of the generators are noted, generator by generator (Specification 3.1 and 3.7). Assumes
-- nothing.
use mathlib.Core.Path.{◌≡◌, refl, sym, ◌∙◌, ap, ap₂, subst}
use mathlib.Core.Logic.{◌⊎◌, inl, inr}
use mathlib.Core.Bool.{true, false}
use mathlib.Core.List.{List, [], ◌∷◌, ◌++◌, map}
use Prim.Native.Nat.{ℕ, ◌+◌, ◌≤◌, ◌<◌}
use native.Mathlib.Numerals.{add-one}
use native.Mathlib.Omega.{arith}
use lib.IntN.{ℤ}
use lib.ListN.{length, get_or, take, length-map}
use lib.Seq.{take_all, take-suc}
use Rattle.definitions.specs.Vector.{Vector, equal}
use Rattle.definitions.specs.Group.{Exchange}
use Rattle.definitions.specs.Orbit.{representative}
use Rattle.definitions.specs.Completion.{stored_rows}
use Rattle.definitions.specs.Certified.{certified_begun, coefficients_of}
use Rattle.definitions.specs.Lent.{chunks, vectors_of}
use Rattle.theory.proofs.CheckCall.{vectors-count}
use Rattle.theory.proofs.Equal.{equal-same, same-equal}
use Rattle.theory.proofs.Lists.{get_d_map}
use Rattle.theory.proofs.Rows.{row_at, rows-count}
use Rattle.theory.proofs.Tests.{bool_cases, clash}
use Rattle.reduction.specs.declared.Shape.{Shape}
use Rattle.reduction.specs.Areas.{rows_at, sequences_in}
use Rattle.certified.specs.Noting.{FirstStored, GeneratorNoted, coefficients_by, first_coefficients, noted_in, width_of}
use Rattle.certified.proofs.Firsts.{Walked, entry_of, first_gives, walked_end, walked-new, walked-old, walked_start}

-- the rows, and their coefficients
abbrev all_in : Shape → (table : List ℕ) (basis : List ℤ) → List Vector
all_in shape table basis = stored_rows (sequences_in shape table) [] (vectors_of shape.n basis)

abbrev due_in : Shape → (table : List ℕ) (basis : List ℤ) → List (List ℤ)
due_in shape table basis =
    let generators = vectors_of shape.n basis in
    map (coefficients_of (map (entry_of (sequences_in shape table) generators) generators)) (all_in shape table basis)

-- what holds whenever the loop's test is reached
pub record FirstNoted (shape : Shape) (table : List ℕ) (basis coefficients : List ℤ) (r p : ℕ) : Type 0 where
  pub walked : Walked (sequences_in shape table) (vectors_of shape.n basis) r p
  pub noted : noted_in shape.n basis r coefficients ≡ take r (due_in shape table basis)

pub first-same : {shape : Shape} {table : List ℕ} {basis c d : List ℤ} {r k p : ℕ} → d ≡ c → k ≡ r → FirstNoted shape table basis c r p
    → FirstNoted shape table basis d k p
first-same e f F = rw (e, f) F

pub first-start : (shape : Shape) (table : List ℕ) (basis coefficients : List ℤ) → FirstNoted shape table basis coefficients 0 0
unfolding chunks
first-start shape table basis coefficients =
    record { walked = walked_start (sequences_in shape table) (vectors_of shape.n basis); noted = refl }

module _ {shape : Shape} {table : List ℕ} {list basis : List ℤ} {stored : ℕ} (S : FirstStored shape table list basis stored) where
  abbrev G : List Exchange
  G = sequences_in shape table

  abbrev generators : List Vector
  generators = vectors_of shape.n basis

  abbrev all : List Vector
  all = all_in shape table basis

  abbrev due : List (List ℤ)
  due = due_in shape table basis

  all-stored : length all ≡ stored
  all-stored = ap length (sym S.rows) ∙ rows-count shape.n stored list

  due-long : length due ≡ length all
  due-long = length-map all (coefficients_of (map (entry_of G generators) generators))

  count : length generators ≡ width_of shape.n basis
  count = vectors-count shape.n basis

  module _ {coefficients : List ℤ} {r p : ℕ} (F : FirstNoted shape table basis coefficients r p) where
    -- all generators are passed
    pub first-end : width_of shape.n basis ≤ p → (limit : ℕ)
        → noted_in shape.n basis stored coefficients ≡ first_coefficients shape limit table basis
    unfolding certified_begun
    first-end h limit =
        let last = walked_end G generators F.walked (omega (arith, count)) in
        ap (λ (k : ℕ). noted_in shape.n basis k coefficients) (sym (last ∙ all-stored))
        ∙ F.noted
        ∙ take_all r due (omega (arith, due-long, last))

    module _ (h : p < width_of shape.n basis) where
      inside : p < length generators
      inside = omega (arith, count)

      -- all rows are noted
      pub first_past : stored ≤ r → FirstNoted shape table basis coefficients r (p + 1)
      first_past k = record {
        walked = walked-old G generators F.walked inside (λ l. absurd (omega (arith, l, all-stored)));
        noted = F.noted;
      }

      -- row r is compared with the generator's
      module _ (l : r < stored) {coefficients' : List ℤ} {k : ℕ} (N : GeneratorNoted shape table list basis p r coefficients coefficients' k)
        where
          abbrev own : Vector
          own = representative G (get_or generators p [])

          at : get_or (rows_at shape.n (r + 1) list) r [] ≡ get_or all r []
          at =
              sym (row_at shape.n (r + 1) r list (omega arith))
              ∙ row_at shape.n stored r list l
              ∙ ap (λ (rows : List Vector). get_or rows r []) S.rows

          other : ¬ (own ≡ get_or all r []) → FirstNoted shape table basis coefficients' k (p + 1)
          other f =
              let same = N.other (λ e. f (e ∙ at)) in
              record {
                walked = subst (λ (i : ℕ). Walked G generators i (p + 1)) (sym same.0)
                    (walked-old G generators F.walked inside (λ a. f));
                noted = ap₂ (λ (i : ℕ) (c : List ℤ). noted_in shape.n basis i c) same.0 same.1
                    ∙ F.noted ∙ ap (λ (i : ℕ). take i due) (sym same.0);
              }

          mine : own ≡ get_or all r [] → FirstNoted shape table basis coefficients' k (p + 1)
          mine e =
              let new = N.own (e ∙ sym at) in
              let a : r < length all = omega (arith, all-stored) in
              let known = map (entry_of G generators) generators in
              let gives = first_gives G generators F.walked inside a e generators in
              let row = get_d_map (coefficients_of known) all r [] [] a ∙ gives in
              let more =
              ap (λ (i : ℕ). take i due) (add-one r) ∙ take-suc due r [] (omega (arith, due-long))
              ∙ ap (λ (c : List ℤ). take r due ++ c ∷ []) row in
              record {
                walked = subst (λ (i : ℕ). Walked G generators i (p + 1)) (sym new.0)
                    (walked-new G generators F.walked inside a e);
                noted = ap (λ (i : ℕ). noted_in shape.n basis i coefficients') new.0
                    ∙ new.1
                    ∙ ap (λ (x : List (List ℤ)). x ++ coefficients_by shape table basis p ∷ []) F.noted
                    ∙ sym more
                    ∙ ap (λ (i : ℕ). take i due) (sym new.0);
              }

          pub first-onward : FirstNoted shape table basis coefficients' k (p + 1)
          first-onward = go (bool_cases (equal own (get_or all r [])))
            where
              go : (equal own (get_or all r []) ≡ true) ⊎ (equal own (get_or all r []) ≡ false)
                  → FirstNoted shape table basis coefficients' k (p + 1)
              go (inl e) = mine (equal-same own (get_or all r []) e)
              go (inr e) =
                  other (λ q. clash (same-equal (get_or all r [])) (ap (λ (v : Vector). equal v (get_or all r [])) (sym q) ∙ e))
