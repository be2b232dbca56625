-- Step 1 with the coefficients of its rows, and then the run of its first state (Specification 3.1 to 3.4 and 3.7). Assumes
-- nothing.
use Rattle.std.specs.declared.result.Result.TheVariants.{Err}
use Rattle.definitions.specs.declared.Refusal.{Refusal}
use Rattle.definitions.specs.Refusals.{Outcome, accepted}
use mathlib.Core.Path.{◌≡◌, refl, sym, ◌∙◌, ap, ap₂, subst}
use mathlib.Core.List.{List, [], ◌∷◌, map}
use Prim.Native.Nat.{ℕ, zero, suc, ◌/◌, ◌≤◌, ◌<◌}
use native.Mathlib.Nat.{mul-le-mul_right, zero-div}
use native.Mathlib.Omega.{arith}
use lib.Dec.{leb}
use lib.IntN.{ℤ}
use lib.ListN.{length, drop, length-map}
use Rattle.definitions.specs.Limits.{stored_coefficient_limit}
use Rattle.definitions.specs.Lists.{until}
use Rattle.definitions.specs.Vector.{Vector, weight}
use Rattle.definitions.specs.Group.{Exchange}
use Rattle.definitions.specs.Completion.{begun, first_state, running, stopped, stored_rows}
use Rattle.definitions.specs.Completion as Defined
use Rattle.definitions.specs.Certified.{Certified, CertifiedCompletion, certified_begun, certified_completed, certified_row}
use Rattle.definitions.specs.Certified.{counted_as, is_over_certified}
use Rattle.definitions.specs.Lent.{chunks, vectors_of}
use Rattle.theory.proofs.Members.{Each, each-cons, each-image, each_map, each_nil, each_of}
use Rattle.theory.proofs.Bounds.{Within, within_more}
use Rattle.theory.proofs.Counting.{if-cases}
use Rattle.theory.proofs.Completion.{Sound, begun-sound}
use Rattle.theory.proofs.Rows.{rows-count}
use Rattle.certified_theory.proofs.Weights.{Light, counted-light, looked-light, row-light, within-weight}
use Rattle.certified_theory.proofs.Forgetting.{begun-empty}
use Rattle.certified_theory.proofs.Stopping.{until-over}
use Rattle.reduction.specs.Areas.{sequences_in}
use Rattle.completion.specs.declared.Sizes.{Sizes}
use Rattle.completion.specs.declared.State.{State}
use Rattle.completion.specs.Machine.{Admissible, After, Areas, Ready, begun_in, state_in}
use Rattle.completion.proofs.Facts.{areas-again, setting-of}
use Rattle.certified.specs.Noting.{CertifiedTo, FirstStored, Notable, NotedRows, completed_in, first_coefficients}
use Rattle.certified.specs.Noting.{noted_in, ran_in, standing_in, width_of}
use Rattle.coefficients.proofs.Nothing.{vectors-none}
use Rattle.certified.proofs.Advancing.{certified-same, notable-fewer}
use Rattle.certified.proofs.Made.{rows_made}
use Rattle.certified.proofs.Turns.{all_sums, stopped-over, turn}

-- a completion with these rows in which no sum was tried, unless it was turned down
abbrev Untried : (rows : List Vector) → Defined.Completion → Type 0
Untried rows (running s) = (s.sums ≡ 0) × (s.rows ≡ rows)
Untried rows (stopped number place) = Unit {0}

begun-untried : (table : List Exchange) (limit : ℕ) (generators : List Vector)
    → Untried (stored_rows table [] generators) (begun table limit generators)
unfolding begun first_state
begun-untried table limit generators =
    let rows = stored_rows table [] generators in
    if-cases (Untried rows) (leb (length rows) limit) (λ e. (refl, refl)) (λ e. tt)

-- ---- the coefficients of the first rows

-- none is past its limit: each is at most 1
begun-limited : (basis : List Vector) (table : List Exchange) (limit : ℕ) (generators : List Vector)
    → Each (Within stored_coefficient_limit) (certified_begun basis table limit generators).coefficients
unfolding certified_begun
begun-limited basis table limit generators =
    each_map (λ c (h : weight c ≤ 1). within_more (omega arith) (within-weight 1 c h))
    (looked-light 1 light (stored_rows table [] generators))
  where
    entry : Vector → Certified
    entry v = certified_row basis table (record { vector = v; coefficients = counted_as basis v })

    light : Each (Light 1) (map entry generators)
    light =
        each-image entry
        (λ v k. row-light basis 1 table (record { vector = v; coefficients = counted_as basis v }) (counted-light basis v))
        (each_of generators (λ v k. k))

begun-count : (basis : List Vector) (table : List Exchange) (limit : ℕ) (generators : List Vector)
    → length (certified_begun basis table limit generators).coefficients ≡ length (stored_rows table [] generators)
unfolding certified_begun
begun-count basis table limit generators = length-map (stored_rows table [] generators) _

-- rows of no numbers
empty-rows : {rows : List (List ℤ)} → Each (λ c. c ≡ []) rows → (area : List ℤ) → chunks 0 (length rows) area ≡ rows
unfolding chunks
empty-rows each_nil area = refl
empty-rows (each-cons e h) area = ap₂ (λ (c : List ℤ) (l : List (List ℤ)). c ∷ l) (sym e) (empty-rows h (drop 0 area))

-- step 1 of the definition
abbrev start_in : Sizes → (table : List ℕ) (generators basis : List ℤ) → CertifiedCompletion
start_in sizes table generators basis =
    let n = sizes.shape.n in
    certified_begun (vectors_of n basis) (sequences_in sizes.shape table) sizes.limit (vectors_of n generators)

module _ (sizes : Sizes) {table : List ℕ} {list : List ℤ} {marks keys : List ℕ} (generators basis : List ℤ) where
  -- step 1 was turned down
  pub joined-stop : {coefficients : List ℤ} {r : Refusal}
      → After sizes.shape table list marks keys (begun_in sizes table generators) (Err r)
      → CertifiedTo sizes.shape table list marks keys basis coefficients (completed_in sizes table generators basis) (Err r)
  unfolding certified_completed certified_begun
  joined-stop B =
      let start = start_in sizes table generators basis in
      let over = stopped-over start B.answer in
      certified-same (sym (until-over is_over_certified (turn sizes table basis) (all_sums sizes table) start over))
      (record { after = record { answer = B.answer; held = tt }; noted = tt })

  -- step 1 came to the first state
  module _ (first : State) (B : After sizes.shape table list marks keys (begun_in sizes table generators) (accepted first)) where
    abbrev n : ℕ
    n = sizes.shape.n

    abbrev G : List Exchange
    G = sequences_in sizes.shape table

    abbrev start : CertifiedCompletion
    start = start_in sizes table generators basis

    abbrev rows : List Vector
    rows = stored_rows G [] (vectors_of n generators)

    untried : Untried rows (running (state_in n list first))
    untried = subst (Untried rows) (sym B.answer) (begun-untried G sizes.limit (vectors_of n generators))

    pub first-untried : first.sums ≡ 0
    first-untried = untried.0

    first_count : length rows ≡ first.stored
    first_count = sym (ap length untried.1) ∙ rows-count n first.stored list

    module _ {list₀ : List ℤ} {marks₀ : List ℕ} (A : Areas sizes table list₀ marks₀) (l : length list ≡ length list₀)
        (D : Admissible sizes.shape table generators) where
      sound : Sound D.symmetric sizes.limit (running (state_in n list first))
      sound =
          subst (Sound D.symmetric sizes.limit) (sym B.answer)
          (begun-sound D.symmetric D.nonzero D.entries sizes.limit)

      pub first-ready : length marks ≡ length marks₀ → Ready sizes table list marks keys first
      first-ready m = record {
        areas = areas-again A l m B.held.limited;
        setting = setting-of D;
        marked = B.held.marked;
        progress = sound.0;
        counted = sound.1;
      }

      first-within : first.stored ≤ sizes.limit
      first-within = omega (arith, sound.1.rows_in, rows-count n first.stored list)

      -- its rows can be noted
      pub first-stored : (0 < length basis → basis ≡ generators)
          → 0 < length basis → FirstStored sizes.shape table list basis first.stored
      first-stored own some = record {
        room = omega (arith, mul-le-mul_right {m = first.stored} {n = sizes.limit} n first-within, A.room);
        rows = untried.1 ∙ ap (λ (b : List ℤ). stored_rows G [] (vectors_of n b)) (sym (own some));
        made = rows_made D.symmetric;
      }

      pub first-notable : {coefficients : List ℤ} → Notable sizes.shape sizes.limit table basis coefficients
          → Notable sizes.shape first.stored table basis coefficients
      first-notable N = notable-fewer first.stored first-within N

    -- they were noted
    module _ (coefficients : List ℤ) (own : 0 < length basis → basis ≡ generators)
        (noted : 0 < length basis → noted_in n basis first.stored coefficients ≡ first_coefficients sizes.shape sizes.limit table basis) where
      first_rows : noted_in n basis first.stored coefficients ≡ start.coefficients
      first_rows = go (length basis) refl
        where
          none : length basis ≡ 0 → noted_in n basis first.stored coefficients ≡ start.coefficients
          none e =
              let gs = vectors_of n generators in
              let due : List (List ℤ) = (certified_begun [] G sizes.limit gs).coefficients in
              let count : first.stored ≡ length due = sym (begun-count [] G sizes.limit gs ∙ first_count) in
              let width : width_of n basis ≡ 0 = ap (λ (k : ℕ). k / n) e ∙ zero-div n in
              ap₂ (λ (w k : ℕ). chunks w k coefficients) width count
              ∙ empty-rows (begun-empty G sizes.limit gs) coefficients
              ∙ ap (λ (b : List Vector). (certified_begun b G sizes.limit gs).coefficients) (sym (vectors-none n basis e))

          go : (k : ℕ) → length basis ≡ k → noted_in n basis first.stored coefficients ≡ start.coefficients
          go zero e = none e
          go (suc k) e =
              let some : 0 < length basis = omega arith in
              noted some
              ∙ ap (λ (b : List ℤ). (certified_begun (vectors_of n basis) G sizes.limit (vectors_of n b)).coefficients) (own some)

      pub first-noted : NotedRows n basis first.stored coefficients start.coefficients
      first-noted = record {
        rows = first_rows;
        limited = rw first_rows (begun-limited (vectors_of n basis) G sizes.limit (vectors_of n generators));
      }

      -- the run of the first state
      pub joined-run : {list' : List ℤ} {marks' keys' : List ℕ} {coefficients' : List ℤ} {r : Outcome State}
          → CertifiedTo sizes.shape table list' marks' keys' basis coefficients' (ran_in sizes table list basis coefficients first) r
          → CertifiedTo sizes.shape table list' marks' keys' basis coefficients' (completed_in sizes table generators basis) r
      unfolding certified_completed certified_begun
      joined-run R =
          let begins : standing_in sizes.shape list basis coefficients first ≡ start =
          ap₂ (λ (c : Defined.Completion) (cs : List (List ℤ)). record { completion = c; coefficients = cs }) B.answer first_rows in
          certified-same (ap (until is_over_certified (turn sizes table basis) (all_sums sizes table)) begins) R
