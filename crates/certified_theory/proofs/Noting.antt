-- Each stored row is the combination of the generators with its coefficients, none past its limit, from the first row
-- to the last step. Assumes nothing.
use mathlib.Core.Path.{◌≡◌, refl, sym, ◌∙◌, ap, subst}
use mathlib.Core.Logic.{◌⊎◌, inl, inr}
use mathlib.Core.Bool.{Bool, true, false, not, cond}
use mathlib.Core.List.Memᴰ
use mathlib.Core.List.{List, [], ◌∷◌, ◌++◌, map, Memᴰ}
use Prim.Native.Nat.{ℕ, zero, suc, ◌<◌}
use native.Mathlib.Omega.{arith}
use borrow.Author.Tests.{leb-true, leb-false}
use lib.Dec.{leb}
use lib.IntN.{ℤ}
use lib.ListN.{length, get_or, length-append, length-map}
use Rattle.definitions.specs.Lists.{until}
use Rattle.definitions.specs.Limits.{stored_coefficient_limit, entry_limit}
use Rattle.definitions.specs.Vector.{minus_all, Vector, is_member, is_zero, plus, weight, within, zero_vector}
use Rattle.definitions.specs.Group.{Exchange}
use Rattle.definitions.specs.Orbit.{orbits, representative, signed}
use Rattle.definitions.specs.Completion.{subtracted, Completion, State, begun, first_state, is_finished, reduced}
use Rattle.definitions.specs.Completion.{remainder, running, settled, step, stopped, stored_rows, sum_at, sum_count}
use Rattle.definitions.specs.Completion.{sum_of}
use Rattle.theory.proofs.Members.{Each, each_at, each-cons, each-image, each_map, each_nil, each_of}
use Rattle.theory.proofs.Bounds.{Within, within-each, within_more}
use Rattle.theory.proofs.Images.{image-orbit, row-image}
use Rattle.theory.proofs.Symmetric.{Symmetric}
use Rattle.theory.proofs.Counting.{Counted, if-cases}
use Rattle.theory.proofs.Places.{next-rows}
use Rattle.theory.proofs.Completion.{Sound, begun-sound, sound-step}
use Rattle.definitions.specs.Certified.{Certified, certified_orbits, certified_rows, coefficients_of, counted_as}
use Rattle.definitions.specs.Certified.{certified_image, image_coefficients, certified_row}
use Rattle.definitions.specs.Certified.{CertifiedCompletion, certified_after, certified_from, certified_completed}
use Rattle.definitions.specs.Certified.{certified_begun, is_over_certified, new_coefficients, noted, certified_remainder}
use Rattle.definitions.specs.Certified.{certified_step, certified_sum}
use Rattle.certified_theory.proofs.Made.{Closed, Made, orbits-made, orbits-vectors, rows-vectors, counted-made}
use Rattle.certified_theory.proofs.Made.{image-made, orbit-made, orbit-vectors, looked-up, made-length}
use Rattle.certified_theory.proofs.Made.{made-plus, made-signed, of, reduced-made}
use Rattle.certified_theory.proofs.Weights.{counted-light, row-light, within-weight}

-- what every step keeps, the run keeps
pub until-keeps : {A : Type 0} (P : A → Type 0) (over : A → Bool) (onward : A → A) → ((a : A) → P a → P (onward a))
    → (fuel : ℕ) (a : A) → P a → P (until over onward fuel a)
unfolding until
until-keeps P over onward keep zero a h = h
until-keeps P over onward keep (suc fuel) a h = if-cases P (over a) (λ e. h) (λ e. until-keeps P over onward keep fuel (onward a) (keep a h))

-- ---- the rows after a step: the same, or one more
abbrev pub RowsAfter : (table : List Exchange) → State → Completion → Type 0
RowsAfter table s (stopped number place) = Unit {0}
RowsAfter table s (running t) = (t.rows ≡ s.rows) ⊎ ((s.i < length s.rows) × (t.rows ≡ s.rows ++ representative table (remainder table s.rows (sum_at table s)) ∷ []))

pub rows-after : (table : List Exchange) (limit : ℕ) (s : State) → RowsAfter table s (step table limit (running s))
unfolding step settled is_finished
rows-after table limit s =
    if-cases (RowsAfter table s) (is_finished s) (λ e. inl refl)
    (λ f. if-cases (RowsAfter table s) (is_zero v) (λ e. inl (next-rows g s.rows s))
    (λ e. if-cases (RowsAfter table s) (not (within entry_limit v)) (λ e. tt)
    (λ e. if-cases (RowsAfter table s) (leb limit (length s.rows)) (λ e. tt)
    (λ e. inr (leb-false (length s.rows) s.i f, next-rows g (s.rows ++ representative table v ∷ []) s)))))
  where
    g : ℕ
    g = length table

    v : Vector
    v = remainder table s.rows (sum_at table s)

-- ---- first rows
stored-from : (table : List Exchange) (rows gs : List Vector) (r : Vector) → Memᴰ r (stored_rows table rows gs)
    → Memᴰ r rows ⊎ Memᴰ r (map (representative table) gs)
unfolding stored_rows
stored-from table rows [] r k = inl k
stored-from table rows (g ∷ gs) r k = go (is_member (representative table g) rows) (λ rows' l. stored-from table rows' gs r l) k
  where
    From : Type 0
    From = Memᴰ r rows ⊎ Memᴰ r (map (representative table) (g ∷ gs))

    last : Memᴰ r rows ⊎ Memᴰ r (representative table g ∷ []) → From
    last (inl l) = inl l
    last (inr l) = inr (Memᴰ.head (Memᴰ.eq_of_singleton l))

    same : Memᴰ r rows ⊎ Memᴰ r (map (representative table) gs) → From
    same (inl l) = inl l
    same (inr l) = inr (Memᴰ.tail l)

    more : Memᴰ r (rows ++ representative table g ∷ []) ⊎ Memᴰ r (map (representative table) gs) → From
    more (inl l) = last (Memᴰ.append_cases rows l)
    more (inr l) = inr (Memᴰ.tail l)

    go : (b : Bool)
        → ((rows' : List Vector) → Memᴰ r (stored_rows table rows' gs)
        → Memᴰ r rows' ⊎ Memᴰ r (map (representative table) gs))
        → Memᴰ r (stored_rows table (cond b rows (rows ++ representative table g ∷ [])) gs) → From
    go true again l = same (again rows l)
    go false again l = more (again (rows ++ representative table g ∷ []) l)

-- ---- rows with coefficients, place by place
pub rows-map : (P : Certified → Type 0) (f : Vector → List ℤ) (rows : List Vector)
    → ((r : Vector) → Memᴰ r rows → P (of r (f r))) → Each P (certified_rows rows (map f rows))
unfolding certified_rows
rows-map P f [] h = each_nil
rows-map P f (r ∷ rows) h = each-cons (h r (Memᴰ.head refl)) (rows-map P f rows (λ q k. h q (Memᴰ.tail k)))

pub rows_at : (P : Certified → Type 0) (rows : List Vector) (cs : List (List ℤ)) → length cs ≡ length rows
    → Each P (certified_rows rows cs) → (i : ℕ) → i < length rows → P (of (get_or rows i []) (get_or cs i []))
unfolding certified_rows
rows_at P [] cs p h i l = absurd (omega arith)
rows_at P (r ∷ rows) [] p h i l = absurd (omega arith)
rows_at P (r ∷ rows) (c ∷ cs) p (each-cons x h) zero l = x
rows_at P (r ∷ rows) (c ∷ cs) p (each-cons x h) (suc i) l = rows_at P rows cs (omega arith) h i (omega arith)

pub rows_more : (P : Certified → Type 0) (rows : List Vector) (cs : List (List ℤ)) (r : Vector) (c : List ℤ)
    → length cs ≡ length rows → Each P (certified_rows rows cs) → P (of r c)
    → Each P (certified_rows (rows ++ r ∷ []) (cs ++ c ∷ []))
unfolding certified_rows
rows_more P [] [] r c p h x = each-cons x each_nil
rows_more P [] (d ∷ cs) r c p h x = absurd (omega arith)
rows_more P (q ∷ rows) [] r c p h x = absurd (omega arith)
rows_more P (q ∷ rows) (d ∷ cs) r c p (each-cons y h) x = each-cons y (rows_more P rows cs r c (omega arith) h x)

-- a row with coefficients that make it, none past its limit
pub record Noted (generators : List Vector) (x : Certified) : Type 0 where
  pub made : Made generators x
  pub limited : Within stored_coefficient_limit x.coefficients

-- each row has its coefficients
pub record Notes (generators rows : List Vector) (cs : List (List ℤ)) : Type 0 where
  pub long : length cs ≡ length rows
  pub each : Each (Noted generators) (certified_rows rows cs)

abbrev pub NotesOf : (generators : List Vector) → Completion → List (List ℤ) → Type 0
NotesOf generators (stopped number place) cs = Unit {0}
NotesOf generators (running s) cs = Notes generators s.rows cs

module _ {n : ℕ} {sent table : List Exchange} {generators : List Vector} (O : Symmetric n sent table generators)
    (closed : Closed generators O.sizes table) where
  -- the row of a vector
  row_made : {x : Certified} → Made generators x → Made generators (certified_row generators table x)
  unfolding certified_row
  row_made {x} m =
      looked-up (Made generators) (orbit-made generators O.sizes closed m) (representative table x.vector)
      (subst (Memᴰ (representative table x.vector)) (sym (orbit-vectors generators table x))
      (image-orbit n sent O.exchanges O.fits table O.is_table x.vector (representative table x.vector)
      (row-image n sent O.exchanges O.fits table O.is_table x.vector (made-length generators O.sizes m))))

  module _ (rows : List Vector) (cs : List (List ℤ)) (N : Notes generators rows cs) where
    made_at : (i : ℕ) → i < length rows → Made generators (of (get_or rows i []) (get_or cs i []))
    made_at i l = rows_at (Made generators) rows cs N.long (each_map (λ x (h : Noted generators x). h.made) N.each) i l

    pub sum-made : (i j p : ℕ) (b : Bool) → i < length rows → j < length rows → p < length table
        → Made generators
        (of (sum_of table rows i j p b) (plus (get_or cs i []) (signed b (image_coefficients generators (get_or table p []) (get_or cs j []) generators))))
    unfolding sum_of certified_image
    sum-made i j p b li lj lp =
        let at = each_at table [] closed p lp in
        made-plus generators O.sizes (made_at i li) (made-signed generators O.sizes b (image-made generators O.sizes (get_or table p []) at.0 at.1 (made_at j lj)))

    remainder-made : {x : Certified} → Made generators x
        → Made generators (certified_remainder generators table rows cs x)
    unfolding certified_remainder remainder
    remainder-made {x} m =
        subst (λ (l : List Vector). Made generators (of (reduced l (weight x.vector) x.vector) (minus_all x.coefficients (map (coefficients_of known) (subtracted l (weight x.vector) x.vector)))))
        (orbits-vectors generators table (certified_rows rows cs) ∙ ap (orbits table) (rows-vectors rows cs N.long))
        (reduced-made generators O.sizes (orbits-made generators O.sizes closed (each_map (λ y (h : Noted generators y). h.made) N.each)) (weight x.vector) x.vector x.coefficients m)
      where
        known : List Certified
        known = certified_orbits generators table (certified_rows rows cs)

  -- THE ROW THAT IS STORED for a sum is the combination with its coefficients
  pub new-made : (limit : ℕ) (s : State) (cs : List (List ℤ)) → Counted (length table) limit s
      → s.i < length s.rows → Notes generators s.rows cs
      → Made generators
      (of (representative table (remainder table s.rows (sum_at table s))) (new_coefficients generators table s cs))
  unfolding new_coefficients certified_sum sum_at certified_remainder certified_row
  new-made limit s cs c left N =
      row_made (remainder-made s.rows cs N (sum-made s.rows cs N s.i s.j s.position s.positive left (omega arith) c.position_in))

  -- a completion with its coefficients as it should be
  abbrev pub Kept : ℕ → CertifiedCompletion → Type 0
  Kept limit x = Sound O limit x.completion × NotesOf generators x.completion x.coefficients

  pub kept_step : (limit : ℕ) (x : CertifiedCompletion) → Kept limit x
      → Kept limit (certified_step generators table limit x)
  unfolding certified_step certified_from certified_after noted
  kept_step limit x h = go x.completion x.coefficients h
    where
      on : (s : State) (cs : List (List ℤ)) → Counted (length table) limit s → Notes generators s.rows cs
          → (c : Completion) → Sound O limit c → RowsAfter table s c
          → Kept limit (certified_after generators table s cs c)
      on s cs k N (stopped number place) S r = (tt, tt)
      on s cs k N (running t) S (inl e) =
          if-cases (Kept limit) (leb (length t.rows) (length s.rows))
          (λ f. (S, subst (λ (rows : List Vector). Notes generators rows cs) (sym e) N))
          (λ f. absurd (omega (arith, leb-false (length t.rows) (length s.rows) f, ap length e)))
      on s cs k N (running t) S (inr (left, e)) =
          if-cases (Kept limit) (leb (length t.rows) (length s.rows))
          (λ f. absurd (omega (arith, leb-true (length t.rows) (length s.rows) f, ap length e, length-append s.rows (row ∷ []))))
          (λ f. if-cases (Kept limit) (within stored_coefficient_limit new)
          (λ w. (
            S,
            subst (λ (rows : List Vector). Notes generators rows (cs ++ new ∷ [])) (sym e) (record {
              long = omega (arith, N.long, length-append cs (new ∷ []), length-append s.rows (row ∷ []));
              each = rows_more (Noted generators) s.rows cs row new N.long N.each (record { made = new-made limit s cs k left N; limited = within-each stored_coefficient_limit new w });
            }),
          ))
          (λ w. (tt, tt)))
        where
          row : Vector
          row = representative table (remainder table s.rows (sum_at table s))

          new : List ℤ
          new = new_coefficients generators table s cs

      go : (c : Completion) (cs : List (List ℤ)) → Sound O limit c × NotesOf generators c cs
          → Kept limit (certified_from generators table limit c cs)
      go (stopped number place) cs k = (tt, tt)
      go (running s) cs k = on s cs k.0.1 k.1 (step table limit (running s)) (sound-step O limit (running s) k.0) (rows-after table limit s)

  -- step 1
  module _ (nonzero : Each (λ g. ¬ (g ≡ zero_vector)) generators) (limited : Each (Within entry_limit) generators) where
    pub kept-first : (limit : ℕ) → Kept limit (certified_begun generators table limit generators)
    unfolding certified_begun certified_row begun first_state
    kept-first limit = (begun-sound O nonzero limited limit, begun-notes)
      where
        entry : Vector → Certified
        entry v = certified_row generators table (of v (counted_as generators v))

        known : List Certified
        known = map entry generators

        rows : List Vector
        rows = stored_rows table [] generators

        each-known : Each (Noted generators) known
        each-known = each-image entry (λ v (k : Memᴰ v generators). record {
          made = row_made (counted-made generators O.sizes v (inl k));
          limited = within_more (omega arith) (within-weight 1 (entry v).coefficients (row-light generators 1 table (of v (counted_as generators v)) (counted-light generators v)));
        }) (each_of generators (λ v k. k))

        entries : (gs : List Vector) → map (λ x. x.vector) (map entry gs) ≡ map (representative table) gs
        entries [] = refl
        entries (g ∷ gs) = ap (λ (l : List Vector). representative table g ∷ l) (entries gs)

        from : (r : Vector) → Memᴰ r rows → Memᴰ r (map (λ x. x.vector) known)
        from r k = go (stored-from table [] generators r k)
          where
            go : Memᴰ r [] ⊎ Memᴰ r (map (representative table) generators)
                → Memᴰ r (map (λ x. x.vector) known)
            go (inl l) = absurd (Memᴰ.not-nil l)
            go (inr l) = subst (Memᴰ r) (sym (entries generators)) l

        first-notes : Notes generators rows (map (coefficients_of known) rows)
        first-notes = record {
          long = length-map rows (coefficients_of known);
          each = rows-map (Noted generators) (coefficients_of known) rows (λ r k. looked-up (Noted generators) each-known r (from r k));
        }

        begun-notes : NotesOf generators (begun table limit generators) (map (coefficients_of known) rows)
        begun-notes = if-cases (λ (c : Completion). NotesOf generators c (map (coefficients_of known) rows)) (leb (length rows) limit) (λ e. first-notes) (λ e. tt)

    -- EACH STORED ROW IS THE COMBINATION of the generators with its coefficients, none past its limit
    pub completed-kept : (limit : ℕ) → Kept limit (certified_completed generators table limit generators)
    unfolding certified_completed
    completed-kept limit =
        until-keeps (Kept limit) is_over_certified (certified_step generators table limit) (kept_step limit) (sum_count (length table) limit) (certified_begun generators table limit generators) (kept-first limit)
