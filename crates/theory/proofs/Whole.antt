-- When a list is whole (Specification 2.8): of rows whose images have every lattice vector as a conformal sum, those below which no image of
-- another row lies are a whole list. Assumes nothing.
use mathlib.Core.Path.{◌≡◌, refl, sym, ◌∙◌, ap, subst}
use mathlib.Core.HLevel.{Discrete}
use mathlib.Core.Bool.{false}
use mathlib.Core.List.{List, [], ◌++◌, List-discrete, Memᴰ}
use Prim.Native.Nat.{ℕ, zero, suc, ◌<◌}
use lib.ListN.{length, get_or, take, drop}
use lib.IntN.{ℤ_discrete}
use Rattle.definitions.specs.Limits.{cells}
use Rattle.definitions.specs.Vector.{Vector, below, weight, zero_vector}
use Rattle.definitions.specs.Lattice.{Graver, InLattice}
use Rattle.definitions.specs.Group.{Exchange, exchanged}
use Rattle.definitions.specs.Orbit.{IsImage, orbits, representative, signed}
use Rattle.definitions.specs.Completion.{has_other_below, remainder}
use Rattle.definitions.specs.Demands.{OneRow, Whole}
use Rattle.theory.proofs.Tests.{clash}
use Rattle.theory.proofs.Members.{Each, Once, any_none, each_member, each_of, member-place, none_any, of_others, once-place, place-member, to-others}
use Rattle.theory.proofs.Vector.{weight-positive}
use Rattle.theory.proofs.Below.{◌⊑◌, not-below, yes-below, ⊑-same-weight}
use Rattle.theory.proofs.Conformal.{Conformal}
use Rattle.theory.proofs.FiniteTest.{graver-member, member-graver}
use Rattle.theory.proofs.Complete.{reduce-complete}
use Rattle.theory.proofs.Images.{image-below, image-length, image-nonzero, image-orbit, image-refl, image-trans, image-weight, in-orbits, of-orbits, orbit-image, row_same}
use Rattle.theory.proofs.Symmetric.{RowImage, Symmetric, image-inside, in_rows, inside-length, of-rows}

vector-discrete : Discrete Vector
vector-discrete = List-discrete ℤ_discrete

module _ {n : ℕ} {sent table : List Exchange} {generators : List Vector} (O : Symmetric n sent table generators) where
  -- rows as they are stored: nonzero lattice vectors, each the row of its kind, none twice
  pub record Stored (rows : List Vector) : Type 0 where
    pub inside : Each (InLattice generators) rows
    pub nonzero : Each (λ r. ¬ (r ≡ zero_vector)) rows
    pub canonical : Each (λ r. representative table r ≡ r) rows
    pub once : Once rows

  -- no image of another row lies below r
  abbrev pub KeptIn : List Vector → Vector → Type 0
  KeptIn rows r = (q : Vector) → Memᴰ q rows → ¬ (q ≡ r) → (u : Vector) → IsImage n sent u q → ¬ (u ⊑ r)

  module _ (rows : List Vector) (S : Stored rows) where
    row_sized : (r : Vector) → Memᴰ r rows → length r ≡ cells
    row_sized r k = inside-length O (each_member S.inside k)

    pub images-inside : (v : Vector) → RowImage O rows v → InLattice generators v
    images-inside v x = image-inside O (each_member S.inside x.stored) x.image

    pub images-nonzero : (v : Vector) → RowImage O rows v → ¬ (v ≡ zero_vector)
    images-nonzero v x = image-nonzero n sent O.exchanges O.fits (row_sized x.row x.stored) (each_member S.nonzero x.stored) x.image

    pub orbits-inside : Each (InLattice generators) (orbits table rows)
    orbits-inside = each_of (orbits table rows) (λ v k. images-inside v (of-rows O rows v k))

    pub orbits-positive : Each (λ g. zero < weight g) (orbits table rows)
    orbits-positive = each_of (orbits table rows) (λ v k.
        let x = of-rows O rows v k in weight-positive v (inside-length O (images-inside v x)) (images-nonzero v x))

    -- rows that have an image in common are equal
    same_row : (r q v : Vector) → Memᴰ r rows → Memᴰ q rows → IsImage n sent v r → IsImage n sent v q → r ≡ q
    same_row r q v a b x y =
        sym (each_member S.canonical a)
        ∙ sym (row_same n sent O.exchanges O.fits table O.is_table (row_sized r a) x)
        ∙ row_same n sent O.exchanges O.fits table O.is_table (row_sized q b) y
        ∙ each_member S.canonical b

    itself : (r : Vector) → Memᴰ r rows → IsImage n sent r r
    itself r k = image-refl n sent O.exchanges O.fits (row_sized r k)

    -- the test of step 5 and of refusal 22
    pub kept-of-test : (r : ℕ) → r < length rows → has_other_below table rows r ≡ false → KeptIn rows (get_or rows r [])
    unfolding has_other_below
    kept-of-test r l e q k ne u x h =
        let at = member-place [] k in
        let other : Memᴰ q (take r rows ++ drop (suc r) rows) = mathlib.Core.List.Memᴰ.cast (sym at.2) (to-others [] rows r at.0 at.1 (λ f. ne (sym at.2 ∙ ap (λ (i : ℕ). get_or rows i []) f))) in
        let m = in-orbits table q u other (image-orbit n sent O.exchanges O.fits table O.is_table q u x) in
        clash (yes-below h) (each_member (any_none (λ w. below w (get_or rows r [])) (orbits table (take r rows ++ drop (suc r) rows)) e) m)

    pub test-of-kept : (r : ℕ) → r < length rows → KeptIn rows (get_or rows r []) → has_other_below table rows r ≡ false
    unfolding has_other_below
    test-of-kept r l f = none_any (λ w. below w (get_or rows r [])) (each_of (orbits table others) clear)
      where
        others : List Vector
        others = take r rows ++ drop (suc r) rows

        clear : (u : Vector) → Memᴰ u (orbits table others) → below u (get_or rows r []) ≡ false
        clear u k =
            let t = of-orbits table others u k in
            let at = of_others [] rows r t.0 t.1 in
            let stored : Memᴰ t.0 rows = mathlib.Core.List.Memᴰ.cast (sym at.2.1) (place-member rows [] at.0 at.1) in
            not-below (f t.0 stored (λ e. at.2.0 (once-place S.once [] at.0 r at.1 l (at.2.1 ∙ e))) u
            (orbit-image n sent O.exchanges O.fits table O.is_table t.0 u t.2))

    module _ (all : (z : Vector) → InLattice generators z → Conformal (RowImage O rows) z) where
      -- a kept row is in the Graver basis
      kept-graver : (r : Vector) → Memᴰ r rows → KeptIn rows r → Graver generators r
      kept-graver r k f =
          member-graver generators (RowImage O rows) images-inside images-nonzero all r (record { row = r; stored = k; image = itself r k }) least
        where
          least : (u : Vector) → RowImage O rows u → u ⊑ r → u ≡ r
          least u x h = go (vector-discrete x.row r)
            where
              go : Dec (x.row ≡ r) → u ≡ r
              go (yes e) = ⊑-same-weight h (image-weight n sent O.exchanges O.fits (row_sized x.row x.stored) x.image ∙ ap weight e)
              go (no ne) = absurd (f x.row x.stored ne u x.image h)

      -- a row with an image in the Graver basis is kept
      graver-kept : (v q : Vector) → Graver generators v → Memᴰ q rows → IsImage n sent v q → KeptIn rows q
      graver-kept v q g k x p l ne u y h = ne (same_row p q q l k (subst (λ (w : Vector). IsImage n sent w p) same y) (itself q k))
        where
          pu : length u ≡ cells
          pu = image-length n sent O.exchanges O.fits (row_sized p l) y

          w : Vector
          w = signed x.positive (exchanged x.exchange u)

          z : IsImage n sent w u
          z = record { exchange = x.exchange; in_group = x.in_group; positive = x.positive; equation = refl }

          other : RowImage O rows w
          other = record { row = p; stored = l; image = image-trans n sent O.exchanges O.fits y z }

          lower : w ⊑ v
          lower = subst (λ (b : Vector). w ⊑ b) x.equation (image-below n sent O.exchanges O.fits x.positive x.exchange h)

          equal-to : w ≡ v
          equal-to = g.minimal w (images-inside w other) (images-nonzero w other) lower.test

          same : u ≡ q
          same = ⊑-same-weight h (sym (image-weight n sent O.exchanges O.fits pu z) ∙ ap weight equal-to ∙ image-weight n sent O.exchanges O.fits (row_sized q k) x)

      -- THE KEPT ROWS ARE A WHOLE LIST, sorted or not
      pub kept_whole : (final : List Vector) → Once final → ((r : Vector) → Memᴰ r final → Memᴰ r rows × KeptIn rows r)
          → ((r : Vector) → Memᴰ r rows → KeptIn rows r → Memᴰ r final) → Whole n sent generators final
      kept_whole final once of to = record {
        sound = λ r l. let t = of (get_or final r []) (place-member final [] r l) in kept-graver (get_or final r []) t.0 t.1;
        complete = one;
      }
        where
          one : (v : Vector) → Graver generators v → OneRow n sent final v
          one v g =
              let x = graver-member generators (RowImage O rows) images-inside images-nonzero all v g in
              let k = to x.row x.stored (graver-kept v x.row g x.stored x.image) in
              let at = member-place [] k in
              record {
                row = at.0;
                exists = at.1;
                image = subst (IsImage n sent v) (sym at.2) x.image;
                only = λ r l y.
                    once-place once [] r at.0 l at.1
                    (same_row (get_or final r []) x.row v (of (get_or final r []) (place-member final [] r l)).0 x.stored y x.image ∙ sym at.2);
              }

    -- ---- a whole list
    module _ (W : Whole n sent generators rows) where
      whole-member : (v : Vector) → Graver generators v → Memᴰ v (orbits table rows)
      whole-member v g =
          let o = W.complete v g in
          in_rows O rows v (record { row = get_or rows o.row []; stored = place-member rows [] o.row o.exists; image = o.image })

      -- every lattice vector reduces to zero
      pub whole-reduces : (z : Vector) → InLattice generators z → remainder table rows z ≡ zero_vector
      unfolding remainder
      whole-reduces z h = reduce-complete generators O.sizes (orbits table rows) orbits-positive orbits-inside whole-member z h

      -- and every row is kept
      pub whole-kept : (r : ℕ) → r < length rows → KeptIn rows (get_or rows r [])
      whole-kept r l q k ne u x h =
          let g = W.sound r l in
          let y : RowImage O rows u = record { row = q; stored = k; image = x } in
          let e : u ≡ get_or rows r [] = g.minimal u (images-inside u y) (images-nonzero u y) h.test in
          ne (same_row q (get_or rows r []) u k (place-member rows [] r l) x (subst (λ (w : Vector). IsImage n sent w (get_or rows r [])) (sym e) (itself (get_or rows r []) (place-member rows [] r l))))
