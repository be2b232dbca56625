-- SPLIT (Specification 4.2, demand 2): the pieces add up to the vector, none opposes it in any cell, and 15 comes exactly when the vector is
-- not in the lattice. Assumes nothing.
use Rattle.std.specs.declared.result.Result.TheVariants.{Err}
use Rattle.definitions.specs.Refusals.{Fault, no_fault, fault_at}
use mathlib.Core.Path.{◌≡◌, refl, sym, ◌∙◌, ap, subst}
use mathlib.Core.Logic.{◌⊎◌, inl, inr, ◌↔◌}
use mathlib.Core.Bool.{Bool, true, false, not}
use mathlib.Core.List.{List, [], ◌∷◌}
use Prim.Native.Nat.{ℕ, ◌≤◌, ◌/◌}
use borrow.Author.Tests.{leb-true, not-false}
use lib.Dec.{leb}
use lib.IntN.{ℤ, pos}
use lib.ListN.{length, get_or}
use native.Mathlib.Omega.{arith}
use Rattle.definitions.specs.Limits.{cells, piece_width, split_limit}
use Rattle.definitions.specs.Vector.{is_zero, padded}
use Rattle.definitions.specs.Lattice.{InLattice}
use Rattle.definitions.specs.Orbit.{orbits}
use Rattle.definitions.specs.Completion.{remainder}
use Rattle.definitions.specs.Split.{Splitting, placed_orbits, splitting}
use Rattle.definitions.specs.Lent.{Order, generators_of}
use Rattle.definitions.specs.Refusals.{Outcome, accepted, cells_fault, fault_if, fault_where, first_fault, is_past, refused, split_fault, split_size_fault, unless_fault}
use Rattle.definitions.specs.Calls.{Listing, Parts, listing, parts, parts_of}
use Rattle.definitions.specs.Demands.{SplitKept}
use Rattle.theory.proofs.Tests.{clash}
use Rattle.theory.proofs.Below.{⊑-length}
use Rattle.theory.proofs.Reduction.{reduce-yields}
use Rattle.theory.proofs.Bounds.{Within, is-zero, zero_is}
use Rattle.theory.proofs.Whole.{orbits-positive}
use Rattle.theory.proofs.Split.{split-exact, split-kept, split_rest}
use Rattle.theory.proofs.Faults.{Said, accepted-refused, if_none, none-if, other-number, said-end, said-first, said-if, said-none, said-where, tests-none, unless-none, unless-refused}
use Rattle.theory.proofs.Sizes.{sizes-of-split}
use Rattle.theory.proofs.Accepted.{cells-none, padded-length, past-where}
use Rattle.theory.proofs.ListCall.{ListFacts, listing-facts}
use Rattle.theory.proofs.Refused.{list-reported}

-- the vector to split has `cells` cells
split-length : (n : ℕ) (vector : List ℤ) (pieces_size : ℕ) → cells_fault n ≡ no_fault → split_size_fault n vector pieces_size ≡ no_fault → length (padded vector) ≡ cells
split-length n vector pieces_size e f = padded-length vector (omega (arith, sizes-of-split n vector pieces_size f, (cells-none n e).most))

-- the splitting of a vector over a listing
abbrev pub taken : Listing → (vector : List ℤ) → Splitting
taken found vector = splitting (placed_orbits 0 found.table found.rows) (padded vector)

module _ (order : Order) (found : Listing) (F : ListFacts order found) (vector : List ℤ) (long : length (padded vector) ≡ cells) where
  rest-length : length (taken found vector).rest ≡ cells
  unfolding remainder
  rest-length =
      ap length (split_rest F.symmetric found.rows F.stored (padded vector) long)
      ∙ ⊑-length (reduce-yields (orbits found.table found.rows) (orbits-positive F.symmetric found.rows F.stored) (padded vector) long).below-it ∙ long

  -- nothing remains exactly of a lattice vector
  rest-lattice : (is_zero (taken found vector).rest ≡ true) ↔ InLattice (generators_of order) (padded vector)
  rest-lattice =
      let x = split-exact F.symmetric found.rows F.stored F.kept.whole (padded vector) long in
      (λ e. x.0 (is-zero (taken found vector).rest rest-length e), λ h. zero_is (x.1 h))

-- what a Split finds: the List, and pieces that add up
pub record SplitFacts (order : Order) (vector : List ℤ) (list_size group_size : ℕ) (found : Parts) : Type 0 where
  pub listed : listing order list_size group_size ≡ accepted found.listing
  pub kept : SplitKept found.listing.table found.listing.rows (padded vector) found.pieces
  pub in_lattice : InLattice (generators_of order) (padded vector)

-- the tests that come before the List
abbrev pub split_sizes : Order → (vector : List ℤ) (pieces_size : ℕ) → Fault
split_sizes order vector pieces_size = first_fault (cells_fault order.n ∷ split_size_fault order.n vector pieces_size ∷ [])

module _ (order : Order) (vector : List ℤ) (list_size group_size pieces_size : ℕ) where
  abbrev sizes : Fault
  sizes = split_sizes order vector pieces_size

  sizes-length : sizes ≡ no_fault → length (padded vector) ≡ cells
  sizes-length e =
      let a = tests-none (cells_fault order.n) _ e in
      let b = tests-none (split_size_fault order.n vector pieces_size) _ a.1 in
      split-length order.n vector pieces_size a.0 b.0

  -- an accepted Split: its List, and what met none of 14 to 16
  pub record SplitMade (found : Parts) : Type 0 where
    pub long : length (padded vector) ≡ cells
    pub listed : listing order list_size group_size ≡ accepted found.listing
    pub pieces : found.pieces ≡ (taken found.listing vector).pieces
    pub limited : Within split_limit vector
    pub zero : is_zero (taken found.listing vector).rest ≡ true
    pub room : length found.pieces ≤ pieces_size / piece_width

  pub split-made : (found : Parts) → parts order vector list_size group_size pieces_size ≡ accepted found → SplitMade found
  unfolding parts parts_of split_fault
  split-made found e =
      let a = unless-none sizes (parts_of vector pieces_size (listing order list_size group_size)) e in
      go (sizes-length a.0) (listing order list_size group_size) refl a.1
    where
      ended : length (padded vector) ≡ cells → (l : Listing) → listing order list_size group_size ≡ accepted l → split_fault vector pieces_size (taken l vector) ≡ no_fault → SplitMade (record { listing = l; pieces = (taken l vector).pieces })
      ended p l q f =
          let a = tests-none _ _ f in
          let b = tests-none _ _ a.1 in
          let c = tests-none _ _ b.1 in
          record {
            long = p;
            listed = q;
            pieces = refl;
            limited = past-where 14 split_limit vector a.0;
            zero = not-false (is_zero (taken l vector).rest) (if_none 15 _ b.0);
            room = leb-true _ _ (not-false (leb (length (taken l vector).pieces) (pieces_size / piece_width)) (if_none 16 _ c.0));
          }

      go : length (padded vector) ≡ cells → (o : Outcome Listing) → listing order list_size group_size ≡ o → parts_of vector pieces_size o ≡ accepted found → SplitMade found
      go p (Err r) q x = accepted-refused x
      go p (accepted l) q x =
          let b = unless-none (split_fault vector pieces_size (taken l vector)) (accepted (record { listing = l; pieces = (taken l vector).pieces })) x in
          let y : ◌≡◌ {A = Parts} (record { listing = l; pieces = (taken l vector).pieces }) found = (let w = b.1 in cc) in
          subst SplitMade y (ended p l q b.0)

  -- SPLIT: an accepted one keeps demand 2
  pub split-facts : (found : Parts) → parts order vector list_size group_size pieces_size ≡ accepted found → SplitFacts order vector list_size group_size found
  split-facts found e = record {
    listed = M.listed;
    kept = subst (SplitKept l.table l.rows (padded vector)) (sym M.pieces)
        (split-kept F.symmetric l.rows F.stored (padded vector) M.long (is-zero (taken l vector).rest (rest-length order l F vector M.long) M.zero));
    in_lattice = (rest-lattice order l F vector M.long).0 M.zero;
  }
    where
      M : SplitMade found
      M = split-made found e

      l : Listing
      l = found.listing

      F : ListFacts order l
      F = listing-facts order list_size group_size l M.listed

  -- 15 IS SAID ONLY OF A VECTOR THAT IS NOT IN THE LATTICE
  pub split-outside : parts order vector list_size group_size pieces_size ≡ refused 15 0 → ¬ (InLattice (generators_of order) (padded vector))
  unfolding parts parts_of split_fault cells_fault split_size_fault
  split-outside e h = start (unless-refused sizes (parts_of vector pieces_size (listing order list_size group_size)) e)
    where
      Not15 : (number place : ℕ) → Type 0
      Not15 m p = ¬ (m ≡ 15)

      sizes-number : Said Not15 sizes
      sizes-number = said-first _ (said-if 5 _ (λ x. omega arith)) (λ e. said-first _ (said-if 6 _ (λ x. omega arith)) (λ f. said-end Not15))

      met : length (padded vector) ≡ cells → (l : Listing) → listing order list_size group_size ≡ accepted l → split_fault vector pieces_size (taken l vector) ≡ fault_at 15 0 → ⊥
      met p l q f = last (is_zero (taken l vector).rest) refl ((rest-lattice order l (listing-facts order list_size group_size l q) vector p).1 h)
        where
          last : (b : Bool) → is_zero (taken l vector).rest ≡ b → is_zero (taken l vector).rest ≡ true → ⊥
          last false x y = clash y x
          last true x y = other-number (split_fault vector pieces_size (taken l vector)) (said-first _ (said-where 14 _ _ (λ p l m. omega arith)) (λ e. zero-met)) f
            where
              zero-met : Said Not15 (first_fault (fault_if 15 (not (is_zero (taken l vector).rest)) ∷ fault_if 16 (not (leb (length (taken l vector).pieces) (pieces_size / piece_width))) ∷ []))
              zero-met = subst (λ (z : Fault). Said Not15 (first_fault (z ∷ fault_if 16 (not (leb (length (taken l vector).pieces) (pieces_size / piece_width))) ∷ []))) (sym (none-if 15 (ap not x)))
                  (said-first _ (said-none Not15) (λ e. said-first _ (said-if 16 _ (λ m. omega arith)) (λ f. said-end Not15)))

      go : length (padded vector) ≡ cells → (o : Outcome Listing) → listing order list_size group_size ≡ o → parts_of vector pieces_size o ≡ refused 15 0 → ⊥
      go p (Err r) q x = let y : r.number ≡ 15 = cc in omega (arith, (list-reported order list_size group_size r.number r.place q).own (omega arith))
      go p (accepted l) q x = pick (unless-refused (split_fault vector pieces_size (taken l vector)) (accepted (record { listing = l; pieces = (taken l vector).pieces })) x)
        where
          pick : (split_fault vector pieces_size (taken l vector) ≡ fault_at 15 0) ⊎ ((split_fault vector pieces_size (taken l vector) ≡ no_fault) × (◌≡◌ {A = Outcome Parts} (accepted (record { listing = l; pieces = (taken l vector).pieces })) (refused 15 0))) → ⊥
          pick (inl f) = met p l q f
          pick (inr f) = let w = f.1 in accepted-refused (sym w)

      start : (sizes ≡ fault_at 15 0) ⊎ ((sizes ≡ no_fault) × (parts_of vector pieces_size (listing order list_size group_size) ≡ refused 15 0)) → ⊥
      start (inl x) = other-number sizes sizes-number x
      start (inr x) = go (sizes-length x.0) (listing order list_size group_size) refl x.1

  -- AND EXACTLY THEN, where the sizes and 14 are not met and the List is accepted
  pub split-exactly : (found : Listing) → split_sizes order vector pieces_size ≡ no_fault → listing order list_size group_size ≡ accepted found → fault_where 14 (length vector) (λ p. is_past split_limit (get_or vector p (pos 0))) ≡ no_fault
      → (parts order vector list_size group_size pieces_size ≡ refused 15 0) ↔ (¬ (InLattice (generators_of order) (padded vector)))
  unfolding parts parts_of split_fault unless_fault first_fault fault_if
  split-exactly found s q f = (split-outside, λ out. here (is_zero (taken found vector).rest) refl out)
    where
      F : ListFacts order found
      F = listing-facts order list_size group_size found q

      here : (b : Bool) → is_zero (taken found vector).rest ≡ b → (¬ (InLattice (generators_of order) (padded vector))) → parts order vector list_size group_size pieces_size ≡ refused 15 0
      here true x out = absurd (out ((rest-lattice order found F vector (sizes-length s)).0 x))
      here false x out =
          (λ i. unless_fault (s i) (parts_of vector pieces_size (q i)))
          ∙ (λ i. unless_fault (first_fault (f i ∷ fault_if 15 (not (x i)) ∷ fault_if 16 (not (leb (length (taken found vector).pieces) (pieces_size / piece_width))) ∷ [])) (accepted (record { listing = found; pieces = (taken found vector).pieces })))
