-- Where the images have the whole Graver basis, each lattice vector reduces to zero.
-- Assumes nothing.
use mathlib.Core.Path.{◌≡◌, refl, sym, ◌∙◌, ap, subst}
use mathlib.Core.Logic.{◌≢◌}
use mathlib.Core.List.{List, Memᴰ}
use Prim.Native.Nat.{ℕ, zero, suc, ◌≤◌, ◌<◌}
use native.Mathlib.Omega.{arith}
use native.Mathlib.Nat as NatL
use native.Mathlib.Decide.{dec_lt}
use lib.ListN.{length}
use Rattle.definitions.specs.Limits.{cells}
use Rattle.definitions.specs.Vector.{Vector, minus, total, weight, zero_vector}
use Rattle.definitions.specs.Lattice.{Graver, InLattice}
use Rattle.definitions.specs.Completion.{reduced}
use Rattle.theory.proofs.Vector.{minus_plus, plus_comm, weight-zero-vector, weightless}
use Rattle.theory.proofs.Below.{◌⊑◌, ⊑-length, ⊑_refl, ⊑-same-weight, ⊑_trans, ⊑-weight}
use Rattle.theory.proofs.Members.{Each, each-cons, each_map, each_member, each_nil}
use Rattle.theory.proofs.Lattice.{lattice-length, lattice-negative, lattice-plus, lattice-zeros}
use Rattle.theory.proofs.Reduction.{reduce-yields}

module _ (gens : List Vector) (sizes : Each (λ g. length g ≡ cells) gens) where
  pub lattice-total : {vs : List Vector} → Each (InLattice gens) vs → InLattice gens (total vs)
  unfolding total
  lattice-total each_nil = lattice-zeros gens sizes
  lattice-total (each-cons h t) = lattice-plus gens sizes h (lattice-total t)

  -- a vector of the Graver basis below v. (It is not not there: to find it would take a search through the lattice.)
  pub record GraverBelow (v : Vector) : Type 0 where
    pub vector : Vector
    pub graver : Graver gens vector
    pub below-it : vector ⊑ v

  graver-within : (k : ℕ) (v : Vector) → weight v ≤ k → InLattice gens v → v ≢ zero_vector → ¬ ¬ (GraverBelow v)
  graver-within zero v b l z non = z (weightless v (lattice-length gens sizes l) (omega arith))
  graver-within (suc k) v b l z non =
      non (record { vector = v; graver = record { in_lattice = l; nonzero = z; minimal = λ u m y b. least (λ u. graver-within k u) u m y (record { test = b }) }; below-it = ⊑_refl v })
    where
      least : ((u : Vector) → weight u ≤ k → InLattice gens u → u ≢ zero_vector → ¬ ¬ (GraverBelow u)) → (u : Vector) → InLattice gens u → u ≢ zero_vector → u ⊑ v → u ≡ v
      least again u m y h = go (dec_lt (weight u) (weight v))
        where
          go : Dec (weight u < weight v) → u ≡ v
          go (yes lt) = absurd (again u (omega arith) m y (λ g. non (record { vector = g.vector; graver = g.graver; below-it = ⊑_trans g.below-it h })))
          go (no ge) = ⊑-same-weight h (omega (arith, ⊑-weight h))

  pub graver-below : (v : Vector) → InLattice gens v → v ≢ zero_vector → ¬ ¬ (GraverBelow v)
  graver-below v l z = graver-within (weight v) v (NatL.le_refl (weight v)) l z

  module _ (images : List Vector) (positive : Each (λ g. zero < weight g) images) (inside : Each (InLattice gens) images) where
    -- the remainder of a lattice vector is in the lattice
    pub reduce-inside : (z : Vector) → InLattice gens z → InLattice gens (reduced images (weight z) z)
    unfolding total minus
    reduce-inside z l =
        let p = lattice-length gens sizes l in
        let c = reduce-yields images positive z p in
        let t : Vector = total c.parts in
        let m : InLattice gens t = lattice-total (each_map (λ v (k : Memᴰ v images). each_member inside k) c.members) in
        let r : Vector = reduced images (weight z) z in
        let q : length r ≡ cells = ⊑-length c.below-it ∙ p in
        let e : minus z t ≡ r = ap (λ (w : Vector). minus w t) (sym c.adds-up ∙ plus_comm t r) ∙ minus_plus cells r t q (lattice-length gens sizes m) in
        subst (InLattice gens) e (lattice-plus gens sizes l (lattice-negative gens sizes m))

    -- COMPLETENESS OF REDUCTION
    pub reduce-complete : ((v : Vector) → Graver gens v → Memᴰ v images) → (z : Vector) → InLattice gens z → reduced images (weight z) z ≡ zero_vector
    reduce-complete whole z l = go (weight r) refl
      where
        r : Vector
        r = reduced images (weight z) z

        m : InLattice gens r
        m = reduce-inside z l

        p : length r ≡ cells
        p = lattice-length gens sizes m

        go : (w : ℕ) → weight r ≡ w → r ≡ zero_vector
        go zero e = weightless r p e
        go (suc w) e = absurd (graver-below r m (λ f. omega (arith, e, ap weight f, weight-zero-vector))
            (λ g. each_member (reduce-yields images positive z (lattice-length gens sizes l)).stuck (whole g.vector g.graver) g.below-it))
