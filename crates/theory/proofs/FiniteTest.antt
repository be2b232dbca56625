-- The finite test: where the sums of any two members of G are conformal sums over G, so is each sum of members.
-- Assumes nothing.
use mathlib.Core.Path.{◌≡◌, refl, sym, ◌∙◌, ap, ap₂, subst}
use mathlib.Core.Logic.{◌⊎◌, inl, inr, ◌≢◌}
use mathlib.Core.List.{List, [], ◌∷◌, ◌++◌, map}
use Prim.Native.Nat.{ℕ, zero, suc, ◌+◌, ◌≤◌, ◌<◌}
use native.Mathlib.Omega.{arith}
use native.Mathlib.Decide.{dec_lt}
use native.Mathlib.Nat as NatL
use lib.ListN.{length}
use Rattle.definitions.specs.Limits.{cells}
use Rattle.definitions.specs.Vector.{Vector, negative, plus, total, weight, zero_vector}
use Rattle.definitions.specs.Lattice.{Graver, InLattice}
use Rattle.theory.proofs.Vector.{length-plus, plus_assoc, plus-swap, weight-plus}
use Rattle.theory.proofs.Below.{◌⊑◌, ⊑-antisym, ⊑_trans}
use Rattle.theory.proofs.Members.{Each, each_append, each-cons, each-image, each_map, each_nil}
use Rattle.theory.proofs.Conformal.{Agreeing, Conformal, agreeing-below, alone, conformal-weights, joined, total-append, total-negative, weights, weights-append}
use Rattle.theory.proofs.Lattice.{lattice-ind}

module _ (G : Vector → Type 0) (sized : (v : Vector) → G v → length v ≡ cells) where
  -- a member g of the list vs that opposes f, and the rest of the list
  record Against (f : Vector) (vs : List Vector) : Type 0 where
    g : Vector
    rest : List Vector
    is_member : G g
    members : Each G rest
    sum : total vs ≡ plus g (total rest)
    count : weights vs ≡ weight g + weights rest
    less : weight (plus f g) < weight f + weight g

  against : (f : Vector) {vs : List Vector} → Each G vs → Against f vs ⊎ Each (λ g. weight (plus f g) ≡ weight f + weight g) vs
  unfolding total
  against f each_nil = inr each_nil
  against f (each-cons {x = g} {xs = vs} h t) = here (dec_lt (weight (plus f g)) (weight f + weight g)) (against f t)
    where
      here : Dec (weight (plus f g) < weight f + weight g) → Against f vs ⊎ Each (λ u. weight (plus f u) ≡ weight f + weight u) vs
          → Against f (g ∷ vs) ⊎ Each (λ u. weight (plus f u) ≡ weight f + weight u) (g ∷ vs)
      here (yes l) r = inl (record { g = g; rest = vs; is_member = h; members = t; sum = refl; count = refl; less = l })
      here (no m) (inl r) = inl (record {
        g = r.g;
        rest = g ∷ r.rest;
        is_member = r.is_member;
        members = each-cons h r.members;
        sum = ap (plus g) r.sum ∙ plus-swap g r.g (total r.rest);
        count = omega (arith, r.count);
        less = r.less;
      })
      here (no m) (inr r) = let e : weight (plus f g) ≡ weight f + weight g = omega (arith, weight-plus f g) in inr (each-cons e r)

  -- two members of the list that oppose one another, and the rest
  record Opposing (vs : List Vector) : Type 0 where
    f : Vector
    g : Vector
    rest : List Vector
    is-member₁ : G f
    is-member₂ : G g
    members : Each G rest
    sum : total vs ≡ plus (plus f g) (total rest)
    count : weights vs ≡ weight f + weight g + weights rest
    less : weight (plus f g) < weight f + weight g

  opposing : {vs : List Vector} → Each G vs → Opposing vs ⊎ Agreeing vs
  unfolding total
  opposing each_nil = inr alone
  opposing (each-cons {x = f} {xs = vs} h t) = here (against f t) (opposing t)
    where
      here : Against f vs ⊎ Each (λ u. weight (plus f u) ≡ weight f + weight u) vs → Opposing vs ⊎ Agreeing vs → Opposing (f ∷ vs) ⊎ Agreeing (f ∷ vs)
      here (inl r) s = inl (record {
        f = f;
        g = r.g;
        rest = r.rest;
        is-member₁ = h;
        is-member₂ = r.is_member;
        members = r.members;
        sum = ap (plus f) r.sum ∙ sym (plus_assoc f r.g (total r.rest));
        count = omega (arith, r.count);
        less = r.less;
      })
      here (inr r) (inl s) = inl (record {
        f = s.f;
        g = s.g;
        rest = f ∷ s.rest;
        is-member₁ = s.is-member₁;
        is-member₂ = s.is-member₂;
        members = each-cons h s.members;
        sum = ap (plus f) s.sum ∙ plus-swap f (plus s.f s.g) (total s.rest);
        count = omega (arith, s.count);
        less = s.less;
      })
      here (inr r) (inr s) = inr (joined r s)

  each-sized : {vs : List Vector} → Each G vs → Each (λ v. length v ≡ cells) vs
  each-sized h = each_map sized h

  module _ (pairs : (f g : Vector) → G f → G g → Conformal G (plus f g)) where
    -- k bounds the sum of the weights
    pub conformal-of-sum : (k : ℕ) {vs : List Vector} → weights vs ≤ k → Each G vs → Conformal G (total vs)
    unfolding total
    conformal-of-sum zero {vs} b h = here (opposing h)
      where
        here : Opposing vs ⊎ Agreeing vs → Conformal G (total vs)
        here (inl r) = absurd (omega (arith, r.count, r.less))
        here (inr a) = record { parts = vs; members = h; conform = agreeing-below (each-sized h) a; adds-up = refl }
    conformal-of-sum (suc k) {vs} b h = here (λ us (c : weights us ≤ k) (m : Each G us). conformal-of-sum k c m) (opposing h)
      where
        here : ((us : List Vector) → weights us ≤ k → Each G us → Conformal G (total us)) → Opposing vs ⊎ Agreeing vs → Conformal G (total vs)
        here again (inr a) = record { parts = vs; members = h; conform = agreeing-below (each-sized h) a; adds-up = refl }
        here again (inl r) =
            let c = pairs r.f r.g r.is-member₁ r.is-member₂ in
            let l = length-plus cells r.f r.g (sized r.f r.is-member₁) (sized r.g r.is-member₂) in
            let w = conformal-weights (plus r.f r.g) l c.conform c.adds-up in
            let e : total (c.parts ++ r.rest) ≡ total vs =
            total-append (each-sized c.members) (each-sized r.members) ∙ ap (λ (t : Vector). plus t (total r.rest)) c.adds-up ∙ sym r.sum in
            subst (Conformal G) e (again (c.parts ++ r.rest) (omega (arith, weights-append c.parts r.rest, w, r.count, r.less)) (each_append c.members r.members))

    module _ (symmetric : (v : Vector) → G v → G (negative v)) where
      -- a sum of members
      record SumOf (v : Vector) : Type 0 where
        parts : List Vector
        members : Each G parts
        adds-up : total parts ≡ v

      sum-zero : SumOf zero_vector
      unfolding total
      sum-zero = record { parts = []; members = each_nil; adds-up = refl }

      sum-plus : (u v : Vector) → SumOf u → SumOf v → SumOf (plus u v)
      sum-plus u v a b = record {
        parts = a.parts ++ b.parts;
        members = each_append a.members b.members;
        adds-up = total-append (each-sized a.members) (each-sized b.members) ∙ ap₂ plus a.adds-up b.adds-up;
      }

      sum-negative : (u : Vector) → SumOf u → SumOf (negative u)
      sum-negative u a = record {
        parts = map negative a.parts;
        members = each-image negative symmetric a.members;
        adds-up = total-negative a.parts ∙ ap negative a.adds-up;
      }

      sum-conformal : (v : Vector) → Conformal G v → SumOf v
      sum-conformal v c = record { parts = c.parts; members = c.members; adds-up = c.adds-up }

      conformal-sum-of : (v : Vector) → SumOf v → Conformal G v
      conformal-sum-of v a = subst (Conformal G) a.adds-up (conformal-of-sum (weights a.parts) (NatL.le_refl (weights a.parts)) a.members)

      -- THE FINITE TEST
      pub finite-test : {gens : List Vector} → Each (λ g. length g ≡ cells) gens → Each (Conformal G) gens → (z : Vector) → InLattice gens z → Conformal G z
      finite-test {gens} sizes c z h =
          conformal-sum-of z (lattice-ind gens sizes SumOf sum-zero sum-plus sum-negative (each_map sum-conformal c) z h)

-- ---- what the finite test yields, for a set G of nonzero lattice vectors over which every lattice vector is a conformal sum
module _ (gens : List Vector) (G : Vector → Type 0) (inside : (v : Vector) → G v → InLattice gens v)
    (nonzero : (v : Vector) → G v → v ≢ zero_vector) (all : (z : Vector) → InLattice gens z → Conformal G z) where
  -- a nonzero conformal sum has a part
  record Part (z : Vector) : Type 0 where
    part : Vector
    is_member : G part
    below : part ⊑ z

  first_part : (z : Vector) → z ≢ zero_vector → Conformal G z → Part z
  unfolding total
  first_part z h c = here c.parts c.members c.conform c.adds-up
    where
      here : (ps : List Vector) → Each G ps → Each (λ p. p ⊑ z) ps → total ps ≡ z → Part z
      here [] m b e = absurd (h (sym e))
      here (p ∷ ps) (each-cons m ms) (each-cons b bs) e = record { part = p; is_member = m; below = b }

  -- each vector of the Graver basis is in G
  pub graver-member : (v : Vector) → Graver gens v → G v
  graver-member v g =
      let p = first_part v g.nonzero (all v g.in_lattice) in
      subst G (g.minimal p.part (inside p.part p.is_member) (nonzero p.part p.is_member) p.below.test) p.is_member

  -- a member with no other member below it is in the Graver basis
  pub member-graver : (v : Vector) → G v → ((u : Vector) → G u → u ⊑ v → u ≡ v) → Graver gens v
  member-graver v m least = record { in_lattice = inside v m; nonzero = nonzero v m; minimal = λ u h z b. smallest u h z (record { test = b }) }
    where
      smallest : (u : Vector) → InLattice gens u → u ≢ zero_vector → u ⊑ v → u ≡ v
      smallest u h z b =
          let p = first_part u z (all u h) in
          let e = least p.part p.is_member (⊑_trans p.below b) in
          ⊑-antisym b (subst (λ (w : Vector). w ⊑ u) e p.below)
