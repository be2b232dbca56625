-- The lattice is the least group of vectors that has the generators.
-- Assumes nothing.
use mathlib.Core.Path.{◌≡◌, refl, sym, ◌∙◌, ap, ap₂, subst}
use mathlib.Core.List.{List, [], ◌∷◌}
use Prim.Native.Nat.{ℕ, zero, suc, ◌*◌}
use native.Mathlib.Omega.{arith}
use lib.ListN.{length}
use lib.IntN.{ℤ, pos, negsuc, ◌+ℤ◌, ◌*ℤ◌, neg_ℤ, suc_ℤ, pred_ℤ, +ℤ_idl, +ℤ_assoc, +ℤ_comm, suc_ℤ-+ℤ, pred_ℤ-+ℤ, suc_ℤ-*ℤ, pred_ℤ-*ℤ, zero-*ℤ, *ℤ-one, *ℤ_comm, one, neg_ℤ-neg_ℤ}
use Rattle.definitions.specs.Limits.{cells}
use Rattle.definitions.specs.Vector.{Vector, negative, plus, scale, zero_vector, zeros}
use Rattle.definitions.specs.Lattice.{InLattice, combination}
use Rattle.theory.proofs.Vector.{cons_same, length-negative, length-plus, length-zero, length-zeros, negative-plus, negative-zero, plus_assoc, plus-swap, plus-zero, zero-plus}
use Rattle.theory.proofs.Members.{Each, each-cons, each_map, each_nil}

-- ---- multiples
-- x + y + z, with the last two exchanged
swap-last : (a b c : ℤ) → (a +ℤ b) +ℤ c ≡ (a +ℤ c) +ℤ b
swap-last a b c = +ℤ_assoc a b c ∙ ap (a +ℤ◌) (+ℤ_comm b c) ∙ sym (+ℤ_assoc a c b)

up_one : (c d x : ℤ) → (c +ℤ d) *ℤ x ≡ c *ℤ x +ℤ d *ℤ x → (suc_ℤ c +ℤ d) *ℤ x ≡ suc_ℤ c *ℤ x +ℤ d *ℤ x
up_one c d x e = ap (λ (k : ℤ). k *ℤ x) (suc_ℤ-+ℤ c d) ∙ suc_ℤ-*ℤ (c +ℤ d) x ∙ ap (λ (k : ℤ). k +ℤ x) e ∙ swap-last (c *ℤ x) (d *ℤ x) x
    ∙ ap (λ (k : ℤ). k +ℤ d *ℤ x) (sym (suc_ℤ-*ℤ c x))

down-one : (c d x : ℤ) → (c +ℤ d) *ℤ x ≡ c *ℤ x +ℤ d *ℤ x → (pred_ℤ c +ℤ d) *ℤ x ≡ pred_ℤ c *ℤ x +ℤ d *ℤ x
down-one c d x e = ap (λ (k : ℤ). k *ℤ x) (pred_ℤ-+ℤ c d) ∙ pred_ℤ-*ℤ (c +ℤ d) x ∙ ap (λ (k : ℤ). k +ℤ neg_ℤ x) e ∙ swap-last (c *ℤ x) (d *ℤ x) (neg_ℤ x)
    ∙ ap (λ (k : ℤ). k +ℤ d *ℤ x) (sym (pred_ℤ-*ℤ c x))

times-zero-plus : (d x : ℤ) → (pos zero +ℤ d) *ℤ x ≡ pos zero *ℤ x +ℤ d *ℤ x
times-zero-plus d x = ap (λ (k : ℤ). k *ℤ x) (+ℤ_idl d) ∙ sym (+ℤ_idl (d *ℤ x)) ∙ ap (λ (k : ℤ). k +ℤ d *ℤ x) (sym (zero-*ℤ x))

pub plus_times : (c d x : ℤ) → (c +ℤ d) *ℤ x ≡ c *ℤ x +ℤ d *ℤ x
plus_times (pos zero) d x = times-zero-plus d x
plus_times (pos (suc n)) d x = up_one (pos n) d x (plus_times (pos n) d x)
plus_times (negsuc zero) d x = down-one (pos zero) d x (times-zero-plus d x)
plus_times (negsuc (suc n)) d x = down-one (negsuc n) d x (plus_times (negsuc n) d x)

pub neg-times : (c x : ℤ) → neg_ℤ c *ℤ x ≡ neg_ℤ (c *ℤ x)
neg-times (pos zero) x = zero-*ℤ x ∙ ap neg_ℤ (sym (zero-*ℤ x))
neg-times (pos (suc a)) (pos b) = refl
neg-times (pos (suc a)) (negsuc b) = sym (neg_ℤ-neg_ℤ (pos (suc a * suc b)))
neg-times (negsuc a) (pos b) = sym (neg_ℤ-neg_ℤ (pos (suc a * b)))
neg-times (negsuc a) (negsuc b) = refl

pub one-times : (x : ℤ) → pos 1 *ℤ x ≡ x
unfolding one
one-times x = *ℤ_comm (pos 1) x ∙ *ℤ-one x

pub length-scale : (c : ℤ) (v : Vector) → length (scale c v) ≡ length v
unfolding scale
length-scale c [] = refl
length-scale c (x ∷ v) = ap suc (length-scale c v)

pub scale-plus : (c d : ℤ) (v : Vector) → scale (c +ℤ d) v ≡ plus (scale c v) (scale d v)
unfolding plus scale
scale-plus c d [] = refl
scale-plus c d (x ∷ v) = cons_same (plus_times c d x) (scale-plus c d v)

pub scale-negative : (c : ℤ) (v : Vector) → scale (neg_ℤ c) v ≡ negative (scale c v)
unfolding negative scale
scale-negative c [] = refl
scale-negative c (x ∷ v) = cons_same (neg-times c x) (scale-negative c v)

scale-zeros : (n : ℕ) (v : Vector) → length v ≡ n → scale (pos zero) v ≡ zeros n
unfolding zeros scale
scale-zeros zero [] p = refl
scale-zeros zero (x ∷ v) p = absurd (omega arith)
scale-zeros (suc n) [] p = absurd (omega arith)
scale-zeros (suc n) (x ∷ v) p = cons_same (zero-*ℤ x) (scale-zeros n v (omega arith))

pub scale-zero : (v : Vector) → length v ≡ cells → scale (pos zero) v ≡ zero_vector
unfolding zero_vector
scale-zero v p = scale-zeros cells v p

pub scale_one : (v : Vector) → scale (pos 1) v ≡ v
unfolding scale
scale_one [] = refl
scale_one (x ∷ v) = cons_same (one-times x) (scale_one v)

-- ---- combinations
pub length-combination : (cs : List ℤ) {gens : List Vector} → Each (λ g. length g ≡ cells) gens → length (combination cs gens) ≡ cells
unfolding scale combination
length-combination [] h = length-zero
length-combination (c ∷ cs) each_nil = length-zero
length-combination (c ∷ cs) (each-cons {x = g} {xs = gens} p h) = length-plus cells (scale c g) (combination cs gens) (length-scale c g ∙ p) (length-combination cs h)

-- (a + b) + (c + d) as (a + c) + (b + d)
pub plus-four : (a b c d : Vector) → plus (plus a b) (plus c d) ≡ plus (plus a c) (plus b d)
unfolding plus
plus-four a b c d = plus_assoc a b (plus c d) ∙ ap (plus a) (plus-swap b c d) ∙ sym (plus_assoc a c (plus b d))

pub combination-plus : (cs ds : List ℤ) {gens : List Vector} → length cs ≡ length gens → length ds ≡ length gens → Each (λ g. length g ≡ cells) gens
    → combination (plus cs ds) gens ≡ plus (combination cs gens) (combination ds gens)
unfolding zero_vector plus scale combination
combination-plus [] [] p q each_nil = sym (zero-plus zero_vector length-zero)
combination-plus [] (d ∷ ds) p q each_nil = sym (zero-plus zero_vector length-zero)
combination-plus (c ∷ cs) [] p q each_nil = sym (zero-plus zero_vector length-zero)
combination-plus (c ∷ cs) (d ∷ ds) p q each_nil = sym (zero-plus zero_vector length-zero)
combination-plus [] [] p q (each-cons e h) = absurd (omega arith)
combination-plus [] (d ∷ ds) p q (each-cons e h) = absurd (omega arith)
combination-plus (c ∷ cs) [] p q (each-cons e h) = absurd (omega arith)
combination-plus (c ∷ cs) (d ∷ ds) p q (each-cons {x = g} {xs = gens} e h) =
    ap₂ plus (scale-plus c d g) (combination-plus cs ds (omega arith) (omega arith) h)
    ∙ plus-four (scale c g) (scale d g) (combination cs gens) (combination ds gens)

pub combination-negative : (cs : List ℤ) (gens : List Vector) → combination (negative cs) gens ≡ negative (combination cs gens)
unfolding plus negative scale combination
combination-negative [] gens = sym negative-zero
combination-negative (c ∷ cs) [] = sym negative-zero
combination-negative (c ∷ cs) (g ∷ gens) = ap₂ plus (scale-negative c g) (combination-negative cs gens) ∙ sym (negative-plus (scale c g) (combination cs gens))

pub combination-zeros : {gens : List Vector} → Each (λ g. length g ≡ cells) gens → combination (zeros (length gens)) gens ≡ zero_vector
unfolding zeros zero_vector plus combination
combination-zeros each_nil = refl
combination-zeros (each-cons {x = g} e h) = ap₂ plus (scale-zero g e) (combination-zeros h) ∙ zero-plus zero_vector length-zero

-- a combination is in the lattice with any number of coefficients: those that lack count as zero
pub combination-inside : (cs : List ℤ) {gens : List Vector} → Each (λ g. length g ≡ cells) gens → InLattice gens (combination cs gens)
unfolding zeros zero_vector plus combination
combination-inside [] {gens} sizes =
    record { coefficients = zeros (length gens); one_each = length-zeros (length gens); adds_up = combination-zeros sizes }
combination-inside (c ∷ cs) each_nil = record { coefficients = []; one_each = refl; adds_up = refl }
combination-inside (c ∷ cs) (each-cons {x = g} p sizes) =
    let h = combination-inside cs sizes in
    record { coefficients = c ∷ h.coefficients; one_each = ap suc h.one_each; adds_up = ap (plus (scale c g)) h.adds_up }

module _ (gens : List Vector) (sizes : Each (λ g. length g ≡ cells) gens) where
  -- ---- the lattice is a group
  pub lattice-length : {v : Vector} → InLattice gens v → length v ≡ cells
  lattice-length h = sym (ap length h.adds_up) ∙ length-combination h.coefficients sizes

  pub lattice-zeros : InLattice gens zero_vector
  unfolding zeros zero_vector
  lattice-zeros = record { coefficients = zeros (length gens); one_each = length-zeros (length gens); adds_up = combination-zeros sizes }

  pub lattice-plus : {u v : Vector} → InLattice gens u → InLattice gens v → InLattice gens (plus u v)
  unfolding plus
  lattice-plus h k = record {
    coefficients = plus h.coefficients k.coefficients;
    one_each = length-plus (length gens) h.coefficients k.coefficients h.one_each k.one_each;
    adds_up = combination-plus h.coefficients k.coefficients h.one_each k.one_each sizes ∙ ap₂ plus h.adds_up k.adds_up;
  }

  pub lattice-negative : {u : Vector} → InLattice gens u → InLattice gens (negative u)
  unfolding negative
  lattice-negative h = record {
    coefficients = negative h.coefficients;
    one_each = length-negative h.coefficients ∙ h.one_each;
    adds_up = combination-negative h.coefficients gens ∙ ap negative h.adds_up;
  }

  -- ---- and lies in each group that has the generators
  module _ (P : Vector → Type 0) (at_zero : P zero_vector) (at-plus : (u v : Vector) → P u → P v → P (plus u v)) (at-negative : (u : Vector) → P u → P (negative u)) where
    at-multiple : (k : ℕ) (v : Vector) → length v ≡ cells → P v → P (scale (pos k) v)
    unfolding scale
    at-multiple zero v p h = subst P (sym (scale-zero v p)) at_zero
    at-multiple (suc k) v p h =
        let e : pos k +ℤ pos 1 ≡ pos (suc k) = ap pos (omega arith) in
        subst P (sym (scale-plus (pos k) (pos 1) v) ∙ ap (λ (c : ℤ). scale c v) e)
        (at-plus (scale (pos k) v) (scale (pos 1) v) (at-multiple k v p h) (subst P (sym (scale_one v)) h))

    at-scale : (c : ℤ) (v : Vector) → length v ≡ cells → P v → P (scale c v)
    unfolding scale
    at-scale (pos k) v p h = at-multiple k v p h
    at-scale (negsuc k) v p h = subst P (sym (scale-negative (pos (suc k)) v)) (at-negative (scale (pos (suc k)) v) (at-multiple (suc k) v p h))

    at-combination : (cs : List ℤ) (gs : List Vector) → Each (λ g. length g ≡ cells) gs → Each P gs → P (combination cs gs)
    unfolding scale combination
    at-combination [] gs s h = at_zero
    at-combination (c ∷ cs) [] s h = at_zero
    at-combination (c ∷ cs) (g ∷ gs) (each-cons p s) (each-cons m h) = at-plus (scale c g) (combination cs gs) (at-scale c g p m) (at-combination cs gs s h)

    pub lattice-ind : Each P gens → (v : Vector) → InLattice gens v → P v
    lattice-ind h v l = subst P l.adds_up (at-combination l.coefficients gens sizes h)

-- each generator is in the lattice
pub lattice-more : {g : Vector} {gens : List Vector} → length g ≡ cells → (v : Vector) → length v ≡ cells → InLattice gens v → InLattice (g ∷ gens) v
unfolding plus combination
lattice-more {g} {gens} p v q h = record {
  coefficients = pos zero ∷ h.coefficients;
  one_each = ap suc h.one_each;
  adds_up = ap₂ plus (scale-zero g p) h.adds_up ∙ zero-plus v q;
}

pub lattice-generator : {gens : List Vector} → Each (λ g. length g ≡ cells) gens → Each (InLattice gens) gens
unfolding zeros plus combination
lattice-generator each_nil = each_nil
lattice-generator (each-cons {x = g} {xs = gens} p h) =
    each-cons (record {
      coefficients = pos 1 ∷ zeros (length gens);
      one_each = ap suc (length-zeros (length gens));
      adds_up = ap₂ plus (scale_one g) (combination-zeros h) ∙ plus-zero g p;
    })
    (each_map (λ v (m : InLattice gens v). lattice-more p v (lattice-length gens h m) m) (lattice-generator h))
