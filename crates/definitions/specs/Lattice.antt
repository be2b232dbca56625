-- Specification 2.2 and 2.4: the lattice and its Graver basis. Assumes nothing.
use Rattle.std.specs.Prelude.{◌≡◌, List, [], ◌∷◌, ℤ, T, length}
use Rattle.definitions.specs.Vector.{Vector, zero_vector, plus, scale, below}

-- 2.2: a combination of generators, with a whole coefficient for each; of none it is the zero vector
unfoldable pub combination : (coefficients : List ℤ) (generators : List Vector) → Vector
combination [] generators = zero_vector
combination (c ∷ coefficients) [] = zero_vector
combination (c ∷ coefficients) (g ∷ generators) = plus (scale c g) (combination coefficients generators)

-- 2.2: v is in the lattice
pub record InLattice (generators : List Vector) (v : Vector) : Type 0 where
  pub coefficients : List ℤ
  pub one_each : length coefficients ≡ length generators
  pub adds_up : combination coefficients generators ≡ v

-- 2.4: v is in the Graver basis: a nonzero lattice vector below which no other nonzero lattice vector lies
pub record Graver (generators : List Vector) (v : Vector) : Type 0 where
  pub in_lattice : InLattice generators v
  pub nonzero : ¬ (v ≡ zero_vector)
  pub minimal : (u : Vector) → InLattice generators u → ¬ (u ≡ zero_vector) → T (below u v) → u ≡ v
