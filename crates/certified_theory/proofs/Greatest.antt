-- How great a coefficient can get on the way to a stored row: far within 64 bits. Assumes nothing.
-- Images weigh at most `image_bound` in all, a sum twice as much, and a remainder so much more for each unit of weight
-- that the sum has.
use mathlib.Core.Path.{◌≡◌, ap, subst}
use mathlib.Core.List.{List, [], map}
use Prim.Native.Nat.{ℕ, ◌≤◌, ◌<◌, ◌+◌, ◌*◌}
use native.Mathlib.Omega.{arith}
use native.Mathlib.Nat.{mul-le-mul_right}
use lib.IntN.{ℤ}
use lib.ListN.{length, get_or, take, length-map, length-take}
use lib.Seq.{take-length}
use Rattle.definitions.specs.Limits.{cells, stored_coefficient_limit, entry_limit, generator_limit}
use Rattle.definitions.specs.Vector.{minus_all, Vector, weight}
use Rattle.definitions.specs.Group.{Exchange}
use Rattle.definitions.specs.Orbit.{orbits, signed}
use Rattle.definitions.specs.Completion.{State, subtracted, sum_at, sum_of}
use Rattle.definitions.specs.Certified.{Certified, certified_orbits, certified_remainder, certified_rows, certified_sum}
use Rattle.definitions.specs.Certified.{coefficients_of, image_coefficients, new_coefficients}
use Rattle.theory.proofs.Members.{Each, each_at, each_map}
use Rattle.theory.proofs.Vector.{weight-plus}
use Rattle.theory.proofs.Bounds.{Within, within-exchanged, within-plus, within_signed}
use Rattle.theory.proofs.Images.{weight-signed}
use Rattle.theory.proofs.Accepted.{each_take}
use Rattle.theory.proofs.Symmetric.{Symmetric}
use Rattle.theory.proofs.Counting.{Counted}
use Rattle.certified_theory.proofs.Limits.{coefficient_bound, image_bound}
use Rattle.certified_theory.proofs.Made.{Closed, made-length}
use Rattle.certified_theory.proofs.Weights.{Light, orbits-light, minus-all-light, looked-light}
use Rattle.certified_theory.proofs.Weights.{coefficients-light, row-light, subtracted-few, weight-within}
use Rattle.certified_theory.proofs.Weights.{within-weight}
use Rattle.certified_theory.proofs.Noting.{Noted, Notes, rows_at, sum-made}

module _ {n : ℕ} {sent table : List Exchange} {generators : List Vector} (O : Symmetric n sent table generators)
    (closed : Closed generators O.sizes table) (few : length generators ≤ generator_limit)
    (s : State) (cs : List (List ℤ)) (N : Notes generators s.rows cs) where
  noted-light : (x : Certified) → Noted generators x → Light image_bound x
  noted-light x h = omega (arith, weight-within stored_coefficient_limit h.limited, mul-le-mul_right {m = length x.coefficients} {n = generator_limit} stored_coefficient_limit (long x h))
    where
      long : (x : Certified) → Noted generators x → length x.coefficients ≤ generator_limit
      long x h = omega (arith, h.made.one_each, few)

  rows-light : Each (Light image_bound) (certified_rows s.rows cs)
  rows-light = each_map noted-light N.each

  -- an image of a stored row
  pub image_bounded : (p : Exchange) (j : ℕ) → j < length s.rows
      → weight (image_coefficients generators p (get_or cs j []) generators) ≤ image_bound
  image_bounded p j l = omega (arith, coefficients-light generators p (get_or cs j []) generators, rows_at (Light image_bound) s.rows cs N.long rows-light j l)

  module _ (limit : ℕ) (limited : Each (Within entry_limit) s.rows) (c : Counted (length table) limit s)
      (left : s.i < length s.rows) where
    abbrev sum : Certified
    sum = certified_sum generators table s cs

    -- the sum
    pub sum-bounded : weight sum.coefficients ≤ image_bound + image_bound
    unfolding certified_sum
    sum-bounded =
        omega (
          arith,
          weight-plus (get_or cs s.i []) (signed s.positive (image_coefficients generators (get_or table s.position []) (get_or cs s.j []) generators)),
          weight-signed s.positive (image_coefficients generators (get_or table s.position []) (get_or cs s.j []) generators),
          rows_at (Light image_bound) s.rows cs N.long rows-light s.i left,
          image_bounded (get_or table s.position []) s.j (omega (arith, c.j_in)),
        )

    -- its vector: so many subtractions at most
    pub sum-weight : weight (sum_at table s) ≤ cells * (entry_limit + entry_limit)
    unfolding sum_at sum_of
    sum-weight =
        omega (arith, weight-within (entry_limit + entry_limit) inside, long)
      where
        inside : Within (entry_limit + entry_limit) (sum_of table s.rows s.i s.j s.position s.positive)
        inside = within-plus (each_at s.rows [] limited s.i left) (within_signed s.positive (within-exchanged (get_or table s.position []) (each_at s.rows [] limited s.j (omega (arith, c.j_in)))))

        long : length (sum_of table s.rows s.i s.j s.position s.positive) * (entry_limit + entry_limit)
            ≡ cells * (entry_limit + entry_limit)
        long = ap (λ (k : ℕ). k * (entry_limit + entry_limit)) (made-length generators O.sizes (sum-made O closed s.rows cs N s.i s.j s.position s.positive left (omega (arith, c.j_in)) c.position_in))

    abbrev known : List Certified
    known = certified_orbits generators table (certified_rows s.rows cs)

    abbrev losses : List (List ℤ)
    losses = map (coefficients_of known) (subtracted (orbits table s.rows) (weight (sum_at table s)) (sum_at table s))

    -- AFTER ANY NUMBER OF SUBTRACTIONS
    pub part-bounded : (k : ℕ) → weight (minus_all sum.coefficients (take k losses)) ≤ coefficient_bound
    part-bounded k =
        omega (
          arith,
          minus-all-light image_bound sum.coefficients (each_take k (looked-light image_bound (orbits-light generators image_bound table rows-light) (subtracted (orbits table s.rows) (weight (sum_at table s)) (sum_at table s)))),
          sum-bounded,
          mul-le-mul_right {m = length (take k losses)} {n = cells * (entry_limit + entry_limit)} image_bound short,
        )
      where
        short : length (take k losses) ≤ cells * (entry_limit + entry_limit)
        short = omega (arith, length-take k losses, length-map (subtracted (orbits table s.rows) (weight (sum_at table s)) (sum_at table s)) (coefficients_of known), subtracted-few (orbits table s.rows) (weight (sum_at table s)) (sum_at table s), sum-weight)

    -- THE REMAINDER, and the row that is stored for it, before 24 is tested
    pub remainder-bounded : weight (certified_remainder generators table s.rows cs sum).coefficients
        ≤ coefficient_bound
    unfolding certified_remainder certified_sum
    remainder-bounded = subst (λ (ds : List (List ℤ)). weight (minus_all sum.coefficients ds) ≤ coefficient_bound) (take-length losses) (part-bounded (length losses))

    pub new-bounded : Within coefficient_bound (new_coefficients generators table s cs)
    unfolding new_coefficients
    new-bounded = within-weight coefficient_bound (new_coefficients generators table s cs) (row-light generators coefficient_bound table (certified_remainder generators table s.rows cs sum) remainder-bounded)
