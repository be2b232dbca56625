-- The row that is stored for a sum, and its coefficients: how large the numbers on the way get, and what is noted
-- (Specification 3.2 to 3.4 and 3.7). Assumes nothing.
use mathlib.Core.Path.{◌≡◌, refl, sym, ◌∙◌, ap, ap₂}
use mathlib.Core.Bool.{Bool, true, false, not, ◌&&◌, ◌||◌}
use mathlib.Core.List.{List, [], ◌∷◌, ◌++◌, map}
use Prim.Native.Nat.{ℕ, ◌+◌, ◌-◌, ◌*◌, ◌≤◌, ◌<◌}
use native.Mathlib.Omega.{arith}
use native.Mathlib.Nat.{mul-le-mul_right}
use lib.Dec.{leb}
use lib.IntN.{ℤ, nat_abs}
use lib.ListN.{length, get_or, take, drop, length-map, length-take}
use lib.Seq.{take_at}
use Rattle.definitions.specs.Limits.{cells, entry_limit, stored_coefficient_limit}
use Rattle.definitions.specs.Lists.{any, every}
use Rattle.definitions.specs.Vector.{Vector, is_member, padded, weight, within}
use Rattle.definitions.specs.Group.{Exchange, exchanged}
use Rattle.definitions.specs.Orbit.{orbit, orbits, representative, signed}
use Rattle.definitions.specs.Completion.{remainder, subtracted, sum_at, sum_of}
use Rattle.definitions.specs.Certified.{certified_orbits, certified_remainder, certified_row, certified_rows, certified_sum}
use Rattle.definitions.specs.Certified.{coefficients_of, image_coefficients, new_coefficients}
use Rattle.definitions.specs.Lent.{vectors_of}
use Rattle.definitions.specs.Refusals.{is_past}
use Rattle.theory.proofs.Accepted.{padded-length}
use Rattle.theory.proofs.Below.{⊑-length}
use Rattle.theory.proofs.Exchanges.{length_exchanged}
use Rattle.theory.proofs.Images.{length-signed, weight-signed}
use Rattle.theory.proofs.Lists.{row-long}
use Rattle.theory.proofs.Members.{Each, each-cons, each_nil}
use Rattle.theory.proofs.Reduction.{Reduced, reduce-yields}
use Rattle.theory.proofs.Rows.{row_at}
use Rattle.theory.proofs.Vector.{length-plus, weight-plus}
use Rattle.certified_theory.proofs.Limits.{bound-fits, image_bound}
use Rattle.certified_theory.proofs.Weights.{Light, coefficients-light, looked-light, minus-all-light, orbits-light}
use Rattle.certified_theory.proofs.Weights.{subtracted-few, weight-within}
use Rattle.vectors.specs.Bounds.{headroom}
use Rattle.reduction.specs.declared.Extent.{Extent}
use Rattle.reduction.specs.declared.Shape.{Shape}
use Rattle.reduction.specs.Areas.{rows_at, sequences_in}
use Rattle.reduction.proofs.Lent.{rest-within}
use Rattle.coefficients.specs.Carrying.{Carriable, remainder_coefficients, row_coefficients_in, widest}
use Rattle.completion.specs.declared.State.{State}
use Rattle.completion.specs.Machine.{remainder_in, sum_in}
use Rattle.completion.proofs.Sums.{j-stored, sum-limited, sum-within}
use Rattle.certified.specs.Noting.{Limited, Notable, RowNoted, RowStored, new_in, noted_in, sum_coefficients_in, width_of}
use Rattle.certified.proofs.Noted.{each_light, noted-light, put, put-row, put-rows}

-- ---- the limit

-- a limit is passed by some number, or by none
pub none-past : (limit : ℕ) (xs : List ℤ) → not (any (is_past limit) xs) ≡ within limit xs
unfolding any within every is_past
none-past limit [] = refl
none-past limit (x ∷ xs) = go (leb (nat_abs x) limit) (any (is_past limit) xs) ∙ ap (λ (b : Bool). leb (nat_abs x) limit && b) (none-past limit xs)
  where
    go : (a b : Bool) → not (not a || b) ≡ (a && not b)
    go true b = refl
    go false b = refl

-- ---- the numbers

light-rows : (k : ℕ) (rows : List Vector) {cs : List (List ℤ)} → Each (λ c. weight c ≤ k) cs → Each (Light k) (certified_rows rows cs)
unfolding certified_rows
light-rows k [] h = each_nil
light-rows k (v ∷ rows) each_nil = each_nil
light-rows k (v ∷ rows) (each-cons h t) = each-cons h (light-rows k rows t)

module _ {shape : Shape} {table : List ℕ} {list : List ℤ} {marks keys : List ℕ} {s : State}
    (R : RowStored shape table list marks keys s) where
  abbrev G : List Exchange
  G = sequences_in shape table

  abbrev rows : List Vector
  rows = rows_at shape.n s.stored list

  abbrev sum : Vector
  sum = sum_in shape table list s

  abbrev rest : Vector
  rest = remainder_in shape table list s

  narrow : shape.n ≤ cells
  narrow = R.summable.formable.is_table.narrow

  row-cells : (i : ℕ) → i < s.stored → length (get_or rows i []) ≡ cells
  row-cells i h =
      let part = take shape.n (drop (i * shape.n) list) in
      ap length (sym (row_at shape.n s.stored i list h))
      ∙ padded-length part (omega (arith, length-take shape.n (drop (i * shape.n) list), narrow))

  sum-long : length sum ≡ cells
  unfolding sum_at sum_of
  sum-long =
      let F = R.summable.formable in
      let p = get_or G s.position [] in
      let j = row-cells s.j (j-stored F) in
      let short : length p ≤ length (get_or rows s.j []) =
      omega (arith, row-long shape.n shape.g s.position table F.position_in F.is_table.holds, narrow, j) in
      length-plus cells (get_or rows s.i []) (signed s.positive (exchanged p (get_or rows s.j [])))
      (row-cells s.i F.i_in)
      (length-signed s.positive (exchanged p (get_or rows s.j [])) ∙ length_exchanged p (get_or rows s.j []) short ∙ j)

  sum-weight : weight sum ≤ cells * (entry_limit + entry_limit)
  sum-weight =
      let long = ap (λ (k : ℕ). k * (entry_limit + entry_limit)) sum-long in
      omega (arith, weight-within (entry_limit + entry_limit) (sum-within R.summable.formable), long)

  left : Reduced (orbits G rows) sum rest
  unfolding remainder
  left = reduce-yields (orbits G rows) R.summable.ready.nonzero sum sum-long

  pub rest-limited : within headroom rest ≡ true
  rest-limited = rest-within headroom rest sum left.below-it (sum-limited R.summable.formable)

  -- the remainder as it is computed, and its row as it is read
  module _ {u v row : Vector} (sum-is : u ≡ sum) (rest_of : v ≡ remainder G rows u)
      (read : row ≡ padded (take shape.n (drop (s.stored * shape.n) list))) where
    rest-is : v ≡ rest
    rest-is = rest_of ∙ ap (remainder G rows) sum-is

    row-is : row ≡ representative G rest
    row-is = read ∙ row_at shape.n (s.stored + 1) s.stored list (omega arith) ∙ R.row

    -- the row is an image of the remainder
    pub row_made : is_member row (orbit G v) ≡ true
    row_made = rw (row-is, rest-is) (R.made rest (⊑-length left.below-it ∙ sum-long))

  module _ {basis coefficients : List ℤ} (N : Notable shape (s.stored + 1) table basis coefficients)
      (L : Limited shape.n basis s.stored coefficients) where
    abbrev m : ℕ
    m = width_of shape.n basis

    abbrev generators : List Vector
    generators = vectors_of shape.n basis

    abbrev noted : List (List ℤ)
    noted = noted_in shape.n basis s.stored coefficients

    pub notable : Notable shape s.stored table basis coefficients
    notable = record { closed = N.closed; room = omega (arith, N.room, mul-le-mul_right {m = s.stored} {n = s.stored + 1} m (omega arith)) }

    abbrev sum_cs : List ℤ
    sum_cs = sum_coefficients_in shape table basis coefficients s

    sum-light : weight sum_cs ≤ image_bound + image_bound
    unfolding certified_sum
    sum-light =
        let F = R.summable.formable in
        let c = get_or noted s.i [] in
        let d = image_coefficients generators (get_or G s.position []) (get_or noted s.j []) generators in
        omega (
          arith,
          weight-plus c (signed s.positive d),
          weight-signed s.positive d,
          coefficients-light generators (get_or G s.position []) (get_or noted s.j []) generators,
          noted-light notable s.i F.i_in L,
          noted-light notable s.j (j-stored F) L,
        )

    room : weight sum_cs + weight sum * image_bound ≤ widest
    room =
        omega (
          arith,
          sum-light,
          mul-le-mul_right {m = weight sum} {n = cells * (entry_limit + entry_limit)} image_bound sum-weight,
          bound-fits,
        )

    abbrev extent : Extent
    extent = record { shape = shape; k = s.stored }

    -- the sum's coefficients stand in the first places of an array
    module _ {v : Vector} {summed : List ℤ} (a : List ℤ) (e : v ≡ sum) (made : summed ≡ sum_cs) (long : length summed ≡ m) where
      summed-is : take m (summed ++ a) ≡ summed
      summed-is = take_at summed a m long

      -- it can be reduced
      pub carriable : Carriable extent table basis coefficients v (take m (summed ++ a))
      carriable = record {
        closed = N.closed;
        one_each = ap length summed-is ∙ long;
        holds = notable.room;
        light = each_light notable L;
        room = rw (e, summed-is ∙ made) room;
      }

    abbrev pub rest_cs : List ℤ
    rest_cs = remainder_coefficients extent table list basis coefficients sum sum_cs

    pub rest-light : weight rest_cs ≤ widest
    unfolding certified_remainder
    rest-light =
        let known = certified_orbits generators G (certified_rows rows noted) in
        let images = subtracted (orbits G rows) (weight sum) sum in
        let light = looked-light image_bound (orbits-light generators image_bound G (light-rows image_bound rows (each_light notable L))) images in
        let few : length (map (coefficients_of known) images) ≤ weight sum =
        omega (arith, length-map images (coefficients_of known), subtracted-few (orbits G rows) (weight sum) sum) in
        omega (
          arith,
          minus-all-light image_bound sum_cs light,
          mul-le-mul_right {m = length (map (coefficients_of known) images)} {n = weight sum} image_bound few,
          room,
        )

    -- and so do those of the remainder
    module _ {v : Vector} {summed carried : List ℤ} (a b : List ℤ) (e : v ≡ sum) (made : summed ≡ sum_cs) (long : length summed ≡ m)
        (left-is : carried ≡ remainder_coefficients extent table list basis coefficients v (take m (summed ++ a)))
        (same : length carried ≡ length (take m (summed ++ a))) where
      pub carried-is : take m (carried ++ b) ≡ rest_cs
      carried-is =
          take_at carried b m (same ∙ ap length (summed-is a e made long) ∙ long) ∙ left-is
          ∙ ap₂ (remainder_coefficients extent table list basis coefficients) e (summed-is a e made long ∙ made)

      pub carried-light : weight (take m (carried ++ b)) ≤ widest
      carried-light = rw carried-is rest-light

    -- what is noted
    pub new_is : {u v row : Vector} → u ≡ sum → v ≡ remainder G rows u
        → row ≡ padded (take shape.n (drop (s.stored * shape.n) list)) → {from : List ℤ} → from ≡ rest_cs
        → row_coefficients_in shape table basis row v from ≡ new_in shape table list basis coefficients s
    unfolding new_coefficients certified_row certified_remainder certified_sum
    new_is e f r g = rw (row-is e f r, rest-is e f r, g)

    pub row-noted : (new : List ℤ) (long : length new ≡ m) → new ≡ new_in shape table list basis coefficients s → {b : Bool}
        → b ≡ any (is_past stored_coefficient_limit) (take (s.stored * m + m - s.stored * m) (drop (s.stored * m) (put s.stored N new long)))
        → RowNoted shape table list basis s coefficients (put s.stored N new long) (not b)
    row-noted new long is told = record {
      told = ap not (told ∙ ap (any (is_past stored_coefficient_limit)) (put-row s.stored N new long ∙ is)) ∙ none-past stored_coefficient_limit _;
      rows = put-rows s.stored N new long ∙ ap (λ (l : List ℤ). noted ++ l ∷ []) is;
    }
