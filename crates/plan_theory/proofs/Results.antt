-- THE BEST PLAN (Specification 3.10): where a descent over an accepted listing ends, and that no plan is cheaper by more. Assumes nothing.
use mathlib.Core.Path.{◌≡◌, sym, ◌∙◌, ap, subst}
use mathlib.Core.Bool.{true, false}
use mathlib.Core.List.{List, Memᴰ}
use Prim.Native.Nat.{ℕ, ◌*◌, ◌≤◌, ◌<◌}
use native.Mathlib.Omega.{arith}
use native.Mathlib.Nat.{zero-mul}
use borrow.Author.Tests.{eqb-false, eqb-true}
use lib.ListN.{length, take}
use lib.Seq.{length-take-le}
use lib.IntN.{ℤ, pos, ◌+ℤ◌, +ℤ_idr}
use lib.Signed.{◌≤ℤ◌}
use Rattle.definitions.specs.Limits.{cells}
use Rattle.definitions.specs.Vector.{Vector, minus, negative, padded, plus}
use Rattle.definitions.specs.Lattice.{InLattice}
use Rattle.definitions.specs.Orbit.{orbits}
use Rattle.definitions.specs.Completion.{remainder}
use Rattle.definitions.specs.Lent.{Order, filled, generators_of}
use Rattle.definitions.specs.Calls.{Listing}
use Rattle.definitions.specs.Plan.{Problem, Stage, best_gain, best_step, descent, distance_bound, feasible, is_cheapest, reach, terms_of}
use Rattle.definitions.specs.Demands.{Attainable, CheaperPlan, NoneCheaper, NoneCheaperBy, total_cost}
use Rattle.theory.proofs.Accepted.{padded-length}
use Rattle.theory.proofs.Areas.{filled-whole}
use Rattle.theory.proofs.Conformal.{Conformal}
use Rattle.theory.proofs.Lattice.{lattice-negative, lattice-plus, lattice-zeros, plus-four}
use Rattle.theory.proofs.ListCall.{ListFacts}
use Rattle.theory.proofs.Members.{each_member}
use Rattle.theory.proofs.Reduction.{reduced-conformal}
use Rattle.theory.proofs.Rows.{Short, lattice-short, short-padded, short-plus, short-rows, vectors-short}
use Rattle.theory.proofs.Symmetric.{inside-length}
use Rattle.theory.proofs.Vector.{length-minus, length-negative, minus-itself, negative-plus, plus_assoc, plus_comm, plus-minus, plus-zero}
use Rattle.theory.proofs.Whole.{orbits-inside, orbits-positive, whole-reduces}
use Rattle.plan_theory.proofs.Best.{best-listed, gain-fall, gain-feasible}
use Rattle.plan_theory.proofs.Bounds.{feasible-length}
use Rattle.plan_theory.proofs.Cost.{cost-lower}
use Rattle.plan_theory.proofs.Descents.{Ends, conformal-distance, descent-ends}

-- two differences from one vector
minus-both : (y x s : Vector) → length y ≡ cells → length x ≡ cells → length s ≡ cells
    → minus (minus y s) (minus x s) ≡ minus y x
unfolding minus
minus-both y x s p q r =
    ap (plus (minus y s)) (negative-plus x (negative s))
    ∙ plus-four y (negative s) (negative x) (negative (negative s))
    ∙ ap (plus (minus y x)) (minus-itself (negative s) (length-negative s ∙ r))
    ∙ plus-zero (minus y x) (length-minus cells y x p q)

module _ {order : Order} {found : Listing} (F : ListFacts order found) (problem : Problem)
    (sized : length problem.start ≡ order.n)
    (begins : feasible (padded problem.upper) (padded problem.start) ≡ true) where
  abbrev images : List Vector
  images = orbits found.table found.rows

  abbrev s : Stage
  s = descent (terms_of problem) images problem.budget (padded problem.start)

  abbrev start : Vector
  start = padded problem.start

  abbrev generators : List Vector
  generators = generators_of order

  start-long : length start ≡ cells
  start-long = padded-length problem.start (omega (arith, sized, F.symmetric.fits))

  -- each lattice vector is a conformal sum of images
  all-conformal : (z : Vector) → InLattice generators z → Conformal (λ v. Memᴰ v images) z
  unfolding remainder
  all-conformal z h =
      reduced-conformal images (orbits-positive F.symmetric found.rows F.stored) z (inside-length F.symmetric h)
      (whole-reduces F.symmetric found.rows F.stored F.kept.whole z h)

  -- ---- attainable plans
  attained-long : {x : Vector} → Attainable order problem x → length x ≡ cells
  attained-long {x} a =
      feasible-length (padded problem.upper) x a.within_bounds
      ∙ sym (feasible-length (padded problem.upper) start begins) ∙ start-long

  attained-short : {x : Vector} → Attainable order problem x → Short order.n x
  unfolding generators_of
  attained-short {x} a =
      subst (Short order.n) (plus-minus cells x start (attained-long a) start-long)
      (short-plus order.n start (minus x start) (short-rows order.n problem.start sized)
      (lattice-short order.n F.symmetric.sizes (vectors-short order.n order.generators) (minus x start) a.in_lattice))

  apart : {x y : Vector} → Attainable order problem x → Attainable order problem y → InLattice generators (minus y x)
  unfolding minus
  apart {x} {y} a b =
      subst (InLattice generators) (minus-both y x start (attained-long b) (attained-long a) start-long)
      (lattice-plus generators F.symmetric.sizes b.in_lattice
      (lattice-negative generators F.symmetric.sizes a.in_lattice))

  first : Attainable order problem start
  first = record {
    in_lattice = subst (InLattice generators) (sym (minus-itself start start-long)) (lattice-zeros generators F.symmetric.sizes);
    within_bounds = begins;
  }

  next : (x : Vector) → 0 < best_gain (terms_of problem) images x → Attainable order problem x
      → Attainable order problem (plus x (best_step (terms_of problem) images x))
  unfolding terms_of best_gain minus
  next x h a = record {
    in_lattice = subst (InLattice generators)
        (sym (plus_assoc g x (negative start)) ∙ ap (λ (v : Vector). minus v start) (plus_comm g x))
        (lattice-plus generators F.symmetric.sizes
        (each_member (orbits-inside F.symmetric found.rows F.stored) (best-listed (terms_of problem) x images h))
        a.in_lattice);
    within_bounds = gain-feasible (terms_of problem) x g h;
  }
    where
      g : Vector
      g = best_step (terms_of problem) images x

  -- a step that gains leads to a cheaper plan
  lower : (x : Vector) → 0 < best_gain (terms_of problem) images x → Attainable order problem x → CheaperPlan order problem x
  unfolding terms_of best_gain
  lower x h a = record {
    other = plus x g;
    attained = next x h a;
    cheaper = cost-lower (padded problem.costs) x g (attained-long a ∙ sym g-long) (omega (arith, h, gain-fall (terms_of problem) x g));
  }
    where
      g : Vector
      g = best_step (terms_of problem) images x

      g-long : length g ≡ cells
      g-long =
          inside-length F.symmetric
          (each_member (orbits-inside F.symmetric found.rows F.stored) (best-listed (terms_of problem) x images h))

  -- ---- the theorems
  ends : Ends (terms_of problem) images (Attainable order problem) problem.budget s
  ends = descent-ends (terms_of problem) images (Attainable order problem) next problem.budget start first

  -- THE PLAN IS WITHIN BOUNDS, and differs from the start by a lattice vector
  pub descent-attained : Attainable order problem s.plan
  descent-attained = ends.keeps

  pub descent-few : s.steps ≤ problem.budget
  descent-few = ends.few

  pub descent-spent : is_cheapest (terms_of problem) images s ≡ false → s.steps ≡ problem.budget
  descent-spent e = ends.spent e

  -- WHERE SOME IMAGE GAINS, SOME SUCH PLAN IS CHEAPER
  pub descent-left : is_cheapest (terms_of problem) images s ≡ false → CheaperPlan order problem s.plan
  unfolding is_cheapest
  descent-left e =
      lower s.plan (omega (arith, eqb-false (best_gain (terms_of problem) images s.plan) 0 e)) descent-attained

  -- NO SUCH PLAN IS CHEAPER BY MORE THAN THE DISTANCE BOUND
  pub descent-distance : NoneCheaperBy order problem (distance_bound (terms_of problem) images s.plan) s.plan
  unfolding terms_of
  descent-distance y b =
      conformal-distance (terms_of problem) images (orbits-positive F.symmetric found.rows F.stored) s.plan y
      (attained-long descent-attained) (attained-long b) descent-attained.within_bounds b.within_bounds
      (all-conformal (minus y s.plan) (apart descent-attained b))

  -- WHERE NO IMAGE GAINS, NO SUCH PLAN IS CHEAPER
  pub descent-cheapest : is_cheapest (terms_of problem) images s ≡ true → NoneCheaper order problem s.plan
  unfolding is_cheapest distance_bound
  descent-cheapest e y b =
      let z : distance_bound (terms_of problem) images s.plan ≡ 0 =
      ap (λ (k : ℕ). k * reach (terms_of problem).upper s.plan) (eqb-true (best_gain (terms_of problem) images s.plan) 0 e)
      ∙ zero-mul (reach (terms_of problem).upper s.plan) in
      subst (λ (c : ℤ). total_cost problem s.plan ≤ℤ c)
      (ap (λ (k : ℕ). total_cost problem y +ℤ pos k) z ∙ +ℤ_idr (total_cost problem y)) (descent-distance y b)

  descent-long : length s.plan ≡ cells
  descent-long = attained-long descent-attained

  descent-short : Short order.n s.plan
  descent-short = attained-short descent-attained

  -- a plan area holds the whole plan
  pub descent-held : (size : ℕ) → size ≡ order.n → padded (filled (pos 0) size (take order.n s.plan)) ≡ s.plan
  descent-held size whole =
      let taken = length-take-le order.n s.plan (omega (arith, F.symmetric.fits, descent-long)) in
      ap padded (filled-whole (pos 0) size (take order.n s.plan) (taken ∙ sym whole))
      ∙ short-padded order.n s.plan F.symmetric.fits descent-long descent-short
