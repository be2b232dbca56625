-- `feasible` meets its contract. Assumes nothing.
use Rattle.std.proofs.Common.{◌≡◌, ◌∙◌, ℤ, [], ◌∷◌, length, refl, arith, rules, tests}
use Rattle.std.specs.List.{list_all, zip}
use Rattle.std.proofs.lemmas.Iterator.{YieldsList-from_slice, YieldsList-from_zip}
use Rattle.std.proofs.lemmas.Iterator.Search.{all_from_yields_List}
use Rattle.definitions.specs.Vector.{Vector}
use Rattle.definitions.specs.Plan.{feasible, is_bounded}
use Rattle.costs.proofs.feasible.Goals as goal

-- the test of all pairs is that of the two vectors
all-feasible : (upper v : Vector) → length upper ≡ length v → list_all (λ (p : ℤ × ℤ). is_bounded p.0 p.1) (zip upper v) ≡ feasible upper v
unfolding feasible
all-feasible [] [] e = refl
all-feasible [] (x ∷ v) e = absurd (omega arith)
all-feasible (bound ∷ upper) [] e = absurd (omega arith)
all-feasible (bound ∷ upper) (x ∷ v) e = rw (all-feasible upper v (omega arith))

pub returns : goal.returns
returns c = record {
  told = all_from_yields_List (λ (p : ℤ × ℤ). is_bounded p.0 p.1) c.all.new.self _ _ c.all.ensures.ran
      (YieldsList-from_zip (YieldsList-from_slice c.args.upper cc) (YieldsList-from_slice c.args.v cc)) (λ x b q k. search (rules, tests))
      ∙ all-feasible c.args.upper c.args.v (omega arith);
}
