-- `is_contingency` meets its contract. Assumes nothing.
use Rattle.std.proofs.Common.{◌≡◌, ◌∙◌, [], ◌∷◌, refl, rules, tests}
use Rattle.std.specs.List.{list_all}
use Rattle.std.proofs.lemmas.Iterator.{YieldsList-from_slice}
use Rattle.std.proofs.lemmas.Iterator.Search.{all_from_yields_List}
use Rattle.definitions.specs.Vector.{Vector}
use Rattle.definitions.specs.Window.{is_contingency, is_entry}
use Rattle.definitions.specs.Lists.{every}
use Rattle.draws.proofs.is_contingency.Goals as goal

all-entries : (v : Vector) → list_all is_entry v ≡ is_contingency v
unfolding is_contingency every
all-entries [] = refl
all-entries (x ∷ v) = rw (all-entries v)

pub returns : goal.returns
returns c =
    record { told = all_from_yields_List is_entry c.all.new.self _ _ c.all.ensures.ran (YieldsList-from_slice c.args.v cc) (λ x b q k. search (rules, tests)) ∙ all-entries c.args.v }
