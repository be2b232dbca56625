-- `problem_fits` meets its contract. Assumes nothing.
use mathlib.Core.Path.{refl}
use Rattle.definitions.specs.Plan.{problem_fits}
use Rattle.costs.proofs.problem_fits.Goals as goal

pub returns : goal.returns
unfolding problem_fits
returns c = record { told = refl }
