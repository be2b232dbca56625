-- `chain_fits` meets its contract. Assumes nothing.
use mathlib.Core.Bool.{and_assoc}
use Rattle.definitions.specs.Window.{chain_fits}
use Rattle.draws.proofs.chain_fits.Goals as goal

pub returns : goal.returns
unfolding chain_fits
returns c = record { told = simp (c.whole_rows-records_whole.ensures.told, c.whole_rows-answers_whole.ensures.told, and_assoc) }
