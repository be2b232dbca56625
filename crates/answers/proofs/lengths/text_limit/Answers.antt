-- `text_limit` meets its contract: by computation. Assumes nothing.
use mathlib.Core.Path.{refl}
use Rattle.definitions.specs.Lists.{concat}
use Rattle.definitions.specs.Completion.{sum_count}
use Rattle.answers.specs.Text.{digits, decimal}
use Rattle.answers.specs.Answers.{head_text}
use Rattle.answers.specs.Lengths.{text_limit}
use Rattle.answers.proofs.lengths.text_limit.Goals as goal

pub returns : goal.returns
unfolding text_limit head_text concat decimal digits sum_count
returns c = record { longest = refl }
