-- `print` meets its contract: its area has room for the longest text, by computation. Assumes nothing.
use Rattle.definitions.specs.Lists.{concat}
use Rattle.definitions.specs.Completion.{sum_count}
use Rattle.answers.specs.Text.{digits, decimal}
use Rattle.answers.specs.Answers.{head_text}
use Rattle.answers.specs.Lengths.{text_limit}
use Rattle.services.proofs.Endings.{text-laid, text-long}
use borrow.Author.Rules.{rules}
use Rattle.services.proofs.print.Goals as goal

pub returns-then-room-end : goal.returns-then-room-end
unfolding text_limit head_text concat decimal digits sum_count
returns-then-room-end c = let k = c.write_answer-end in record { roomy = search rules; laid = text-long k.ensures.laid (search rules) k.auto.area }

pub returns : goal.returns
unfolding text_limit head_text concat decimal digits sum_count
returns c = let k = c.write_answer-end in record { roomy = search rules; laid = text-laid k.ensures.laid (search rules) k.auto.area }
