-- `brought_fault` meets its contract: 17 to 19, and then 20 to 22. Assumes nothing.
use native.Mathlib.Omega.{arith}
use Rattle.std.proofs.Common.{rules}
use Rattle.definitions.specs.Limits.{entry_limit}
use Rattle.definitions.specs.Refusals.{first_fault}
use Rattle.theory.proofs.Bounds.{each_within, within-each, within_more}
use Rattle.moves.proofs.Checkings.{brought-ready}
use Rattle.moves.proofs.brought_fault.Goals as goal

pub wholeness_fault-requires-clause-brought : goal.wholeness_fault-requires-clause-brought
wholeness_fault-requires-clause-brought c = brought-ready c.requires.grouped c.requires.sized (search rules)

pub wholeness_fault-requires-clause-limited : goal.wholeness_fault-requires-clause-limited
wholeness_fault-requires-clause-limited c = each_within _ (within_more (omega arith) (within-each entry_limit _ c.requires.sized.limited))

pub returns-in_err-rows_fault : goal.returns-in_err-rows_fault
unfolding first_fault
returns-in_err-rows_fault c = search rules

pub returns : goal.returns
unfolding first_fault
returns c = search rules
