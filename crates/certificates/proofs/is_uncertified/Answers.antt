-- `is_uncertified` meets its contract: where no coefficient is past its limit, the combination is what counts.
-- Assumes nothing.
use Rattle.std.proofs.Common.{rules}
use Rattle.certificates.proofs.Tests.{past_more}
use Rattle.certificates.proofs.is_uncertified.Goals as goal

pub combination-sum-requires-clause-small : goal.combination-sum-requires-clause-small
combination-sum-requires-clause-small c = past_more c.requires.limited c.args.coefficients.now (search rules)
