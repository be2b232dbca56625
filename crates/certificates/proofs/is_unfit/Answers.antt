-- `is_unfit` meets its contract; a row within the entry limit leaves room for its images. Assumes nothing.
use Rattle.std.proofs.Common.{rules, arith}
use Rattle.definitions.specs.Limits.{entry_limit}
use Rattle.theory.proofs.Bounds.{within-each, each_within, within_more}
use Rattle.vectors.specs.Bounds.{headroom}
use Rattle.certificates.proofs.is_unfit.Goals as goal

pub representative-greatest-requires-clause-limited : goal.representative-greatest-requires-clause-limited
representative-greatest-requires-clause-limited c = each_within headroom (within_more (omega arith) (within-each entry_limit c.args.row (search rules)))
