-- `bounds_fault` meets its contract. Assumes nothing.
use Rattle.std.proofs.Common.{Bool, ℕ, [], rules}
use Rattle.definitions.specs.Plan.{is_misplanned}
use Rattle.costs.proofs.bounds_fault.Goals as goal

pub returns : goal.returns
unfolding is_misplanned
returns c =
    let test : ℕ → Bool = is_misplanned (record { start = c.args.start.now; upper = c.args.upper.now; costs = []; budget = 0 }) in
    record { found = c.fault_where.ensures.found test (λ p b h k. search rules) }
