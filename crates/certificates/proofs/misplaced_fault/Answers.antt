-- `misplaced_fault` meets its contract. Assumes nothing.
use Rattle.std.proofs.Common.{rules, ℕ, ap, sym, ◌∙◌}
use Rattle.definitions.specs.Lent.{vectors_of}
use Rattle.definitions.specs.Refusals.{fault_where, is_misplaced}
use Rattle.theory.proofs.CheckCall.{vectors-count}
use Rattle.certificates.proofs.misplaced_fault.Goals as goal

pub returns : goal.returns
returns c =
    let test = is_misplaced (vectors_of c.args.n c.args.rows.now) in
    record { found = c.fault_where.ensures.found test (λ p b h k. search rules) ∙ ap (λ (m : ℕ). fault_where 18 m test) (sym (vectors-count c.args.n c.args.rows.now)) }
