-- `unfit_fault` meets its contract. Assumes nothing.
use Rattle.std.proofs.Common.{rules, ℕ, Bool, get_or, [], ap, sym, ◌∙◌}
use Rattle.definitions.specs.Lent.{vectors_of}
use Rattle.definitions.specs.Refusals.{fault_where, is_unfit}
use Rattle.theory.proofs.CheckCall.{vectors-count}
use Rattle.reduction.specs.Areas.{sequences_in}
use Rattle.certificates.proofs.unfit_fault.Goals as goal

pub returns : goal.returns
returns c =
    let rows = vectors_of c.args.shape.n c.args.rows.now in
    let test : ℕ → Bool = λ p. is_unfit (sequences_in c.args.shape c.args.table.now) (get_or rows p []) in
    record { found = c.fault_where.ensures.found test (λ p b h k. search rules) ∙ ap (λ (m : ℕ). fault_where 17 m test) (sym (vectors-count c.args.shape.n c.args.rows.now)) }
