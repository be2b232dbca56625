-- `others_fault` meets its contract. Assumes nothing.
use Rattle.std.proofs.Common.{rules, ℕ, Bool, refl, ap, sym, ◌∙◌, length, ◌/◌}
use Rattle.definitions.specs.Completion.{has_other_below}
use Rattle.definitions.specs.Lent.{rows_of, vectors_of}
use Rattle.definitions.specs.Refusals.{fault_where}
use Rattle.theory.proofs.CheckCall.{vectors-count}
use Rattle.reduction.specs.Areas.{sequences_in}
use Rattle.wholeness.proofs.Given.{rows-marked}
use Rattle.wholeness.proofs.others_fault.Goals as goal

pub fault_where-requires : goal.fault_where-requires
fault_where-requires c =
    let marked = rows-marked c.requires.ready (length c.args.rows.now / c.args.shape.n) refl in
    record { callable = λ p h. search rules }

pub returns : goal.returns
unfolding vectors_of rows_of
returns c =
    let test : ℕ → Bool = has_other_below (sequences_in c.args.shape c.args.table.now) (vectors_of c.args.shape.n c.args.rows.now) in
    record { found = c.fault_where.ensures.found test (λ p b h k. search rules) ∙ ap (λ (m : ℕ). fault_where 22 m test) (sym (vectors-count c.args.shape.n c.args.rows.now)) }
