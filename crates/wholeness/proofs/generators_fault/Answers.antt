-- `generators_fault` meets its contract. Assumes nothing.
use Rattle.std.proofs.Common.{rules, ℕ, Bool, not, get_or, [], refl, ap, sym, ◌∙◌, length, ◌<◌, ◌/◌}
use Rattle.definitions.specs.Vector.{is_zero}
use Rattle.definitions.specs.Completion.{remainder}
use Rattle.definitions.specs.Lent.{rows_of, vectors_of}
use Rattle.definitions.specs.Refusals.{fault_where}
use Rattle.theory.proofs.CheckCall.{vectors-count}
use Rattle.vectors.specs.Bounds.{headroom}
use Rattle.vectors.proofs.Rows.{vectors-within}
use Rattle.reduction.specs.Areas.{sequences_in}
use Rattle.wholeness.proofs.Given.{rows-ready}
use Rattle.wholeness.proofs.generators_fault.Goals as goal

pub fault_where-requires : goal.fault_where-requires
fault_where-requires c =
    let bounded = λ (p : ℕ) (h : p < length c.args.generators.now / c.args.shape.n). vectors-within headroom c.args.shape.n p c.args.generators.now h c.requires.limited in
    let ready = rows-ready c.requires.ready (length c.args.rows.now / c.args.shape.n) refl in
    record { callable = λ p h. search rules }

pub returns : goal.returns
unfolding vectors_of rows_of
returns c =
    let vs = vectors_of c.args.shape.n c.args.generators.now in
    let left = remainder (sequences_in c.args.shape c.args.table.now) (vectors_of c.args.shape.n c.args.rows.now) in
    let test : ℕ → Bool = λ p. not (is_zero (left (get_or vs p []))) in
    record { found = c.fault_where.ensures.found test (λ p b h k. search rules) ∙ ap (λ (m : ℕ). fault_where 20 m test) (sym (vectors-count c.args.shape.n c.args.generators.now)) }
