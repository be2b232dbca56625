-- `uncertified_fault` meets its contract. Assumes nothing.
use Rattle.std.proofs.Common.{rules, ℕ, Bool, get_or, [], length, ◌/◌, ap₂, sym, ◌∙◌}
use Rattle.definitions.specs.Limits.{coefficient_limit}
use Rattle.definitions.specs.Lent.{chunks, vectors_of}
use Rattle.definitions.specs.Refusals.{fault_where, is_uncertified}
use Rattle.theory.proofs.CheckCall.{vectors-count}
use Rattle.theory.proofs.Lists.{part-row}
use Rattle.certificates.proofs.uncertified_fault.Goals as goal

pub returns : goal.returns
returns c =
    let n = c.args.n in
    let all = c.args.coefficients.now in
    let generators = vectors_of n c.args.generators.now in
    let rows = vectors_of n c.args.rows.now in
    let test : ℕ → ℕ → ℕ → Bool = λ width count p. is_uncertified coefficient_limit generators (get_or (chunks width count all) p []) (get_or rows p []) in
    let width = length c.args.generators.now / n in
    let count = length c.args.rows.now / n in
    record {
      found = c.fault_where.ensures.found (test width count) (λ p b h k. let part = part-row width count p all h in search rules)
          ∙ ap₂ (λ (w m : ℕ). fault_where 19 m (test w m)) (sym (vectors-count n c.args.generators.now)) (sym (vectors-count n c.args.rows.now));
    }
