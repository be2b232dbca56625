-- `combined_cell` meets its contract. The invariant: the sum and the cell of the combination of what is left are the
-- cell, and a sum of q products is small. Assumes nothing.
use Rattle.std.proofs.Common.{rules, arith, get_or, pos, to_z, w64, ◌+◌, ◌*◌, ◌<◌}
use Rattle.std.proofs.lemmas.Int.{to_z-of_z}
use lib.IntN.{+ℤ_assoc, +ℤ_idr}
use Rattle.definitions.specs.Limits.{generator_limit}
use Rattle.definitions.specs.Lent.{vectors_of}
use Rattle.certificates.proofs.Sums.{Term, combined-end, combined-next, sum_fits, term-at}
use Rattle.certificates.proofs.combined_cell.Goals as goal
use Rattle.certificates.proofs.combined_cell.Goals.{In-loop-q}

-- the product of one turn
term : (c : In-loop-q) → Term (get_or c.args.coefficients.now c.loop-q.q (pos 0)) (get_or c.args.generators.now (c.loop-q.q * c.args.n + c.args.j) (pos 0))
term c = term-at c.args.n c.args.j c.loop-q.q c.args.generators.now c.args.coefficients.now c.requires.sizes c.requires.small c.loop-q-test.true

pub overflow_mul-sum : goal.overflow_mul-sum
overflow_mul-sum c = let t = term (goal.at.overflow_mul-sum c).In-loop-q in search rules

pub overflow_add-sum : goal.overflow_add-sum
overflow_add-sum c = let t = term (goal.at.overflow_add-sum c).In-loop-q in search rules

pub loop-q-preserved : goal.loop-q-preserved
loop-q-preserved c =
    let few : c.loop-q.q < generator_limit = omega (arith, c.requires.sizes.one_each, c.requires.sizes.bounded.few) in
    let t = term (goal.at.loop-q-preserved c).In-loop-q in
    let sum = sum_fits (to_z w64 c.loop-q.sum-bits) c.loop-q.q t c.loop-q.invariant.0 few in
    let next = combined-next c.args.n c.args.j c.loop-q.q c.args.generators.now c.args.coefficients.now c.requires.cells c.requires.sizes c.loop-q-test.true in
    (search rules, grind (arith, to_z-of_z, +ℤ_assoc))

pub returns : goal.returns
returns c =
    let end = combined-end c.args.coefficients.now (vectors_of c.args.n c.args.generators.now) c.args.j c.loop-q.q c.loop-q-test.false in
    search (rules, +ℤ_idr)
