-- `note_generator` meets its contract: what the generator counts as stands in the first places of a local array; what it
-- gives its row is written behind the others. Assumes nothing.
use mathlib.Core.Path.{◌∙◌}
use Rattle.certified.proofs.Noted.{blank-long, last-long}
use Rattle.certified.proofs.Generators.{counted-is, counted-room, counted-small, generator-is, generator-limited}
use Rattle.certified.proofs.Generators.{alike, generator-made, given_is, noted-other, noted-own}
use Rattle.certified.proofs.note_generator.Goals as goal

pub representative-requires-clause-limited : goal.representative-requires-clause-limited
representative-requires-clause-limited c = rw c.vector_at-v.ensures.made (generator-limited c.requires.notable.closed c.args.p c.requires.generator)

pub returns-then-not-equal : goal.returns-then-not-equal
returns-then-not-equal c =
    record {
      noted = noted-other c.args.shape c.args.table.now c.args.list.now c.args.basis.now c.args.p c.args.r c.vector_at-v.ensures.made c.representative.ensures.row c.load-row.ensures.made
          c.equal.ensures.told c.if-not-equal.true c.args.coefficients.now;
    }

pub add_counted-requires-clause-limited : goal.add_counted-requires-clause-limited
add_counted-requires-clause-limited c = rw c.vector_at-v.ensures.made (generator-limited c.requires.notable.closed c.args.p c.requires.generator)

pub add_counted-requires-clause-counted : goal.add_counted-requires-clause-counted
add_counted-requires-clause-counted c = rw c.vector_at-v.ensures.made (generator-is c.requires.notable.closed c.args.p c.requires.generator)

pub add_counted-requires-clause-room : goal.add_counted-requires-clause-room
add_counted-requires-clause-room c = counted-room c.requires.notable.closed c.args.p c.requires.generator

pub row_coefficients-requires-clause-limited : goal.row_coefficients-requires-clause-limited
row_coefficients-requires-clause-limited c = rw c.vector_at-v.ensures.made (generator-limited c.requires.notable.closed c.args.p c.requires.generator)

pub row_coefficients-requires-clause-made : goal.row_coefficients-requires-clause-made
row_coefficients-requires-clause-made c =
    let same = alike c.args.shape c.args.table.now c.args.list.now c.args.basis.now c.args.p c.args.r c.vector_at-v.ensures.made c.representative.ensures.row c.load-row.ensures.made
    c.equal.ensures.told c.if-not-equal.false in
    generator-made c.requires.notable.closed c.args.p c.requires.generator c.load-row.result c.vector_at-v.result same
    c.vector_at-v.ensures.made c.requires.made

pub row_coefficients-requires-clause-small : goal.row_coefficients-requires-clause-small
row_coefficients-requires-clause-small c =
    counted-small c.requires.notable.closed c.args.p c.requires.generator _ c.vector_at-v.ensures.made
    (c.add_counted.auto.into ∙ blank-long c.requires.notable) c.add_counted.ensures.added

pub returns : goal.returns
returns c =
    let same = alike c.args.shape c.args.table.now c.args.list.now c.args.basis.now c.args.p c.args.r c.vector_at-v.ensures.made c.representative.ensures.row c.load-row.ensures.made
    c.equal.ensures.told c.if-not-equal.false in
    let long = c.add_counted.auto.into ∙ blank-long c.requires.notable in
    let counted = counted-is c.requires.notable.closed c.args.p c.requires.generator _ c.vector_at-v.ensures.made long c.add_counted.ensures.added in
    let given = c.row_coefficients.ensures.made
    ∙ given_is c.requires.notable.closed c.args.p c.requires.generator c.load-row.result c.vector_at-v.result same
    c.vector_at-v.ensures.made counted in
    record {
      noted = noted-own c.args.shape c.args.table.now c.args.list.now c.args.basis.now c.args.p c.args.r c.vector_at-v.ensures.made c.representative.ensures.row c.load-row.ensures.made
          c.equal.ensures.told c.if-not-equal.false c.requires.notable c.row_coefficients.new.into
          (c.row_coefficients.auto.into ∙ last-long c.args.r c.requires.notable) given;
    }
