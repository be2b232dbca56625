-- `note_row` meets its contract: the sum's coefficients, and what the reduction leaves of them, stand in the first places
-- of a local array; those of the row are written behind the others. Assumes nothing.
use mathlib.Core.Path.{◌∙◌}
use Rattle.completion.proofs.Sums.{sum-limited}
use Rattle.certified.proofs.Noted.{blank-long, last-long}
use Rattle.certified.proofs.Storing.{carriable, carried-is, carried-light, new_is, rest-limited, row_made, row-noted}
use Rattle.certified.proofs.note_row.Goals as goal

pub reduce_certified-rest-requires-clause-limited : goal.reduce_certified-rest-requires-clause-limited
reduce_certified-rest-requires-clause-limited c = rw c.sum_at.ensures.sum (sum-limited c.requires.stored.summable.formable)

pub reduce_certified-rest-requires-clause-carriable : goal.reduce_certified-rest-requires-clause-carriable
reduce_certified-rest-requires-clause-carriable c =
    carriable c.requires.stored c.requires.notable c.requires.limited _ c.sum_at.ensures.sum c.sum_coefficients.ensures.made
    (c.sum_coefficients.auto.into ∙ blank-long c.requires.notable)

pub row_coefficients-requires-clause-limited : goal.row_coefficients-requires-clause-limited
row_coefficients-requires-clause-limited c = rw (c.reduce_certified-rest.ensures.rest, c.sum_at.ensures.sum) (rest-limited c.requires.stored)

pub row_coefficients-requires-clause-made : goal.row_coefficients-requires-clause-made
row_coefficients-requires-clause-made c = row_made c.requires.stored c.sum_at.ensures.sum c.reduce_certified-rest.ensures.rest c.load-row.ensures.made

pub row_coefficients-requires-clause-small : goal.row_coefficients-requires-clause-small
row_coefficients-requires-clause-small c =
    carried-light c.requires.stored c.requires.notable c.requires.limited _ _ c.sum_at.ensures.sum c.sum_coefficients.ensures.made
    (c.sum_coefficients.auto.into ∙ blank-long c.requires.notable) c.reduce_certified-rest.ensures.carried c.reduce_certified-rest.auto.carried

pub returns : goal.returns
returns c =
    let R = c.requires.stored in
    let N = c.requires.notable in
    let L = c.requires.limited in
    let carried = carried-is R N L _ _ c.sum_at.ensures.sum c.sum_coefficients.ensures.made
    (c.sum_coefficients.auto.into ∙ blank-long N) c.reduce_certified-rest.ensures.carried c.reduce_certified-rest.auto.carried in
    let new = new_is R N L c.sum_at.ensures.sum c.reduce_certified-rest.ensures.rest c.load-row.ensures.made carried in
    record {
      noted = row-noted R N L c.row_coefficients.new.into (c.row_coefficients.auto.into ∙ last-long c.args.s.stored N)
          (c.row_coefficients.ensures.made ∙ new) c.has_past.ensures.told;
    }
