-- `conclude` meets its contract. Assumes nothing.
use mathlib.Core.Path.{refl}
use borrow.Author.Tests.{eq-eqb, ne_eqb}
use Rattle.plans.proofs.conclude.Goals as goal

pub returns-then-end-eq0 : goal.returns-then-end-eq0
returns-then-end-eq0 c = record { told = rw (eq-eqb c.args.end.gain 0 c.if-end-eq0.true) refl }

pub overflow_mul-result : goal.overflow_mul-result
overflow_mul-result c = rw c.reach-far.ensures.made (record { fits = c.requires.measured.fits })

pub returns : goal.returns
returns c = record { told = rw (ne_eqb c.args.end.gain 0 c.if-end-eq0.false, c.reach-far.ensures.made) refl }
