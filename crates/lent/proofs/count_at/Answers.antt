-- `count_at` meets its contract: behind the first numbers nothing is read but 0. Assumes nothing.
use mathlib.Core.Path.{sym}
use native.Mathlib.Omega.{arith}
use lib.ListN.{take, length-take, get_or-eq_default}
use lib.Seq.{get_or-take}
use Rattle.lent.proofs.count_at.Goals as goal

pub returns-then-i-k : goal.returns-then-i-k
returns-then-i-k c = let a = c.args in record { count = sym (get_or-take a.k a.numbers.now a.i 0 c.if-i-k.true) }

pub returns : goal.returns
returns c = let a = c.args in record { count = sym (get_or-eq_default (take a.k a.numbers.now) 0 (omega (arith, length-take a.k a.numbers.now))) }
