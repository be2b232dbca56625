-- `difference_fault` meets its contract. The invariant: what is left has the first difference of all. Assumes nothing.
use mathlib.Core.Path.{◌≡◌}
use Prim.Native.Nat.{◌≤◌}
use lib.ListN.{length, drop}
use Rattle.definitions.specs.Session.{difference_from}
use Rattle.sessions.proofs.difference_fault.Given as goal

abbrev pub invariant-loop-p : goal.invariant-loop-p
invariant-loop-p l = (l.p ≤ length l.exchanges) × (l.p ≤ length l.others) × (difference_from l.n l.p (drop l.p l.exchanges) (drop l.p l.others) ≡ difference_from l.n 0 l.exchanges l.others)
