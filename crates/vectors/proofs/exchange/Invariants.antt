-- `exchange` meets its contract. The invariant: the cells up to `j` are exchanged. Assumes nothing.
use Rattle.std.proofs.Common.{◌≡◌, take}
use Rattle.definitions.specs.Group.{exchanged}
use Rattle.vectors.proofs.exchange.Given as goal

abbrev pub invariant-loop-j : goal.invariant-loop-j
invariant-loop-j l = l.w ≡ exchanged (take l.j l.s) l.v
