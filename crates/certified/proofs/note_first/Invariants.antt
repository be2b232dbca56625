-- `note_first` meets its contract. The loop's invariant: the first r rows are those of the first p generators, and their
-- coefficients are noted. Assumes nothing.
use Prim.Native.Nat.{◌<◌}
use lib.ListN.{length}
use Rattle.certified.proofs.FirstNotes.{FirstNoted}
use Rattle.certified.proofs.note_first.Given as goal

abbrev pub invariant-loop-p : goal.invariant-loop-p
invariant-loop-p l = 0 < length l.basis → FirstNoted l.shape l.table l.basis l.coefficients l.r l.p
