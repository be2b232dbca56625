-- `show` is safe: what it prints lies within its areas. Assumes nothing.
use mathlib.Core.Path.{subst}
use Prim.Native.Nat.{ℕ, ◌*◌, ◌≤◌}
use native.Mathlib.Nat.{le-div_iff_mul-le}
use lib.ListN.{length}
use Rattle.samples.proofs.show.Goals as goal

pub write_answer-end-requires : goal.write_answer-end-requires
write_answer-end-requires c =
    record {
      rows = subst (λ (k : ℕ). k * c.args.width ≤ length c.args.numbers.now) c.line_count-lines.ensures.lines
          ((le-div_iff_mul-le c.requires.some).0 c.if-lines-numbers.true);
    }
