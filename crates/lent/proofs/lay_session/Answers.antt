-- `lay_session` meets its contract: the ten numbers are the counts of the session. Assumes nothing.
use mathlib.Core.Path.{◌∙◌, ap}
use lib.ListN.{length}
use Rattle.definitions.specs.Lent.{filled}
use Rattle.lent.proofs.Sessions.{ten-all}
use Rattle.lent.proofs.lay_session.Goals as goal

pub returns : goal.returns
returns c =
    record {
      laid = c.lay_counts.ensures.laid
          ∙ ap (filled 0 (length c.args.area.now))
          (ten-all c.args.answer c.ending_counts-a.ensures.counted c.ending_counts-b.ensures.counted);
    }
