use Rattle.lrc_reading_laws.proofs.Closed.MadeWorlds.{knows}
use Rattle.lrc_reading_laws.proofs.made.what_is_told_was_made.Goals as goal

pub returns : goal.returns
returns c = λ program nodes options events world e.
    ((knows program nodes options events world e).made, (knows program nodes options events world e).are)
