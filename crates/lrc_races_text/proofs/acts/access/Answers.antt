-- A word without a name is not accessed.
use Rattle.lrc_races_text.proofs.acts.access.Goals as goal

pub returns-in_default : goal.returns-in_default
returns-in_default c = λ name a. c.in_default.ensures name a.says
