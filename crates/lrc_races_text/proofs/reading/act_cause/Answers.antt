-- Whatever it is, or since it is no act.
use Rattle.std.proofs.Common.{refl}
use Rattle.lrc_races_lines.specs.Cause.{line_any, line_other}
use Rattle.lrc_races_text.proofs.reading.act_cause.Goals as goal

pub returns-in-Some : goal.returns-in-Some
returns-in-Some c = line_any c.in-Some.ensures

pub returns-in-None : goal.returns-in-None
returns-in-None c = line_other c.in-None.ensures.0 c.in-None.ensures.1 refl
