-- By the form of the line.
use Rattle.lrc_races_text.proofs.SessionLemmas.{cause_acts, cause_std}
use Rattle.lrc_races_text.proofs.reading.cause_in.Goals as goal

pub returns-in-Std : goal.returns-in-Std
returns-in-Std c = cause_std c.args.form c.args.line.now c.args.number _ c.in-Std.is c.cause_of.ensures

pub returns-in-Acts : goal.returns-in-Acts
returns-in-Acts c = cause_acts c.args.form c.args.line.now c.args.number _ c.in-Acts.is c.act_cause.ensures
