-- What stands before the first closing parenthesis.
use Rattle.lrc_races_lines.specs.Cause.{target_unclosed}
use Rattle.lrc_races_lines.proofs.Caused.{target-closed}
use Rattle.lrc_races_lines.proofs.cause.target_cause.Goals as goal

pub returns-in-Some : goal.returns-in-Some
returns-in-Some c = target-closed c.args.inner.now c.in-Some.target.now c.in-Some.rest.now _ c.in-Some.ensures.0 c.closed_cause.ensures

pub returns-in-None : goal.returns-in-None
returns-in-None c = target_unclosed c.in-None.ensures
