-- What stands before the last closing parenthesis.
use Rattle.lrc_races_lines.specs.Cause.{signature_unclosed}
use Rattle.lrc_races_lines.proofs.Caused.{signature-ended}
use Rattle.lrc_races_lines.proofs.cause.signature_cause.Goals as goal

pub returns-in-Some : goal.returns-in-Some
returns-in-Some c = signature-ended c.args.inner.now c.in-Some.text.now c.in-Some.rest.now _ c.in-Some.ensures.0 c.ended_cause.ensures

pub returns-in-None : goal.returns-in-None
returns-in-None c = signature_unclosed c.in-None.ensures
