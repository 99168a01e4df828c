-- With a parenthesis, or without.
use Rattle.lrc_races_lines.proofs.Caused.{field-bare, field-opened}
use Rattle.lrc_races_lines.proofs.cause.operation_cause.Goals as goal

pub returns-in-Some : goal.returns-in-Some
returns-in-Some c = field-opened c.args.field.now c.in-Some.word.now c.in-Some.inner.now _ c.in-Some.ensures.0 c.opened_cause.ensures

pub returns-in-None : goal.returns-in-None
returns-in-None c = field-bare c.args.field.now _ c.bare_cause.ensures
