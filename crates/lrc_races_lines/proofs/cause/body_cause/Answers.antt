-- With a bar, or without.
use Rattle.lrc_races_lines.specs.Cause.{without_bar}
use Rattle.lrc_races_lines.proofs.Caused.{body-barred}
use Rattle.lrc_races_lines.proofs.cause.body_cause.Goals as goal

pub returns-in-Some : goal.returns-in-Some
returns-in-Some c = λ feeds none.
    body-barred c.args.body.now c.in-Some.thread.now c.in-Some.rest.now _ c.in-Some.ensures.0 feeds none c.barred_cause.ensures

pub returns-in-None : goal.returns-in-None
returns-in-None c = λ feeds none. without_bar c.in-None.ensures
