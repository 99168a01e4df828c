use Rattle.std.proofs.Common.{refl}
use Rattle.lrc_cli.proofs.events.line_events.Goals as goal

pub returns-in-Err-TooMany-clause-err : goal.returns-in-Err-TooMany-clause-err
returns-in-Err-TooMany-clause-err c =
    let is = c.in-Err-TooMany.field-0-is in (refl, c.in-Err-TooMany.ensures.too_many is, c.in-Err-TooMany.ensures.too_long is)
