-- The thread, or what is behind it.
use Rattle.lrc_races_lines.specs.Cause.{in_rest, in_thread}
use Rattle.lrc_races_lines.proofs.cause.barred_cause.Goals as goal

pub returns-in-Some : goal.returns-in-Some
returns-in-Some c = λ feeds more none. in_thread c.args.rest.now c.requires c.in-Some.ensures

pub returns-in-None : goal.returns-in-None
returns-in-None c = λ feeds more none.
    let name = c.in-None.ensures c.requires feeds in
    in_rest c.args.thread.now name (c.rest_cause.ensures c.args.thread.now name more none)
