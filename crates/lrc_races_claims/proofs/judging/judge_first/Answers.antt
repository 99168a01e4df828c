-- The line is an access, or not.
use Rattle.lrc_races_claims.specs.Truth.{first_lacks}
use Rattle.lrc_races_claims.proofs.Judged.{has_access}
use Rattle.lrc_races_claims.proofs.judging.judge_first.Goals as goal

pub returns-in-Ok : goal.returns-in-Ok
returns-in-Ok c = λ sought naming name found. c.judge_found.ensures sought naming c.args.events.now c.args.last name (has_access c.in-Ok.ensures) found

pub returns-in-Err : goal.returns-in-Err
returns-in-Err c = λ sought naming name found. first_lacks c.in-Err.ensures
