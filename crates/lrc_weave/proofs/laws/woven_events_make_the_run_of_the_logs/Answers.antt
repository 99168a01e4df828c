use Rattle.lrc_weave.proofs.Played.{whole_run}
use Rattle.lrc_weave.proofs.laws.woven_events_make_the_run_of_the_logs.Goals as goal

pub returns : goal.returns
returns c = λ program nodes options logs events flight are woven. whole_run logs program nodes options are events flight woven
