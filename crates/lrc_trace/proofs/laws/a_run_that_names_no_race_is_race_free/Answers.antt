use Rattle.lrc_trace.proofs.Named.{free-where_unnamed, unnamed-where_free}
use Rattle.lrc_trace.proofs.laws.a_run_that_names_no_race_is_race_free.Goals as goal

pub returns : goal.returns
returns c = λ run. (free-where_unnamed run, unnamed-where_free run)
