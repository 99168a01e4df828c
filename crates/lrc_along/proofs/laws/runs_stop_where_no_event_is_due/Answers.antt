use Rattle.lrc_along.proofs.Stopping.{stops_so}
use Rattle.lrc_along.proofs.laws.runs_stop_where_no_event_is_due.Goals as goal

pub returns : goal.returns
returns c = λ program nodes order world along none. stops_so program nodes order world along none
