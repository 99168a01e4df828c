use Rattle.lrc_lazy.proofs.Plainly.{over_stops, stops_over}
use Rattle.lrc_lazy.proofs.laws.a_run_is_over_where_no_lazy_run_goes_on.Goals as goal

pub returns : goal.returns
returns c = λ program nodes acts run. (over_stops program nodes acts, stops_over program nodes acts run)
