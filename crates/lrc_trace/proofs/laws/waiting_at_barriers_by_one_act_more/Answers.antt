use Rattle.lrc_trace.proofs.Prefixes.{WaitsAtBarriers-shorter, WaitsAtBarriers-more, WaitsAtBarriers-last}
use Rattle.lrc_trace.proofs.laws.waiting_at_barriers_by_one_act_more.Goals as goal

pub returns : goal.returns
returns c = λ run act. (
  λ waits. (WaitsAtBarriers-shorter run act waits, WaitsAtBarriers-last run act waits),
  λ (waits, last). WaitsAtBarriers-more run act waits last,
)
