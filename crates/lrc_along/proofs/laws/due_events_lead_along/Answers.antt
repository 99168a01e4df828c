use Rattle.lrc_along.proofs.Stopping.{all_along}
use Rattle.lrc_along.proofs.laws.due_events_lead_along.Goals as goal

pub returns : goal.returns
returns c = λ program nodes options order events world runs due. all_along program nodes options order events world runs due
