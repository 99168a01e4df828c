use Rattle.lrc_world.proofs.Walked.{leads_through}
use Rattle.lrc_world.proofs.turned.turns_lead_through_the_logs.Goals as goal

pub returns : goal.returns
returns c = λ program nodes options events logs has. leads_through program nodes options events logs has
