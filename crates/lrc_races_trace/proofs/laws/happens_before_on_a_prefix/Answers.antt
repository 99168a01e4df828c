use Rattle.lrc_races_trace.proofs.Prefix.{longer, shorter}
use Rattle.lrc_races_trace.proofs.laws.happens_before_on_a_prefix.Goals as goal

pub returns : goal.returns
returns c = λ events more i j lt. (λ h. longer events more h, λ h. shorter events more lt h)
