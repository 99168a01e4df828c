use Rattle.std.proofs.Common.{refl}
use Rattle.lrc_protocol.proofs.Induction.{by_turns}
use Rattle.lrc_protocol.proofs.Times.{IsTimed, timed-kept}
use Rattle.lrc_protocol.proofs.laws.each_act_has_its_time.Goals as goal

pub returns : goal.returns
returns c = λ program nodes options events world e. by_turns IsTimed timed-kept program nodes options events world refl e
