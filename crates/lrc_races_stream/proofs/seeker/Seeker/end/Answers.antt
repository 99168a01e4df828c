use Rattle.std.proofs.Common.{subst}
use Rattle.lrc_races_front.specs.Steps.{HasEnded}
use Rattle.lrc_races_stream.proofs.SeekerLemmas.{end_bad, ended_past, ended_there}
use Rattle.lrc_races_stream.proofs.seeker.Seeker.end.Goals as goal

pub returns-in-Ok-true-clause-goes : goal.returns-in-Ok-true-clause-goes
returns-in-Ok-true-clause-goes g c sought form last held left after u end =
    ended_there g.K.Keep.has_kept sought form last held left c.args.self.now.front u after _ end
    (subst (HasEnded g.K.Keep.has_kept c.args.self.now.front c.end.new.self) c.in-Ok-true.field-0-test c.in-Ok-true.ensures.ok)

pub returns-in-Ok-false-clause-stop : goal.returns-in-Ok-false-clause-stop
returns-in-Ok-false-clause-stop g c sought form last held left u end =
    ended_past g.K.Keep.has_kept sought form last held left c.args.self.now.front u _ end
    (subst (HasEnded g.K.Keep.has_kept c.args.self.now.front c.end.new.self) c.in-Ok-false.field-0-test c.in-Ok-false.ensures.ok)

pub returns-in-Err-clause-stop : goal.returns-in-Err-clause-stop
returns-in-Err-clause-stop g c sought form last held left u end =
    end_bad g.K.Keep.has_kept sought form last held left c.args.self.now.front u _ _ end c.in-Err.ensures.bad
