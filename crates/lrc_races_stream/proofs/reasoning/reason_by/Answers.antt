-- What is noted is told before the answer.
use Rattle.lrc_races_stream.specs.Reach.{out_of_memory}
use Rattle.lrc_races_stream.specs.Why.{Reasons, stopped}
use Rattle.lrc_races_stream.proofs.NotedLemmas.{noted_so}
use Rattle.lrc_races_stream.proofs.reasoning.reason_by.Goals as goal

pub returns : goal.returns
returns g c held u =
    let found = c.seek_reason-answer.ensures held u in
    noted_so (Reasons c.args.strict c.args.form held c.args.first c.args.second) c.args.form held c.args.second
    (stopped c.args.seeker.front.kept.kept out_of_memory (λ never. absurd never)) c.note.ensures found.0 found.1
