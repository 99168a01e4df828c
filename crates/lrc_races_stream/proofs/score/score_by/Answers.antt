-- What is noted is told before the score.
use Rattle.lrc_races_stream.specs.Reach.{most_lines, out_of_memory}
use Rattle.lrc_races_stream.specs.Score.{Scores, stopped}
use Rattle.lrc_races_stream.proofs.NotedLemmas.{noted_so}
use Rattle.lrc_races_stream.proofs.score.score_by.Goals as goal

pub returns : goal.returns
returns g c form held u =
    let found = c.seek_score-answer.ensures form held u in
    noted_so (Scores c.args.strict c.args.sought form c.args.claims.now held) form held most_lines
    (stopped c.args.seeker.front.kept.kept out_of_memory tt) c.note.ensures found.0 found.1
