-- What is noted is told before the report.
use Rattle.lrc_races_stream.specs.Locations.{Reports, stopped}
use Rattle.lrc_races_stream.specs.Reach.{most_lines, out_of_memory}
use Rattle.lrc_races_stream.proofs.NotedLemmas.{noted_so}
use Rattle.lrc_races_stream.proofs.locating.report_by.Goals as goal

pub returns : goal.returns
returns g c sought held u =
    let found = c.seek_report-answer.ensures sought held u in
    noted_so (Reports c.args.strict sought c.args.form c.args.layout held) c.args.form held most_lines
    (stopped c.args.seeker.front.kept.kept out_of_memory tt) c.note.ensures found.0 found.1
