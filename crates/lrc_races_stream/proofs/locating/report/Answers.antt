-- Nothing is read yet.
use Rattle.std.proofs.Common.{[], inl, refl}
use Rattle.lrc_races_locations.specs.Lines.{IsLocated}
use Rattle.lrc_races_notes.specs.Noting.{KeepsBoth}
use Rattle.lrc_races_stream.specs.Locations.{stopped}
use Rattle.lrc_races_stream.specs.Reach.{most_lines, out_of_memory}
use Rattle.lrc_races_stream.proofs.SeekerLemmas.{seeking_first}
use Rattle.lrc_races_stream.proofs.TellerLemmas.{nothing_written}
use Rattle.lrc_races_stream.proofs.locating.report.Goals as goal

pub returns-in-Err-clause-answer : goal.returns-in-Err-clause-answer
returns-in-Err-clause-answer g c = stopped c.new.result out_of_memory tt

pub returns-in-Err-clause-notes : goal.returns-in-Err-clause-notes
returns-in-Err-clause-notes g c = ([], refl, inl (nothing_written (g.E.Write.contents c.args.err.now)))

pub returns-in-Ok-clause-answer : goal.returns-in-Ok-clause-answer
returns-in-Ok-clause-answer g c =
    let left = g.B.Blocks.left c.args.trace.now in
    (c.report_by.ensures c.args.sought left (seeking_first (KeepsBoth (IsLocated c.args.sought)) c.args.form most_lines left _
    (c.in-Ok.ensures c.args.sought (c.new-2.ensures c.args.sought c.args.form (c.new.ensures c.args.form))))).0

pub returns-in-Ok-clause-notes : goal.returns-in-Ok-clause-notes
returns-in-Ok-clause-notes g c =
    let left = g.B.Blocks.left c.args.trace.now in
    (c.report_by.ensures c.args.sought left (seeking_first (KeepsBoth (IsLocated c.args.sought)) c.args.form most_lines left _
    (c.in-Ok.ensures c.args.sought (c.new-2.ensures c.args.sought c.args.form (c.new.ensures c.args.form))))).1
