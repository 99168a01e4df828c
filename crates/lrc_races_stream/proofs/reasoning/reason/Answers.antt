-- Nothing is read yet.
use Rattle.std.proofs.Common.{[], inl, refl}
use Rattle.lrc_races_text.specs.declared.asked.Sought.TheVariants.{AllRaces}
use Rattle.lrc_races_front.specs.Kept.{HasKept}
use Rattle.lrc_races_notes.specs.Noting.{KeepsBoth}
use Rattle.lrc_races_stream.specs.Reach.{out_of_memory}
use Rattle.lrc_races_stream.specs.Why.{stopped}
use Rattle.lrc_races_stream.proofs.SeekerLemmas.{seeking_first}
use Rattle.lrc_races_stream.proofs.TellerLemmas.{nothing_written}
use Rattle.lrc_races_stream.proofs.reasoning.reason.Goals as goal

pub returns-in-Err-clause-answer : goal.returns-in-Err-clause-answer
returns-in-Err-clause-answer g c = stopped c.new.result out_of_memory (λ never. absurd never)

pub returns-in-Err-clause-notes : goal.returns-in-Err-clause-notes
returns-in-Err-clause-notes g c = ([], refl, inl (nothing_written (g.E.Write.contents c.args.err.now)))

pub reason_by-requires-clause-begun : goal.reason_by-requires-clause-begun
reason_by-requires-clause-begun g c =
    let left = g.B.Blocks.left c.args.trace.now in (
      c.args.form,
      left,
      seeking_first (KeepsBoth HasKept) c.args.form c.args.second left _
          (c.in-Ok.ensures AllRaces (c.new-2.ensures AllRaces c.args.form (c.new.ensures c.args.form))),
    )

pub returns-in-Ok-clause-answer : goal.returns-in-Ok-clause-answer
returns-in-Ok-clause-answer g c =
    let left = g.B.Blocks.left c.args.trace.now in
    (c.reason_by.ensures left (seeking_first (KeepsBoth HasKept) c.args.form c.args.second left _
    (c.in-Ok.ensures AllRaces (c.new-2.ensures AllRaces c.args.form (c.new.ensures c.args.form))))).0

pub returns-in-Ok-clause-notes : goal.returns-in-Ok-clause-notes
returns-in-Ok-clause-notes g c =
    let left = g.B.Blocks.left c.args.trace.now in
    (c.reason_by.ensures left (seeking_first (KeepsBoth HasKept) c.args.form c.args.second left _
    (c.in-Ok.ensures AllRaces (c.new-2.ensures AllRaces c.args.form (c.new.ensures c.args.form))))).1
