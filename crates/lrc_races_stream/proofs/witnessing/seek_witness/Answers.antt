-- What is kept of the lines answers, or why they were not read.
use Rattle.lrc_races_text.specs.declared.asked.Sought.TheVariants.{AllRaces}
use Rattle.lrc_races_stream.specs.Witness.{stopped}
use Rattle.lrc_races_stream.proofs.AnswerLemmas.{witnessed}
use Rattle.lrc_races_stream.proofs.ByLine.{kept_by_line}
use Rattle.lrc_races_stream.proofs.KnownLemmas.{known_answered}
use Rattle.lrc_races_stream.proofs.witnessing.seek_witness.Goals as goal

pub answer-requires-clause-by_line : goal.answer-requires-clause-by_line
answer-requires-clause-by_line g c =
    let come = (c.in-Ok.ensures.come AllRaces c.requires.begun.0 c.args.second c.requires.begun.1 c.requires.begun.2).0 in
    kept_by_line c.requires.begun.0 come.lines c.seek.new.seeker.front.kept.kept come.has_kept

pub returns-in-Ok : goal.returns-in-Ok
returns-in-Ok g c form held u = (
  witnessed c.args.strict form held c.args.first c.args.second _ _ (c.in-Ok.ensures.come AllRaces form c.args.second held u) c.answer.ensures,
  known_answered form held _ c.answer.ensures (c.in-Ok.ensures.known AllRaces form c.args.second held u),
)

pub returns-in-Err : goal.returns-in-Err
returns-in-Err g c form held u = (
  stopped _ (c.in-Err.ensures.halt AllRaces form c.args.second held u),
  c.in-Err.ensures.known_halt AllRaces form c.args.second held u,
)
