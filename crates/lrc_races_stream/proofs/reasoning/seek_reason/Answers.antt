-- What is kept of the lines answers, or why they were not read.
use Rattle.lrc_races_text.specs.declared.asked.Sought.TheVariants.{AllRaces}
use Rattle.lrc_races_stream.proofs.AnswerLemmas.{reasoned, stop_answered}
use Rattle.lrc_races_stream.proofs.ByLine.{kept_by_line}
use Rattle.lrc_races_stream.proofs.KnownLemmas.{known_explained, known_stopped}
use Rattle.lrc_races_stream.proofs.reasoning.seek_reason.Goals as goal

pub explain-requires-clause-by_line : goal.explain-requires-clause-by_line
explain-requires-clause-by_line g c =
    let come = (c.in-Ok.ensures.come AllRaces c.requires.begun.0 c.args.second c.requires.begun.1 c.requires.begun.2).0 in
    kept_by_line c.requires.begun.0 come.lines c.seek.new.seeker.front.kept.kept come.has_kept

pub returns-in-Ok : goal.returns-in-Ok
returns-in-Ok g c held u = (
  reasoned c.args.strict c.args.form held c.args.first c.args.second _ _ c.requires.ascending
      (c.in-Ok.ensures.come AllRaces c.args.form c.args.second held u) c.explain.ensures,
  known_explained c.args.form held _ c.requires.ascending c.explain.ensures (c.in-Ok.ensures.known AllRaces c.args.form c.args.second held u),
)

pub returns-in-Err : goal.returns-in-Err
returns-in-Err g c held u = (
  stop_answered c.args.strict c.args.form held c.args.first c.args.second _ _ _ (c.in-Err.ensures.halt AllRaces c.args.form c.args.second held u)
      c.stopped.ensures,
  known_stopped c.args.form held _ c.args.second c.stopped.ensures (c.in-Err.ensures.known_halt AllRaces c.args.form c.args.second held u),
)
