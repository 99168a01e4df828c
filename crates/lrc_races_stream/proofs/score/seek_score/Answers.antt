-- The claims about all lines are scored, or why they were not read.
use Rattle.std.proofs.Common.{subst}
use Rattle.lrc_races_scored.specs.Traced.{HasTraced}
use Rattle.lrc_races_stream.specs.Noted.{IsKnownAt}
use Rattle.lrc_races_stream.specs.Reach.{IsHalt, most_lines, out_of_memory}
use Rattle.lrc_races_stream.specs.Score.{stopped}
use Rattle.lrc_races_stream.specs.declared.answer.Stop.{Stop}
use Rattle.lrc_races_stream.proofs.KnownLemmas.{known_scored}
use Rattle.lrc_races_stream.proofs.ScoreLemmas.{all_scored, past_by_line}
use Rattle.lrc_races_stream.proofs.score.seek_score.Goals as goal

pub returns-in-Ok : goal.returns-in-Ok
returns-in-Ok g c form held u = (stopped c.seek.new.seeker.front.kept.kept out_of_memory tt, tt)

pub scored-requires : goal.scored-requires
scored-requires g c =
    let form = c.requires.0 in
    let held = c.requires.1 in
    past_by_line c.args.strict form held c.seek.new.seeker.front.kept.kept c.in-Err-Past.lines
    (subst (λ (stop : Stop). IsHalt c.args.strict HasTraced form most_lines held c.seek.new.seeker.front.kept.kept stop) c.in-Err-Past.field-0-is
    (c.in-Err-Past.ensures.halt c.args.sought form most_lines held c.requires.2))

pub returns-in-Err-Past : goal.returns-in-Err-Past
returns-in-Err-Past g c form held u = (
  all_scored c.args.strict c.args.sought form c.args.claims.now held _ _ _
      (subst (λ (stop : Stop). IsHalt c.args.strict HasTraced form most_lines held c.seek.new.seeker.front.kept.kept stop) c.in-Err-Past.field-0-is
      (c.in-Err-Past.ensures.halt c.args.sought form most_lines held u)) c.scored.ensures,
  known_scored form held _ c.scored.ensures
      (subst (λ (stop : Stop). IsKnownAt form held c.seek.new.seeker.front.kept.noter stop) c.in-Err-Past.field-0-is
      (c.in-Err-Past.ensures.known_halt c.args.sought form most_lines held u)),
)

pub returns-in-Err-Faulted : goal.returns-in-Err-Faulted
returns-in-Err-Faulted g c form held u = (
  stopped _ (subst (λ (stop : Stop). IsHalt c.args.strict HasTraced form most_lines held c.seek.new.seeker.front.kept.kept stop)
      c.in-Err-Faulted.field-0-is (c.in-Err-Faulted.ensures.halt c.args.sought form most_lines held u)) tt,
  subst (λ (stop : Stop). IsKnownAt form held c.seek.new.seeker.front.kept.noter stop) c.in-Err-Faulted.field-0-is
      (c.in-Err-Faulted.ensures.known_halt c.args.sought form most_lines held u),
)

pub returns-in-Err-IllFormed : goal.returns-in-Err-IllFormed
returns-in-Err-IllFormed g c form held u = (
  stopped _ (subst (λ (stop : Stop). IsHalt c.args.strict HasTraced form most_lines held c.seek.new.seeker.front.kept.kept stop)
      c.in-Err-IllFormed.field-0-is (c.in-Err-IllFormed.ensures.halt c.args.sought form most_lines held u)) tt,
  subst (λ (stop : Stop). IsKnownAt form held c.seek.new.seeker.front.kept.noter stop) c.in-Err-IllFormed.field-0-is
      (c.in-Err-IllFormed.ensures.known_halt c.args.sought form most_lines held u),
)

pub returns-in-Err-Unread : goal.returns-in-Err-Unread
returns-in-Err-Unread g c form held u = (
  stopped _ (subst (λ (stop : Stop). IsHalt c.args.strict HasTraced form most_lines held c.seek.new.seeker.front.kept.kept stop)
      c.in-Err-Unread.field-0-is (c.in-Err-Unread.ensures.halt c.args.sought form most_lines held u)) tt,
  subst (λ (stop : Stop). IsKnownAt form held c.seek.new.seeker.front.kept.noter stop) c.in-Err-Unread.field-0-is
      (c.in-Err-Unread.ensures.known_halt c.args.sought form most_lines held u),
)
