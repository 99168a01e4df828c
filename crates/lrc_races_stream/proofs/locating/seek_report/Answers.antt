-- What is kept of all lines is told, or why they were not read.
use Rattle.std.proofs.Common.{subst}
use Rattle.lrc_races_locations.specs.Lines.{IsLocated}
use Rattle.lrc_races_stream.specs.Locations.{stopped}
use Rattle.lrc_races_stream.specs.Noted.{IsKnownAt}
use Rattle.lrc_races_stream.specs.Reach.{IsHalt, most_lines, out_of_memory}
use Rattle.lrc_races_stream.specs.declared.answer.Stop.{Stop}
use Rattle.lrc_races_stream.proofs.KnownLemmas.{known_reported}
use Rattle.lrc_races_stream.proofs.LocationLemmas.{all_reported}
use Rattle.lrc_races_stream.proofs.locating.seek_report.Goals as goal

pub returns-in-Ok : goal.returns-in-Ok
returns-in-Ok g c sought held u = (stopped c.seek.new.seeker.front.kept.kept out_of_memory tt, tt)

pub returns-in-Err-Past : goal.returns-in-Err-Past
returns-in-Err-Past g c sought held u = (
  all_reported c.args.strict sought c.args.form c.args.layout held _ _ _
      (subst (λ (stop : Stop). IsHalt c.args.strict (IsLocated sought) c.args.form most_lines held c.seek.new.seeker.front.kept.kept stop)
      c.in-Err-Past.field-0-is (c.in-Err-Past.ensures.halt sought c.args.form most_lines held u)) c.reported.ensures,
  known_reported c.args.form held _ c.reported.ensures
      (subst (λ (stop : Stop). IsKnownAt c.args.form held c.seek.new.seeker.front.kept.noter stop) c.in-Err-Past.field-0-is
      (c.in-Err-Past.ensures.known_halt sought c.args.form most_lines held u)),
)

pub returns-in-Err-Faulted : goal.returns-in-Err-Faulted
returns-in-Err-Faulted g c sought held u = (
  stopped _ (subst (λ (stop : Stop). IsHalt c.args.strict (IsLocated sought) c.args.form most_lines held c.seek.new.seeker.front.kept.kept stop)
      c.in-Err-Faulted.field-0-is (c.in-Err-Faulted.ensures.halt sought c.args.form most_lines held u)) tt,
  subst (λ (stop : Stop). IsKnownAt c.args.form held c.seek.new.seeker.front.kept.noter stop) c.in-Err-Faulted.field-0-is
      (c.in-Err-Faulted.ensures.known_halt sought c.args.form most_lines held u),
)

pub returns-in-Err-IllFormed : goal.returns-in-Err-IllFormed
returns-in-Err-IllFormed g c sought held u = (
  stopped _ (subst (λ (stop : Stop). IsHalt c.args.strict (IsLocated sought) c.args.form most_lines held c.seek.new.seeker.front.kept.kept stop)
      c.in-Err-IllFormed.field-0-is (c.in-Err-IllFormed.ensures.halt sought c.args.form most_lines held u)) tt,
  subst (λ (stop : Stop). IsKnownAt c.args.form held c.seek.new.seeker.front.kept.noter stop) c.in-Err-IllFormed.field-0-is
      (c.in-Err-IllFormed.ensures.known_halt sought c.args.form most_lines held u),
)

pub returns-in-Err-Unread : goal.returns-in-Err-Unread
returns-in-Err-Unread g c sought held u = (
  stopped _ (subst (λ (stop : Stop). IsHalt c.args.strict (IsLocated sought) c.args.form most_lines held c.seek.new.seeker.front.kept.kept stop)
      c.in-Err-Unread.field-0-is (c.in-Err-Unread.ensures.halt sought c.args.form most_lines held u)) tt,
  subst (λ (stop : Stop). IsKnownAt c.args.form held c.seek.new.seeker.front.kept.noter stop) c.in-Err-Unread.field-0-is
      (c.in-Err-Unread.ensures.known_halt sought c.args.form most_lines held u),
)
