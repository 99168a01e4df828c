use Rattle.lrc_clock.proofs.Racing.{named_of_segments, segments_named}
use Rattle.lrc_race.proofs.OfRuns.{race_segments, segments_race}
use Rattle.lrc_race.proofs.laws.races_of_a_run_are_named.Goals as goal

pub returns : goal.returns
returns c = λ nodes run times traces keeps ws waits of race. (
  λ r. segments_named keeps ws waits race (segments_race nodes run times traces keeps ws waits of race r),
  λ n. race_segments nodes run times traces keeps ws waits of race (named_of_segments keeps ws race n),
)
