use Rattle.lrc_clock.proofs.Racing.{named_of_segments, segments_named}
use Rattle.lrc_clock.proofs.laws.named_races_are_of_segments.Goals as goal

pub returns : goal.returns
returns c = λ nodes run times keeps ws waits. λ race. (named_of_segments keeps ws race, segments_named keeps ws waits race)
