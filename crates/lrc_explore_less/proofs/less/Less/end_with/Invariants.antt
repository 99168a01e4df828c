-- None of the states so far is such an end.
use Rattle.lrc_explore.specs.Ended.{HasNoEndBefore}
use Rattle.lrc_explore_less.proofs.less.Less.end_with.Given as goal

abbrev pub invariant-loop-place : goal.invariant-loop-place
invariant-loop-place l = HasNoEndBefore l.task l.self.found l.notes l.place
