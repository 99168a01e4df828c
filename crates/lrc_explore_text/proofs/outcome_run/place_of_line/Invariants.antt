-- None of the outcomes so far has the line.
use Rattle.lrc_explore_text.specs.OutcomeRun.{HasNoLineBefore}
use Rattle.lrc_explore_text.proofs.outcome_run.place_of_line.Given as goal

abbrev pub invariant-loop-place : goal.invariant-loop-place
invariant-loop-place l = HasNoLineBefore l.nodes l.outcomes l.line l.place
