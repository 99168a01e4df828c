-- So many of the places were passed.
use Rattle.lrc_explore.proofs.Telling.{Following}
use Rattle.lrc_explore.proofs.task.Found.follow.Given as goal

abbrev pub invariant-loop-at : goal.invariant-loop-at
invariant-loop-at l = Following l.task l.self l.path l.place l.at-index l.acts.items
