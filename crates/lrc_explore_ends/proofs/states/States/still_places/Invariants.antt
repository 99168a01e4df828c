-- Of each of the states so far it is said whether no node can make an act there.
use Rattle.lrc_explore_ends.proofs.Answering.{IsSaid}
use Rattle.lrc_explore_ends.proofs.states.States.still_places.Given as goal

abbrev pub invariant-loop-place : goal.invariant-loop-place
invariant-loop-place l = IsSaid l.task l.self l.still.items l.place
