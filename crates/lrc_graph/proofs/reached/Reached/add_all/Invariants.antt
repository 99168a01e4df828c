-- The places so far are reached.
use Rattle.lrc_graph.specs.Reached.{Adds, AreListed}
use Rattle.lrc_graph.proofs.Adding.{IsAmong}
use Rattle.lrc_graph.proofs.reached.Reached.add_all.Given as goal

abbrev pub invariant-loop-place : goal.invariant-loop-place
invariant-loop-place l = AreListed l.self × Adds l.fn.self l.self (IsAmong l.places l.place-index)
