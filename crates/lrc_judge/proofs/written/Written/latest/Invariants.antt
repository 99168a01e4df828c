-- The latest of the nodes so far.
use Rattle.lrc_judge.specs.Written.{IsLatestBelow}
use Rattle.lrc_judge.proofs.written.Written.latest.Given as goal

abbrev pub invariant-loop-node : goal.invariant-loop-node
invariant-loop-node l = IsLatestBelow l.self l.word l.node l.position l.latest
