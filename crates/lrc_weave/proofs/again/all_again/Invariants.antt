use Rattle.std.proofs.Common.{map, take}
use Rattle.lrc_weave.specs.Again.{AreAllAgain}
use Rattle.lrc_weave.proofs.again.all_again.Given as goal

abbrev pub invariant-loop-log : goal.invariant-loop-log
invariant-loop-log l = AreAllAgain (map (λ log. log.items) (take l.log-index l.logs)) (map (λ bits. bits.items) l.all.items)
