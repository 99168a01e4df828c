use Rattle.std.proofs.Common.{◌≡◌, replicate}
use Rattle.lrc_barrier.proofs.manager.nothing_known.Given as goal

abbrev pub invariant-loop : goal.invariant-loop
invariant-loop l = l.last.items ≡ replicate l.counter 0
