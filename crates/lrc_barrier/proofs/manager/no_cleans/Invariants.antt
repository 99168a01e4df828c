use Rattle.std.proofs.Common.{◌≡◌, false, replicate}
use Rattle.lrc_barrier.proofs.manager.no_cleans.Given as goal

abbrev pub invariant-loop : goal.invariant-loop
invariant-loop l = l.cleans.items ≡ replicate l.counter false
