use Rattle.std.proofs.Common.{◌≡◌, replicate, None}
use Rattle.lrc_barrier.proofs.manager.nobody.Given as goal

abbrev pub invariant-loop : goal.invariant-loop
invariant-loop l = l.arrivals.items ≡ replicate l.counter None
