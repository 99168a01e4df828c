use Rattle.std.proofs.Common.{◌≡◌, map}
use Rattle.lrc_threads.proofs.life.parts_of.Given as goal

-- the turns of the nodes so far, their traces, and why their threads stopped
abbrev pub invariant-loop-past : goal.invariant-loop-past
invariant-loop-past l = record {
  logs : map (λ log. log.items) l.logs.items ≡ map (λ past. past.log.items) l.yielded;
  traces : l.traces.items ≡ map (λ past. past.trace) l.yielded;
  stops : l.stops.items ≡ map (λ past. past.stop) l.yielded;
}
