-- What was added so far.
use Rattle.std.proofs.Common.{◌≡◌, map}
use Rattle.lrc_state_text.specs.Intervals.{with_changes}
use Rattle.lrc_state_text.proofs.stored.stored_in.Given as goal

abbrev pub invariant-loop-interval : goal.invariant-loop-interval
invariant-loop-interval l = l.all.items ≡ map (with_changes l.memory.memory) l.yielded
