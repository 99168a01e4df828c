use Rattle.std.proofs.Common.{◌≡◌, map}
use Rattle.std.specs.List.{range_with_len}
use Rattle.lrc_lock.specs.Held.{first_state}
use Rattle.lrc_lock.proofs.held.Held.new.Given as goal

abbrev pub invariant-loop-lock : goal.invariant-loop-lock
invariant-loop-lock l = l.states.items ≡ map (first_state l.me l.nodes) (range_with_len 0 l.lock)
