use Rattle.std.proofs.Common.{◌≡◌, map}
use Rattle.std.specs.List.{range_with_len}
use Rattle.lrc_lock.specs.Lock.{manager_of}
use Rattle.lrc_lock.proofs.managed.Managed.new.Given as goal

abbrev pub invariant-loop-lock : goal.invariant-loop-lock
invariant-loop-lock l = l.recent.items ≡ map (manager_of l.nodes) (range_with_len 0 l.lock)
