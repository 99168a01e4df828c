-- What was added so far.
use Rattle.std.proofs.Common.{◌≡◌, ◌++◌, ◌-◌, length, take}
use Rattle.lrc_time.specs.Time.{zeros}
use Rattle.lrc_state_text.proofs.stored.last_added.Given as goal

abbrev pub invariant-loop-node : goal.invariant-loop-node
invariant-loop-node l = l.time ≡ take l.node l.memory.memory.store.last ++ zeros (length l.memory.memory.store.last - l.node)
