use Rattle.std.proofs.Common.{◌≡◌, replicate}
use Rattle.lrc_memory.proofs.memory.first_notes.Given as goal

abbrev pub invariant-loop : goal.invariant-loop
invariant-loop l = l.notes.items ≡ replicate l.counter (record { since = l.start; named = 0; keeper = 0 })
