-- What was added so far.
use Rattle.std.proofs.Common.{◌≡◌, length, map, take}
use Rattle.lrc_state_text.proofs.state.taken_counts.Given as goal

abbrev pub invariant-loop-from : goal.invariant-loop-from
invariant-loop-from l = l.counts.items ≡ map (λ numbers. length numbers) (take l.from l.mail.taken)
