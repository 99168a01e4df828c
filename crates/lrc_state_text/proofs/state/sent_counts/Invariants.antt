-- What was added so far.
use Rattle.std.proofs.Common.{◌≡◌, take}
use Rattle.lrc_state_text.proofs.state.sent_counts.Given as goal

abbrev pub invariant-loop-to : goal.invariant-loop-to
invariant-loop-to l = l.counts.items ≡ take l.to l.mail.sent
