use Rattle.std.proofs.Common.{◌≡◌, length}
use Rattle.test_nodes.proofs.mails.are_met.Given as goal

abbrev pub invariant-loop-step : goal.invariant-loop-step
invariant-loop-step l = (length l.mail.taken ≡ 2) × (length l.mail.sent ≡ 2)
