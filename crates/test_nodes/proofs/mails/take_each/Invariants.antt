use Rattle.std.proofs.Common.{◌≡◌, length}
use Rattle.test_nodes.proofs.mails.take_each.Given as goal

abbrev pub invariant-loop-number : goal.invariant-loop-number
invariant-loop-number l = (length l.mail.taken ≡ 2) × (length l.mail.sent ≡ 2)
