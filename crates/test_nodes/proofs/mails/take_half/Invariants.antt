use Rattle.std.proofs.Common.{◌≡◌, length}
use Rattle.test_nodes.proofs.mails.take_half.Given as goal

abbrev pub invariant-loop-half : goal.invariant-loop-half
invariant-loop-half l = (length l.mail.taken ≡ 2) × (length l.mail.sent ≡ 2)
