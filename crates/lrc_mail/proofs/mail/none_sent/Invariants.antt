use Rattle.std.proofs.Common.{◌≡◌}
use Rattle.std.specs.Prelude.{replicate}
use Rattle.lrc_mail.proofs.mail.none_sent.Given as goal

abbrev pub invariant-loop : goal.invariant-loop
invariant-loop l = l.sent.items ≡ replicate l.counter 0
