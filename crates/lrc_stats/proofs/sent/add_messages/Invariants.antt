use Rattle.std.proofs.Common.{◌≡◌, ◌++◌, map, take}
use Rattle.lrc_stats.specs.Sent.{sent_of}
use Rattle.lrc_stats.proofs.sent.add_messages.Given as goal

-- the messages so far
abbrev pub invariant-loop-envelope : goal.invariant-loop-envelope
invariant-loop-envelope l = l.sent.items ≡ l.initial.sent.items ++ map sent_of (take l.envelope-index l.out)
