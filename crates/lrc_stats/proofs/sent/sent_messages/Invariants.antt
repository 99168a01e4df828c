use Rattle.std.proofs.Common.{◌≡◌, map, take}
use Rattle.lrc_stats.specs.Sent.{sent_messages}
use Rattle.lrc_stats.proofs.sent.sent_messages.Given as goal

-- the messages in the logs so far
abbrev pub invariant-loop-log : goal.invariant-loop-log
invariant-loop-log l = l.sent.items ≡ sent_messages (map (λ log. log.items) (take l.log-index l.logs))
