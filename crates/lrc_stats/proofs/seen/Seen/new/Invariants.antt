use Rattle.std.proofs.Common.{◌≡◌, [], replicate}
use Rattle.lrc_stats.proofs.seen.Seen.new.Given as goal

-- so many senders, and no numbers of any
abbrev pub invariant-loop-sender : goal.invariant-loop-sender
invariant-loop-sender l = l.numbers.items ≡ replicate l._sender []
