use Rattle.std.proofs.Common.{◌≡◌, take}
use Rattle.lrc_stats.specs.Sent.{bytes_in}
use Rattle.lrc_stats.proofs.sent.total_of.Given as goal

-- the bytes of the messages so far
abbrev pub invariant-loop-one : goal.invariant-loop-one
invariant-loop-one l = l.bytes ≡ bytes_in l.wanted (take l.one-index l.sent)
