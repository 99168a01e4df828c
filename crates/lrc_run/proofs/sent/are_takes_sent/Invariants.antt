use Rattle.std.proofs.Common.{ℕ, ◌<◌, map}
use Rattle.lrc_protocol.specs.Follows.{log_of}
use Rattle.lrc_run.specs.Sources.{AreSentTo}
use Rattle.lrc_run.proofs.sent.are_takes_sent.Given as goal

-- so it is of the logs so far
abbrev pub invariant-loop-node : goal.invariant-loop-node
invariant-loop-node l =
    (n : ℕ) → n < l.node → AreSentTo (map (λ log. log.items) l.logs) n (log_of (map (λ log. log.items) l.logs) n)
