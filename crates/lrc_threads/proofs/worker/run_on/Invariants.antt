use Rattle.std.proofs.Common.{◌≡◌}
use Rattle.lrc_protocol.specs.Run.{Logged}
use Rattle.lrc_node.specs.Logged.{sound}
use Rattle.lrc_threads.specs.Worker.{GoesThrough}
use Rattle.lrc_threads.proofs.Traced.{Traces}
use Rattle.lrc_threads.proofs.worker.run_on.Given as goal

-- the steps so far, and the trace of their turns
abbrev pub invariant-loop-turn : goal.invariant-loop-turn
invariant-loop-turn g l = record {
  goes : (start : Logged) → l.initial.node.logged ≡ sound start
      → (j : Logged) × (l.node.logged ≡ sound j) × GoesThrough g.M.Mail.puts g.M.Mail.takes l.initial.mail start l.mail j;
  traced : Traces l.initial.node l.node;
}
