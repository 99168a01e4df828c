-- The nodes so far wait.
use Rattle.std.proofs.Common.{◌≡◌, ℕ, ◌<◌, true}
use Rattle.lrc_exec.specs.Plain.{thread_in}
use Rattle.lrc_exec.specs.States.{plain_at}
use Rattle.lrc_orders_laws.specs.Steps.{waits_in}
use Rattle.lrc_orders_settling.proofs.step.all_wait.Given as goal

abbrev pub invariant-loop-node : goal.invariant-loop-node
invariant-loop-node l = (k : ℕ) → k < l.node → waits_in (thread_in (plain_at l.flat l.state) k) ≡ true
