-- What the steps of the nodes so far lead to is there, and in which of them a node traps first.
use Rattle.std.proofs.Common.{ℕ, ◌<◌}
use Rattle.lrc_orders_settling.specs.declared.step.Step.TheVariants.{Alone, Together}
use Rattle.lrc_explore.specs.Reached.{AreFound, HasAfterAt, IsMore}
use Rattle.std.specs.Prelude.{is_some}
use Rattle.lrc_explore.specs.Traps.{KeepsTrapless}
use Rattle.lrc_explore.proofs.Trapping.{IsTrapAmong}
use Rattle.lrc_explore.proofs.task.Found.expand.Given as goal

abbrev pub invariant-loop-node : goal.invariant-loop-node
invariant-loop-node l = record {
  found : AreFound l.task l.self;
  more : IsMore l.fn.self l.self;
  all : HasAfterAt l.task l.self.table.rows l.place Together;
  each : (k : ℕ) → k < l.node → HasAfterAt l.task l.self.table.rows l.place (Alone k);
  trap : IsTrapAmong l.task l.self.table.rows l.place l.node l.trap;
  trapless : KeepsTrapless l.task l.fn.self.table.rows l.self.table.rows (is_some l.trap);
}
