-- What the steps of the nodes so far lead to is there; and no node traps in them, if none is said to.
use Rattle.std.proofs.Common.{ℕ, ◌<◌}
use Rattle.std.specs.Prelude.{is_none}
use Rattle.lrc_orders_settling.specs.declared.step.Step.TheVariants.{Alone, Together}
use Rattle.lrc_explore.specs.Reached.{HasAfterAt}
use Rattle.lrc_explore_less.specs.Passing.{AreLess, Widens}
use Rattle.lrc_explore_less.proofs.Expanding.{AreTrapless}
use Rattle.lrc_explore_less.proofs.less.Less.expand.Given as goal

abbrev pub invariant-loop-node : goal.invariant-loop-node
invariant-loop-node l = record {
  less : AreLess l.task l.self;
  widens : Widens l.fn.self l.self;
  all : HasAfterAt l.task l.self.found.table.rows l.place Together;
  each : (k : ℕ) → k < l.node → HasAfterAt l.task l.self.found.table.rows l.place (Alone k);
  trapless : AreTrapless l.task l.self.found.table.rows (is_none l.self.trap) l.place l.node;
}
