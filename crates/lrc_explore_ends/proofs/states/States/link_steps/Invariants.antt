-- The steps of the nodes so far are known.
use Rattle.std.proofs.Common.{ℕ, ◌<◌}
use Rattle.lrc_orders_settling.specs.declared.step.Step.TheVariants.{Alone, Together}
use Rattle.lrc_explore_ends.specs.Stepped.{AreStepped, IsStepKnown, IsWider}
use Rattle.lrc_explore_ends.proofs.states.States.link_steps.Given as goal

abbrev pub invariant-loop-node : goal.invariant-loop-node
invariant-loop-node l = record {
  stepped : AreStepped l.task l.self;
  wider : IsWider l.fn.self l.self;
  all : IsStepKnown l.task l.self l.place Together;
  each : (k : ℕ) → k < l.node → IsStepKnown l.task l.self l.place (Alone k);
}
