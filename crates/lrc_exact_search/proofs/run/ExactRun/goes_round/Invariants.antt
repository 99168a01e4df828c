-- The run stands, and looks of the node have led to it, and its state to this one.
use Rattle.std.proofs.Common.{ℕ}
use Rattle.lrc_exec.specs.States.{plain_at}
use Rattle.lrc_exact_judge.specs.Shape.{shape_of}
use Rattle.lrc_exact_search.specs.Run.{IsAhead, IsAt}
use Rattle.lrc_exact_search.proofs.Spinning.{HasValues, Looks}
use Rattle.lrc_exact_search.proofs.run.ExactRun.goes_round.Given as goal

abbrev pub invariant-loop : goal.invariant-loop
invariant-loop l = record {
  at : IsAt l.task l.self;
  ahead : IsAhead l.task.program.now (shape_of l.task.layout) l.initial.self.acts.items l.self.acts.items;
  values : ℕ → ℕ;
  has : HasValues (shape_of l.task.layout) l.node values l.self.acts.items;
  count : ℕ;
  looks : Looks l.node values (plain_at l.task.flat l.begun) count (plain_at l.task.flat l.self.state);
}
