-- The run stands, and free acts have led to it.
use Rattle.lrc_exact_judge.specs.Shape.{shape_of}
use Rattle.lrc_exact_search.specs.Run.{IsAhead, IsAt}
use Rattle.lrc_exact_search.proofs.run.ExactRun.go_ahead.Given as goal

abbrev pub invariant-loop : goal.invariant-loop
invariant-loop l = record {
  at : IsAt l.task l.self;
  ahead : IsAhead l.task.program.now (shape_of l.task.layout) l.initial.self.acts.items l.self.acts.items;
}
