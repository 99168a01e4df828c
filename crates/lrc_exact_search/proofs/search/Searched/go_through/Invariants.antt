-- The runs before the place were looked at, and no more acts are counted than they have.
use Rattle.std.proofs.Common.{◌-◌, ◌≤◌, take}
use Rattle.lrc_exact_judge.specs.Shape.{shape_of}
use Rattle.lrc_exact_search.specs.Searching.{acts_in, AreInOrder, AreRunsOf, AreSearched}
use Rattle.lrc_exact_search.proofs.search.Searched.go_through.Given as goal

abbrev pub invariant-loop-place : goal.invariant-loop-place
invariant-loop-place l = record {
  within : l.place ≤ l.task.most;
  order : AreInOrder l.task.program.now (shape_of l.task.layout) l.self.runs.keys;
  sound : AreRunsOf l.task.program.now (shape_of l.task.layout) l.self.found.outcomes.keys l.self.found.runs.items;
  searched : AreSearched l.task.program.now (shape_of l.task.layout) l.self.runs.keys l.self.found.outcomes.keys l.place;
  counted : l.acts ≤ acts_in (take l.place l.self.runs.keys);
}

abbrev pub decreases-loop-place : goal.decreases-loop-place
decreases-loop-place l = l.task.most - l.place
