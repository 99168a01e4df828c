-- Those that no longer wait are searched.
use Rattle.std.proofs.Common.{◌+◌, ◌-◌, ◌≤◌, length}
use Rattle.lrc_lazy_search.specs.Found.{found_count}
use Rattle.lrc_lazy_search.specs.Task.{IsAt}
use Rattle.lrc_lazy_search.proofs.search.Searched.go_through.Given as goal

abbrev pub invariant-loop-state : goal.invariant-loop-state
invariant-loop-state l = record {
  at : IsAt l.task l.self l.self.waiting.items;
  within : found_count l.self.found ≤ l.task.most + length l.self.waiting.items;
}

abbrev pub decreases-loop-state : goal.decreases-loop-state
decreases-loop-state l = l.task.most + length l.self.waiting.items - found_count l.self.found
