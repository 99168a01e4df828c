use Rattle.std.proofs.Common.{◌≡◌, ◌≤◌, length}
use Rattle.std.specs.Prelude.{min}
use Rattle.lrc_chart_build.specs.Counts.{AreCounts}
use Rattle.lrc_chart_build.proofs.counts.Counts.go_to.Given as goal

-- the counts are those at this place, which is not past the end
abbrev pub invariant-loop-place : goal.invariant-loop-place
invariant-loop-place l = record {
  counts : AreCounts l.acts l.place l.self;
  within : l.place ≤ l.end;
  last : l.end ≡ min l.position (length l.acts);
}
