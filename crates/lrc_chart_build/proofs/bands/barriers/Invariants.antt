use Rattle.std.proofs.Common.{◌≡◌, map, take}
use Rattle.lrc_chart_build.specs.Bands.{barrier_at}
use Rattle.lrc_chart_build.specs.Counts.{AreCounts}
use Rattle.lrc_chart_build.proofs.bands.barriers.Given as goal

-- the barriers of the rows so far; and the counts are those at their place
abbrev pub invariant-loop-place : goal.invariant-loop-place
invariant-loop-place l = record {
  numbers : l.numbers.items ≡ map (λ row. barrier_at l.acts row.act) (take l.place-index l.places);
  counts : AreCounts l.acts l.counts.position l.counts;
}
