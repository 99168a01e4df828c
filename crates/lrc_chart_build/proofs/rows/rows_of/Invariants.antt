use Rattle.std.proofs.Common.{◌≡◌, map, take}
use Rattle.std.specs.Prelude.{slice_get}
use Rattle.lrc_text.specs.Each.{each}
use Rattle.lrc_chart_build.specs.Counts.{AreCounts}
use Rattle.lrc_chart_build.specs.Rows.{shown_if}
use Rattle.lrc_chart_build.specs.Seen.{seen_row}
use Rattle.lrc_chart_build.proofs.rows.rows_of.Given as goal

-- the rows so far; and the counts are those at their place
abbrev pub invariant-loop-at : goal.invariant-loop-at
invariant-loop-at l = record {
  rows :
      map seen_row l.rows.items
      ≡ each (λ at place. shown_if l.course l.circled l.places at place (slice_get l.course.turns place.turn)) (take l.at l.places);
  counts : AreCounts l.course.known.acts l.counts.position l.counts;
}
