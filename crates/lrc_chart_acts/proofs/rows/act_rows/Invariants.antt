use Rattle.std.proofs.Common.{◌≡◌, ◌∷◌, [], map, take}
use Rattle.lrc_acts_text.specs.Acts.{act_at}
use Rattle.lrc_text.specs.Each.{each}
use Rattle.lrc_chart_build.specs.Counts.{AreCounts}
use Rattle.lrc_chart_build.specs.Seen.{seen_row}
use Rattle.lrc_chart_acts.specs.Rows.{act_row}
use Rattle.lrc_chart_acts.proofs.rows.act_rows.Given as goal

-- the rows so far; and the counts are those at their place
abbrev pub invariant-loop-at : goal.invariant-loop-at
invariant-loop-at l = record {
  rows :
      map seen_row l.rows.items
      ≡ each (λ at place. act_row l.known l.places at place (act_at l.known.acts place.turn) ∷ []) (take l.at l.places);
  counts : AreCounts l.known.acts l.counts.position l.counts;
}
