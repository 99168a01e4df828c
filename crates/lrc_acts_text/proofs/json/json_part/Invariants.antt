use Rattle.std.proofs.Common.{◌≡◌, map, take}
use Rattle.std.specs.Prelude.{slice_index, slice_index_or, []}
use Rattle.lrc_trace.specs.Interval.{closes, interval_at}
use Rattle.lrc_labels.specs.Reading.{label_seen}
use Rattle.lrc_text.specs.Each.{each}
use Rattle.lrc_timeline.specs.Timeline.{times_in}
use Rattle.lrc_acts_text.specs.Json.{json_line}
use Rattle.lrc_acts_text.proofs.Tallies.{Tallies}
use Rattle.lrc_acts_text.proofs.json.json_part.Given as goal

-- the lines of the acts so far, and the intervals that the nodes have reached
abbrev pub invariant-loop-position : goal.invariant-loop-position
invariant-loop-position l = record {
  lines : l.text.items
      ≡ each
      (λ position act. json_line (map label_seen l.labels) position act (slice_index l.lines position) (interval_at l.acts act.node position) (slice_index_or (times_in l.times) position []))
      (take l.position l.acts);
  closed : Tallies closes l.acts l.position l.closes.counts;
}
