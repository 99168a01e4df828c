use Rattle.std.proofs.Common.{◌≡◌, take}
use Rattle.std.specs.Prelude.{slice_index}
use Rattle.std.specs.List.{flat_map}
use Rattle.lrc_trace.specs.Run.{is_arrive, is_depart}
use Rattle.lrc_text.specs.Each.{each}
use Rattle.lrc_acts_text.specs.Rapid.{meeting_at, rapid_steps, step_line}
use Rattle.lrc_acts_text.proofs.Tallies.{Tallies}
use Rattle.lrc_acts_text.proofs.rapid.rapid_part.Given as goal

-- the lines of the acts so far, and how often the nodes have arrived and departed
abbrev pub invariant-loop-position : goal.invariant-loop-position
invariant-loop-position l = record {
  lines : l.text.items
      ≡ flat_map (λ s. step_line (slice_index l.lines s.position) s)
      (each (λ position act. rapid_steps (meeting_at l.locks l.nodes l.acts act.node position) position act.node act.deed) (take l.position l.acts));
  arrived : Tallies is_arrive l.acts l.position l.arrives.counts;
  departed : Tallies is_depart l.acts l.position l.departs.counts;
}
