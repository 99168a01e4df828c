-- The epochs of the segments of traces count departs.
use Rattle.std.proofs.Common.{◌≡◌, ℕ, List, Bool, true, false, refl, inl, inr}
use Rattle.std.specs.Prelude.{Some, Contains, slice_get}
use Rattle.std.proofs.lemmas.List.Elements.{All-contains}
use Rattle.lrc_program.specs.declared.Program.{Program}
use Rattle.lrc_clock.specs.Times.{time_at, raised}
use Rattle.lrc_judge.proofs.Segments.{AccessesBy}
use Rattle.lrc_trace.specs.Conflict.{Accesses}
use Rattle.lrc_trace.specs.declared.trace.Segment.{Segment}
use Rattle.lrc_trace.specs.Interval.{interval_at}
use Rattle.lrc_trace.specs.Run.{departs_before}
use Rattle.lrc_trace.specs.Trace.{NotedAccess}
use Rattle.lrc_protocol.specs.declared.event.Event.{Event}
use Rattle.lrc_protocol.specs.Node.{OptionsRecord, fresh_node}
use Rattle.lrc_protocol.specs.Run.{Logged, World as Run, run_of}
use Rattle.lrc_protocol.specs.Traced.{trace_of}
use Rattle.lrc_order_laws.proofs.Reached.{IsReached}
use Rattle.lrc_reading_laws.proofs.Traced.Notes.{HasSome}
use Rattle.lrc_reading_laws.proofs.Traced.Runs.{IsTraceIn, IsAccessAt}
use Rattle.lrc_reading_laws.proofs.Traced.Worlds.{all_traced}
use Rattle.lrc_world.specs.Epochs.{IsOfAccess}

by_kind : (run : Run) (position node word : ℕ) (is_write : Bool) → AccessesBy is_write run.acts position node word → Accesses run.acts position node word
by_kind run position node word true a = inr a
by_kind run position node word false a = inl a

module _ (program : Program) (nodes : ℕ) (options : OptionsRecord) (events : List Event) (run : Run) (runs : run_of program nodes options events ≡ Some run)
    (n : ℕ) (l : Logged) (there : slice_get run.nodes n ≡ Some l) where
  reached : IsReached program nodes options run
  reached = record { events = events; runs = runs }

  is : IsTraceIn run.acts run.times n (trace_of (fresh_node program nodes options n) l.log)
  is = (all_traced program nodes options run reached).each n l there

  pub of_segment : (segment : Segment) → Contains (trace_of (fresh_node program nodes options n) l.log).segments segment
      → (position : ℕ) × (word : ℕ) × Accesses run.acts position n word × IsOfAccess run.acts n position segment
  of_segment segment has =
      let trace = trace_of (fresh_node program nodes options n) l.log in
      let some : HasSome trace.size segment = All-contains (HasSome trace.size) trace.segments segment is.some has in
      let access : NotedAccess = record {
        epoch = segment.epoch;
        interval = segment.interval;
        time = segment.time;
        word = some.0;
        is_write = some.1;
      } in
      let at : (position : ℕ) × IsAccessAt run.acts run.times n access position =
      is.noted_at access (record { segment = segment; there = has; epoch = refl; interval = refl; time = refl; has = some.2 }) in
      (at.0, some.0, by_kind run at.0 n some.0 some.1 at.1.does, record { interval = at.1.interval; epoch = at.1.epoch })

  by_access : (position word : ℕ) (is_write : Bool) → AccessesBy is_write run.acts position n word
      → (segment : Segment) × Contains (trace_of (fresh_node program nodes options n) l.log).segments segment × IsOfAccess run.acts n position segment
  by_access position word is_write does =
      let access : NotedAccess = record {
        epoch = departs_before run.acts n position;
        interval = interval_at run.acts n position;
        time = raised (time_at run.times position) n;
        word = word;
        is_write = is_write;
      } in
      let noted = is.at_noted access position (record { does = does; epoch = refl; interval = refl; time = refl }) in
      (noted.segment, noted.there, record { interval = noted.interval; epoch = noted.epoch })

  pub of_access : (position word : ℕ) → Accesses run.acts position n word
      → (segment : Segment) × Contains (trace_of (fresh_node program nodes options n) l.log).segments segment × IsOfAccess run.acts n position segment
  of_access position word (inl reads) = by_access position word false reads
  of_access position word (inr writes) = by_access position word true writes
