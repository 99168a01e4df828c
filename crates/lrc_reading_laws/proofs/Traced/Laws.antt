-- The traces that the nodes of a run keep are those of the run, and their races those that the run names.
use Rattle.std.proofs.Common.{◌≡◌, ℕ, zero, suc, ◌+◌, ◌<◌, List, [], ◌∷◌, Bool, true, false, get_or, map, refl, sym, ap, subst, ◌∙◌, inl, inr, arith}
use Rattle.std.specs.Prelude.{◌↔◌, Some, Contains, IsTrue, slice_get}
use Rattle.std.specs.List.{enumerate_from}
use Rattle.std.proofs.lemmas.Option.{same_Some, slice_get-get_or}
use Rattle.lrc_program.specs.declared.Program.{Program}
use Rattle.lrc_trace.specs.declared.race.Race.{Race}
use Rattle.lrc_trace.specs.declared.trace.Segment.{Segment}
use Rattle.lrc_trace.specs.Conflict.{Accesses}
use Rattle.lrc_trace.specs.Interval.{interval_at, IsNamedRace}
use Rattle.lrc_trace.specs.Synchronization.{IsWellSynchronized, WaitsAtBarriers}
use Rattle.lrc_trace.specs.Trace.{TraceRecord, has_access}
use Rattle.lrc_judge.proofs.Segments.{AccessesBy}
use Rattle.lrc_clock.specs.Keeping.{KeepsTime}
use Rattle.lrc_clock.proofs.Racing.{named_of_segments, segments_named}
use Rattle.lrc_race.specs.Epochs.{EpochsAgree, EpochsRise}
use Rattle.lrc_race.specs.OfRun.{HasSegment, AreOfRun}
use Rattle.lrc_race.specs.Races.{IsRaceOf, AreTracesOf, RisesAlong}
use Rattle.lrc_race.proofs.OfRuns.{race_segments, segments_race}
use Rattle.lrc_protocol.specs.declared.event.Event.{Event}
use Rattle.lrc_protocol.specs.Node.{OptionsRecord, fresh_node}
use Rattle.lrc_protocol.specs.Run.{Logged, World, run_of}
use Rattle.lrc_protocol.specs.Traced.{trace_of, traces_of}
use Rattle.lrc_protocol.proofs.Worlds.{run-whole}
use Rattle.lrc_order_laws.proofs.OwnEntry.{in_range}
use Rattle.lrc_order_laws.proofs.Reached.{IsReached}
use Rattle.lrc_order_laws.proofs.Timed.{keeps, synchronized, waits}
use Rattle.lrc_reading_laws.proofs.Traced.Runs.{IsTraceIn, IsDeedOf, deed_by}
use Rattle.lrc_reading_laws.proofs.Traced.Segments.{segment_of, accessed, noted_access, has_accessed, long_stamp, epochs_rise, times_rise, agree}
use Rattle.lrc_reading_laws.proofs.Traced.Worlds.{all_traced}

module _ (program : Program) (nodes : ℕ) (options : OptionsRecord) where
  -- ---- the list of traces

  abbrev trace_at : ℕ × Logged → TraceRecord
  trace_at at = trace_of (fresh_node program nodes options at.0) at.1.log

  -- a trace of the list is that of a node
  record IsAt (first : ℕ) (logs : List Logged) (a : TraceRecord) : Type 0 where
    place : ℕ
    l : Logged
    at : slice_get logs place ≡ Some l
    is : a ≡ trace_of (fresh_node program nodes options (first + place)) l.log

  at_place : (logs : List Logged) (first : ℕ) (a : TraceRecord) → Contains (map trace_at (enumerate_from first logs)) a → IsAt first logs a
  at_place [] first a (k, within, is) = absurd (omega (arith, within))
  at_place (l ∷ logs) first a (zero, within, is) =
      let e : first ≡ first + 0 = omega arith in
      record { place = 0; l = l; at = refl; is = sym is ∙ ap (λ n. trace_of (fresh_node program nodes options n) l.log) e }
  at_place (l ∷ logs) first a (suc k, within, is) =
      let found : IsAt (first + 1) logs a = at_place logs (first + 1) a (k, omega (arith, within), is) in
      let e : first + 1 + found.place ≡ first + suc found.place = omega arith in
      record {
        place = suc found.place;
        l = found.l;
        at = found.at;
        is = found.is ∙ ap (λ n. trace_of (fresh_node program nodes options n) found.l.log) e;
      }

  place_there : (logs : List Logged) (first k : ℕ) (l : Logged) → slice_get logs k ≡ Some l
      → Contains (map trace_at (enumerate_from first logs)) (trace_of (fresh_node program nodes options (first + k)) l.log)
  place_there [] first k l e = cc
  place_there (x ∷ logs) first zero l e =
      let n : first + 0 ≡ first = omega arith in (
        0,
        omega arith,
        ap (λ (x : Logged). trace_of (fresh_node program nodes options first) x.log) (same_Some x l e)
            ∙ ap (λ n. trace_of (fresh_node program nodes options n) l.log) (sym n),
      )
  place_there (x ∷ logs) first (suc k) l e =
      let (i, within, is) = place_there logs (first + 1) k l e in
      let n : first + 1 + k ≡ first + suc k = omega arith in
      subst (λ n. Contains (map trace_at (enumerate_from first (x ∷ logs))) (trace_of (fresh_node program nodes options n) l.log)) n
      (suc i, omega (arith, within), is)

  -- ---- every run

  module _ (events : List Event) (world : World) (runs : run_of program nodes options events ≡ Some world) where
    reached : IsReached program nodes options world
    reached = record { events = events; runs = runs }

    abbrev traces : List TraceRecord
    traces = traces_of program nodes options world

    keeps_time : KeepsTime nodes world.acts world.times
    keeps_time = keeps program nodes options events world runs

    synchronizes : IsWellSynchronized nodes world.acts
    synchronizes = synchronized program nodes options events world runs

    waits_there : WaitsAtBarriers world.acts
    waits_there = waits program nodes options events world runs

    at_node : (n : ℕ) (l : Logged) → slice_get world.nodes n ≡ Some l → IsTraceIn world.acts world.times n (trace_of (fresh_node program nodes options n) l.log)
    at_node n l at = (all_traced program nodes options world reached).each n l at

    each_trace : (a : TraceRecord) → Contains traces a → IsTraceIn world.acts world.times a.node a
    each_trace a there =
        let found : IsAt 0 world.nodes a = at_place world.nodes 0 a there in
        let n : 0 + found.place ≡ found.place = omega arith in
        let here : IsTraceIn world.acts world.times found.place a =
        subst (IsTraceIn world.acts world.times found.place) (sym (found.is ∙ ap (λ n. trace_of (fresh_node program nodes options n) found.l.log) n))
        (at_node found.place found.l found.at) in
        subst (λ n. IsTraceIn world.acts world.times n a) (sym here.node_is) here

    below : (a : TraceRecord) → Contains traces a → a.node < nodes
    below a there =
        let found : IsAt 0 world.nodes a = at_place world.nodes 0 a there in
        let n : 0 + found.place ≡ found.place = omega arith in
        let here : IsTraceIn world.acts world.times found.place (trace_of (fresh_node program nodes options found.place) found.l.log) =
        at_node found.place found.l found.at in
        subst (λ k. k < nodes)
        (sym (ap (λ (a : TraceRecord). a.node) (found.is ∙ ap (λ n. trace_of (fresh_node program nodes options n) found.l.log) n) ∙ here.node_is))
        (in_range program nodes options events world runs found.place found.l found.at)

    -- the trace of a node that is there
    record TraceOf (node : ℕ) : Type 0 where
      trace : TraceRecord
      there : Contains traces trace
      node_is : trace.node ≡ node

    trace_of_node : (node : ℕ) → node < nodes → TraceOf node
    trace_of_node node lt =
        let fresh : Logged = record { node = fresh_node program nodes options node; log = [] } in
        let at : slice_get world.nodes node ≡ Some (get_or world.nodes node fresh) =
        slice_get-get_or world.nodes node fresh (subst (λ k. node < k) (sym (run-whole program nodes options events world runs).count) lt) in
        let l : Logged = get_or world.nodes node fresh in
        let n : 0 + node ≡ node = omega arith in
        record {
          trace = trace_of (fresh_node program nodes options node) l.log;
          there = subst (λ n. Contains traces (trace_of (fresh_node program nodes options n) l.log)) n (place_there world.nodes 0 node l at);
          node_is = (at_node node l at).node_is;
        }

    segment_by : (is_write : Bool) (i node word : ℕ) → AccessesBy is_write world.acts i node word → HasSegment world.acts traces node i
    segment_by is_write i node word a =
        let d : IsDeedOf world.acts i node = deed_by is_write world.acts i node word a in
        let t : TraceOf node = trace_of_node node (keeps_time.in_range i node d.deed d.does) in
        let found : _ = noted_access keeps_time synchronizes waits_there t.trace (each_trace t.trace t.there) is_write i word
        (subst (λ n. AccessesBy is_write world.acts i n word) (sym t.node_is) a) in
        record {
          trace = t.trace;
          segment = found.0;
          trace_there = t.there;
          segment_there = found.1;
          node_is = t.node_is;
          interval = found.2 ∙ ap (λ n. interval_at world.acts n i) t.node_is;
        }

    has_segment : (i node word : ℕ) → Accesses world.acts i node word → HasSegment world.acts traces node i
    has_segment i node word (inl reads) = segment_by false i node word reads
    has_segment i node word (inr writes) = segment_by true i node word writes

    exact : (a : TraceRecord) (s : Segment) (is_write : Bool) (word : ℕ) → Contains traces a → Contains a.segments s
        → IsTrue (has_access a.size s is_write word)
        ↔ ((i : ℕ) × AccessesBy is_write world.acts i a.node word × (interval_at world.acts a.node i ≡ s.interval))
    exact a s is_write word there s_there = (
      accessed keeps_time synchronizes waits_there a (each_trace a there) s is_write word s_there,
      has_accessed keeps_time synchronizes waits_there a (each_trace a there) s is_write word s_there,
    )

    pub are_of_run : AreOfRun world.acts world.times traces
    are_of_run = record {
      segments = λ a s there s_there. segment_of keeps_time synchronizes waits_there a (each_trace a there) s s_there;
      writes = λ a s word there s_there. exact a s true word there s_there;
      reads = λ a s word there s_there. exact a s false word there s_there;
      all = has_segment;
    }

    pub are_traces : AreTracesOf nodes traces
    are_traces = record {
      below = below;
      entries = λ a s there s_there. long_stamp keeps_time synchronizes waits_there a (each_trace a there) s s_there;
    }

    pub epochs_agree : EpochsAgree traces
    epochs_agree a b a_there b_there apart = agree keeps_time synchronizes waits_there a b (each_trace a a_there) (each_trace b b_there) apart

    pub all_rise : (a : TraceRecord) → Contains traces a → EpochsRise a × RisesAlong a
    all_rise a there = (
      epochs_rise keeps_time synchronizes waits_there a (each_trace a there),
      times_rise keeps_time synchronizes waits_there a (each_trace a there),
    )

    -- the races of the traces are the run's
    pub races_named : (race : Race) → IsRaceOf traces race ↔ IsNamedRace world.acts race
    races_named race = (
      λ r. segments_named keeps_time synchronizes waits_there race
          (segments_race nodes world.acts world.times traces keeps_time synchronizes waits_there are_of_run race r),
      λ n. race_segments nodes world.acts world.times traces keeps_time synchronizes waits_there are_of_run race
          (named_of_segments keeps_time synchronizes race n),
    )
