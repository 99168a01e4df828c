-- The segments of the trace of a node, in the words of the run.
use Rattle.std.proofs.Common.{◌≡◌, ◌≢◌, ℕ, ◌+◌, ◌<◌, ◌≤◌, ◌⊎◌, List, Bool, true, false, length, get_or, refl, sym, ap, subst, ◌∙◌, inl, inr, arith, length-set}
use Rattle.std.specs.Prelude.{Some, Contains, IsTrue, slice_get}
use Rattle.std.proofs.lemmas.Bool.{cases_eq, cases_lt, cases_order}
use Rattle.std.proofs.lemmas.List.{get_or_default, get_or-map, length-map}
use Rattle.std.proofs.lemmas.List.Elements.{All-contains}
use Rattle.std.proofs.lemmas.Option.{get_or_from_slice_get, same_Some, slice_get_within}
use Rattle.lrc_time.specs.Time.{entry, Covers}
use Rattle.lrc_time.proofs.Times.{entry-set_same, entry-set_other, covers-refl}
use Rattle.lrc_trace.specs.declared.act.Act.{Act}
use Rattle.lrc_trace.specs.declared.trace.Segment.{Segment}
use Rattle.lrc_trace.specs.Order.{program, base}
use Rattle.lrc_trace.specs.Run.{is_depart, departs_before}
use Rattle.lrc_trace.specs.Conflict.{Accesses}
use Rattle.lrc_trace.specs.Interval.{interval_at}
use Rattle.lrc_trace.specs.Segments.{intervals_of, AreSegments}
use Rattle.lrc_trace.specs.Synchronization.{IsWellSynchronized, WaitsAtBarriers}
use Rattle.lrc_trace.specs.Trace.{TraceRecord, NotedAccess, IsNoted, has_access}
use Rattle.lrc_trace.proofs.Intervals.{count_of-rises, never_fall}
use Rattle.lrc_judge.proofs.Segments.{AccessesBy}
use Rattle.lrc_clock.specs.Times.{time_at, raised}
use Rattle.lrc_clock.specs.Keeping.{KeepsTime}
use Rattle.lrc_clock.specs.Races.{IsSegmentOf}
use Rattle.lrc_clock.proofs.Covering.{rises}
use Rattle.lrc_clock.proofs.Epochs.{earlier_epoch_is_covered}
use Rattle.lrc_clock.proofs.Rules.{long}
use Rattle.lrc_race.specs.Epochs.{AgreesBetween, EpochsRise}
use Rattle.lrc_race.specs.Races.{RisesAlong}
use Rattle.lrc_reading_laws.proofs.Traced.Notes.{HasSome}
use Rattle.lrc_reading_laws.proofs.Traced.Runs.{IsAccessAt, IsTraceIn, IsDeedOf, deed_by}

accesses_by : (is_write : Bool) (run : List Act) (position node word : ℕ) → AccessesBy is_write run position node word → Accesses run position node word
accesses_by true run position node word a = inr a
accesses_by false run position node word a = inl a

-- ---- segments in order

module _ (segments : List Segment) (are : AreSegments segments) where
  interval_there : (k : ℕ) (s : Segment) → k < length segments → get_or segments k s ≡ s → get_or (intervals_of segments) k 0 ≡ s.interval
  interval_there k s lt is = get_or-map (λ (s : Segment). s.interval) segments k s 0 lt ∙ ap (λ (s : Segment). s.interval) is

  -- of two segments the earlier has the lower interval
  rises_before : (i j : ℕ) (s t : Segment) → i < j → j < length segments → get_or segments i s ≡ s → get_or segments j t ≡ t → s.interval < t.interval
  rises_before i j s t lt within first second =
      let long : length (intervals_of segments) ≡ length segments = length-map segments (λ (s : Segment). s.interval) in
      let less : get_or (intervals_of segments) i 0 < get_or (intervals_of segments) j 0 = are.rising i j 0 lt (omega (arith, within, long)) in
      let a : _ = interval_there i s (omega (arith, lt, within)) first in
      let b : _ = interval_there j t within second in
      omega (arith, less, a, b)

  -- one of an interval is the only one
  pub one_segment : (s t : Segment) → Contains segments s → Contains segments t → s.interval ≡ t.interval → s ≡ t
  one_segment s t (i, i_within, first) (j, j_within, second) same = elim (cases_order i j) [
    | inl at ↦
        sym first ∙ get_or_default segments i s t i_within ∙ ap (λ k. get_or segments k t) at ∙ second
    | inr other ↦
        absurd (elim other [
          | inl less ↦ let r : _ = rises_before i j s t less j_within first second in omega (arith, r, same)
          | inr more ↦ let r : _ = rises_before j i t s more i_within second first in omega (arith, r, same)
        ])
  ]

-- ---- one trace

module _ {nodes : ℕ} {run : List Act} {times : List (List ℕ)} (keeps : KeepsTime nodes run times) (ws : IsWellSynchronized nodes run)
    (waits : WaitsAtBarriers run) where
  module _ (trace : TraceRecord) (is : IsTraceIn run times trace.node trace) where
    -- an access of a segment, and where it was made
    record MadeAt (s : Segment) (is_write : Bool) (word : ℕ) : Type 0 where
      position : ℕ
      does : AccessesBy is_write run position trace.node word
      epoch : s.epoch ≡ departs_before run trace.node position
      interval : s.interval ≡ interval_at run trace.node position
      time : s.time ≡ raised (time_at times position) trace.node

    made_at : (s : Segment) (is_write : Bool) (word : ℕ) → Contains trace.segments s → IsTrue (has_access trace.size s is_write word)
        → MadeAt s is_write word
    made_at s is_write word there has =
        let access : NotedAccess = record { epoch = s.epoch; interval = s.interval; time = s.time; word = word; is_write = is_write } in
        let at : (position : ℕ) × IsAccessAt run times trace.node access position =
        is.noted_at access (record { segment = s; there = there; epoch = refl; interval = refl; time = refl; has = has }) in
        record { position = at.0; does = at.1.does; epoch = at.1.epoch; interval = at.1.interval; time = at.1.time }

    -- each segment has one
    record MadeSome (s : Segment) : Type 0 where
      is_write : Bool
      word : ℕ
      made : MadeAt s is_write word

    made_some : (s : Segment) → Contains trace.segments s → MadeSome s
    made_some s there =
        let some : HasSome trace.size s = All-contains (HasSome trace.size) trace.segments s is.some there in
        record { is_write = some.1; word = some.0; made = made_at s some.1 some.0 there some.2 }

    pub segment_of : (s : Segment) → Contains trace.segments s → IsSegmentOf run times trace.node s.interval s.time
    segment_of s there =
        let m : MadeSome s = made_some s there in
        record {
          position = m.made.position;
          word = m.word;
          access = accesses_by m.is_write run m.made.position trace.node m.word m.made.does;
          interval = sym m.made.interval;
          stamp = m.made.time;
        }

    -- what it has is accessed in its interval
    pub accessed : (s : Segment) (is_write : Bool) (word : ℕ) → Contains trace.segments s → IsTrue (has_access trace.size s is_write word)
        → (i : ℕ) × AccessesBy is_write run i trace.node word × (interval_at run trace.node i ≡ s.interval)
    accessed s is_write word there has =
        let m : MadeAt s is_write word = made_at s is_write word there has in (m.position, m.does, sym m.interval)

    -- and each access is in a segment of its interval,
    pub noted_access : (is_write : Bool) (i word : ℕ) → AccessesBy is_write run i trace.node word
        → (s : Segment) × Contains trace.segments s × (s.interval ≡ interval_at run trace.node i) × IsTrue (has_access trace.size s is_write word)
    noted_access is_write i word a =
        let access : NotedAccess = record {
          epoch = departs_before run trace.node i;
          interval = interval_at run trace.node i;
          time = raised (time_at times i) trace.node;
          word = word;
          is_write = is_write;
        } in
        let n : IsNoted trace access = is.at_noted access i (record { does = a; epoch = refl; interval = refl; time = refl }) in
        (n.segment, n.there, n.interval, n.has)

    -- which is the one with that interval
    pub has_accessed : (s : Segment) (is_write : Bool) (word : ℕ) → Contains trace.segments s
        → (i : ℕ) × AccessesBy is_write run i trace.node word × (interval_at run trace.node i ≡ s.interval)
        → IsTrue (has_access trace.size s is_write word)
    has_accessed s is_write word there (i, a, at) =
        let n : _ = noted_access is_write i word a in
        let same : n.0 ≡ s = one_segment trace.segments is.segments n.0 s n.1 there (n.2 ∙ at) in
        subst (λ s. IsTrue (has_access trace.size s is_write word)) same n.3

    pub long_stamp : (s : Segment) → Contains trace.segments s → length s.time ≡ nodes
    long_stamp s there =
        let m : MadeSome s = made_some s there in
        let d : IsDeedOf run m.made.position trace.node = deed_by m.is_write run m.made.position trace.node m.word m.made.does in
        ap length m.made.time
        ∙ length-set (time_at times m.made.position) trace.node (entry (time_at times m.made.position) trace.node + 1)
        ∙ long keeps m.made.position trace.node d.deed d.does

    -- of two segments by their numbers, both are one or the first has the lower interval
    in_order : (i j : ℕ) (s t : Segment) → i ≤ j → slice_get trace.segments i ≡ Some s → slice_get trace.segments j ≡ Some t
        → (s ≡ t) ⊎ (s.interval < t.interval)
    in_order i j s t le first second = elim (cases_eq i j) [
      | inl same ↦ inl (same_Some s t (sym first ∙ ap (slice_get trace.segments) same ∙ second))
      | inr other ↦
          inr (rises_before trace.segments is.segments i j s t (omega (arith, le, other)) (slice_get_within trace.segments j t second)
          (get_or_from_slice_get trace.segments i s s first) (get_or_from_slice_get trace.segments j t t second))
    ]

    there_at : (i : ℕ) (s : Segment) → slice_get trace.segments i ≡ Some s → Contains trace.segments s
    there_at i s e = (i, slice_get_within trace.segments i s e, get_or_from_slice_get trace.segments i s s e)

    earlier : (s t : Segment) (v : MadeSome s) (w : MadeSome t) → s.interval < t.interval → v.made.position < w.made.position
    earlier s t v w less = elim (cases_lt v.made.position w.made.position) [
      | inl lt ↦ lt
      | inr ge ↦
          let falls : _ = never_fall run trace.node w.made.position v.made.position ge in
          let a : _ = v.made.interval in
          let b : _ = w.made.interval in
          absurd (omega (arith, falls, a, b, less))
    ]

    -- epochs rise along it, and times
    pub epochs_rise : EpochsRise trace
    epochs_rise i j s t le first second = elim (in_order i j s t le first second) [
      | inl same ↦ let e : s.epoch ≡ t.epoch = ap (λ (s : Segment). s.epoch) same in omega (arith, e)
      | inr less ↦
          let v : MadeSome s = made_some s (there_at i s first) in
          let w : MadeSome t = made_some t (there_at j t second) in
          let lt : v.made.position < w.made.position = earlier s t v w less in
          let more : _ = count_of-rises is_depart run trace.node v.made.position w.made.position (omega (arith, lt)) in
          let a : _ = v.made.epoch in
          let b : _ = w.made.epoch in
          omega (arith, more, a, b)
    ]

    raised-covers : (a b : List ℕ) (node : ℕ) → node < length a → node < length b → Covers a b → Covers (raised a node) (raised b node)
    raised-covers a b node a_long b_long covers q = elim (cases_eq q node) [
      | inl same ↦
          subst (λ q. entry (raised b node) q ≤ entry (raised a node) q) (sym same)
          (let x : _ = entry-set_same a node (entry a node + 1) a_long in
          let y : _ = entry-set_same b node (entry b node + 1) b_long in
          let z : _ = covers node in
          omega (arith, x, y, z))
      | inr other ↦
          let x : _ = entry-set_other a node (entry a node + 1) q other in
          let y : _ = entry-set_other b node (entry b node + 1) q other in
          let z : _ = covers q in
          omega (arith, x, y, z)
    ]

    pub times_rise : RisesAlong trace
    times_rise i j s t le first second = elim (in_order i j s t le first second) [
      | inl same ↦ subst (λ (t : Segment). Covers t.time s.time) same (covers-refl s.time)
      | inr less ↦
          let v : MadeSome s = made_some s (there_at i s first) in
          let w : MadeSome t = made_some t (there_at j t second) in
          let d : IsDeedOf run v.made.position trace.node = deed_by v.is_write run v.made.position trace.node v.word v.made.does in
          let e : IsDeedOf run w.made.position trace.node = deed_by w.is_write run w.made.position trace.node w.word w.made.does in
          let within : trace.node < nodes = keeps.in_range v.made.position trace.node d.deed d.does in
          let covers : Covers (time_at times w.made.position) (time_at times v.made.position) =
          rises keeps ws (base (program (earlier s t v w less) d.does e.does)) in
          subst (λ time. Covers t.time time) (sym v.made.time)
          (subst (λ time. Covers time (raised (time_at times v.made.position) trace.node)) (sym w.made.time)
          (raised-covers (time_at times w.made.position) (time_at times v.made.position) trace.node
          (subst (λ k. trace.node < k) (sym (long keeps w.made.position trace.node e.deed e.does)) within)
          (subst (λ k. trace.node < k) (sym (long keeps v.made.position trace.node d.deed d.does)) within) covers))
    ]

  -- a later epoch knows an earlier one of another node
  pub agree : (a b : TraceRecord) → IsTraceIn run times a.node a → IsTraceIn run times b.node b → a.node ≢ b.node → AgreesBetween a b
  agree a b first second apart t t_in s s_in less =
      let v : MadeSome a first s = made_some a first s s_in in
      let w : MadeSome b second t = made_some b second t t_in in
      let d : IsDeedOf run v.made.position a.node = deed_by v.is_write run v.made.position a.node v.word v.made.does in
      let e : IsDeedOf run w.made.position b.node = deed_by w.is_write run w.made.position b.node w.word w.made.does in
      let x : _ = v.made.epoch in
      let y : _ = w.made.epoch in
      let known : interval_at run a.node v.made.position ≤ entry (time_at times w.made.position) a.node =
      earlier_epoch_is_covered ws waits keeps v.made.position w.made.position a.node b.node d.deed e.deed d.does d.departs_not e.does
      (omega (arith, less, x, y)) in
      let same : entry (raised (time_at times w.made.position) b.node) a.node ≡ entry (time_at times w.made.position) a.node =
      entry-set_other (time_at times w.made.position) b.node (entry (time_at times w.made.position) b.node + 1) a.node apart in
      let z : _ = v.made.interval in
      subst (λ time. s.interval ≤ entry time a.node) (sym w.made.time) (omega (arith, known, same, z))
