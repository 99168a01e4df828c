-- The races of a run's traces are those that the run names.
use Rattle.std.proofs.Common.{◌≡◌, ◌∙◌, ℕ, ◌<◌, ◌≤◌, ◌⊎◌, inl, inr, Bool, true, false, List, refl, sym, subst, ⊎_elim, arith}
use Rattle.std.specs.Prelude.{Contains, IsTrue}
use Rattle.std.proofs.lemmas.Bool.{cases_lt, or_cases, or_right}
use Rattle.lrc_time.specs.Time.{entry}
use Rattle.lrc_trace.specs.declared.act.Act.{Act}
use Rattle.lrc_trace.specs.declared.race.Race.{Race}
use Rattle.lrc_trace.specs.declared.trace.Segment.{Segment}
use Rattle.lrc_trace.specs.Synchronization.{IsWellSynchronized, WaitsAtBarriers}
use Rattle.lrc_trace.specs.Trace.{TraceRecord, has_access}
use Rattle.lrc_clock.specs.Keeping.{KeepsTime}
use Rattle.lrc_clock.specs.Races.{IsSegmentOf, IsRaceOfSegments, WritesIn, AccessesIn}
use Rattle.lrc_clock.proofs.Racing.{segment_time}
use Rattle.lrc_race.specs.Races.{AreConflicting, IsRaceOf}
use Rattle.lrc_race.specs.OfRun.{AreOfRun}

not_known : (known index : ℕ) → ¬ index ≤ known → known < index
not_known known index unknown =
    ⊎_elim (λ (more : known < index). more) (λ (less : index ≤ known). absurd (unknown less)) (cases_lt known index)

module _ (nodes : ℕ) (run : List Act) (times : List (List ℕ)) (traces : List TraceRecord) (keeps : KeepsTime nodes run times)
    (ws : IsWellSynchronized nodes run) (waits : WaitsAtBarriers run) (of : AreOfRun run times traces) where
  -- an access of a segment is one of the run in its interval
  accessed : (a : TraceRecord) (s : Segment) (word : ℕ) (writes : Bool) → Contains traces a → Contains a.segments s
      → IsTrue (has_access a.size s writes word) → AccessesIn run a.node s.interval word
  accessed a s word true a_in s_in has = let (i, w, at) = (of.writes a s word a_in s_in).0 has in (i, inr w, at)
  accessed a s word false a_in s_in has = let (i, r, at) = (of.reads a s word a_in s_in).0 has in (i, inl r, at)

  accesses : (a : TraceRecord) (s : Segment) (word : ℕ) → Contains traces a → Contains a.segments s
      → AccessesIn run a.node s.interval word → (writes : Bool) × IsTrue (has_access a.size s writes word)
  accesses a s word a_in s_in (i, access, at) =
      ⊎_elim
      (λ r. (false, (of.reads a s word a_in s_in).1 (i, r, at)))
      (λ w. (true, (of.writes a s word a_in s_in).1 (i, w, at)))
      access

  pub segments_race : (race : Race) → IsRaceOf traces race → IsRaceOfSegments run times race
  segments_race race r =
      let c = r.conflicting in
      let both : (WritesIn run r.a.node r.s.interval race.word × AccessesIn run r.b.node r.t.interval race.word)
      ⊎ (AccessesIn run r.a.node r.s.interval race.word × WritesIn run r.b.node r.t.interval race.word) =
      ⊎_elim
      (λ (first : c.first_writes ≡ true).
      inl (
        (of.writes r.a r.s race.word r.a_there r.s_there).0 (subst (λ w. IsTrue (has_access r.a.size r.s w race.word)) first c.first),
        accessed r.b r.t race.word c.second_writes r.b_there r.t_there c.second,
      ))
      (λ (second : c.second_writes ≡ true).
      inr (
        accessed r.a r.s race.word c.first_writes r.a_there r.s_there c.first,
        (of.writes r.b r.t race.word r.b_there r.t_there).0 (subst (λ w. IsTrue (has_access r.b.size r.t w race.word)) second c.second),
      ))
      (or_cases c.first_writes c.second_writes c.one) in
      record {
        ascending = r.ascending;
        time_a = r.s.time;
        time_b = r.t.time;
        segment_a = rw (r.node_a, r.interval_a) (of.segments r.a r.s r.a_there r.s_there);
        segment_b = rw (r.node_b, r.interval_b) (of.segments r.b r.t r.b_there r.t_there);
        accesses = rw (r.node_a, r.interval_a, r.node_b, r.interval_b) both;
        unknown_a = rw (r.node_a, r.interval_a) (not_known (entry r.t.time r.a.node) r.s.interval r.unordered.second);
        unknown_b = rw (r.node_b, r.interval_b) (not_known (entry r.s.time r.b.node) r.t.interval r.unordered.first);
      }

  -- the trace's segment of a segment of the run
  record Found (node index : ℕ) (time : List ℕ) : Type 0 where
    a : TraceRecord
    s : Segment
    a_in : Contains traces a
    s_in : Contains a.segments s
    node_is : a.node ≡ node
    index_is : s.interval ≡ index
    time_is : s.time ≡ time

  found : (node index : ℕ) (time : List ℕ) → IsSegmentOf run times node index time → Found node index time
  found node index time q =
      let h = of.all q.position node q.word q.access in
      let index_is : h.segment.interval ≡ index = h.interval ∙ q.interval in
      let is : IsSegmentOf run times node index h.segment.time =
      subst (λ p. IsSegmentOf run times p index h.segment.time) h.node_is
      (subst (λ i. IsSegmentOf run times h.trace.node i h.segment.time) index_is
      (of.segments h.trace h.segment h.trace_there h.segment_there)) in
      record {
        a = h.trace;
        s = h.segment;
        a_in = h.trace_there;
        s_in = h.segment_there;
        node_is = h.node_is;
        index_is = index_is;
        time_is = segment_time keeps ws waits node index q.position q.word h.segment.time is q.access q.interval ∙ sym q.stamp;
      }

  pub race_segments : (race : Race) → IsRaceOfSegments run times race → IsRaceOf traces race
  race_segments race q =
      let f = found race.node_a race.interval_a q.time_a q.segment_a in
      let g = found race.node_b race.interval_b q.time_b q.segment_b in
      let both : (WritesIn run f.a.node f.s.interval race.word × AccessesIn run g.a.node g.s.interval race.word)
      ⊎ (AccessesIn run f.a.node f.s.interval race.word × WritesIn run g.a.node g.s.interval race.word) =
      rw (f.node_is, f.index_is, g.node_is, g.index_is) q.accesses in
      let conflicting : AreConflicting f.a f.s g.a g.s race.word =
      ⊎_elim
      (λ (wrote, accessed).
      let (writes, has) = accesses g.a g.s race.word g.a_in g.s_in accessed in
      record {
        first_writes = true;
        second_writes = writes;
        one = refl;
        first = (of.writes f.a f.s race.word f.a_in f.s_in).1 wrote;
        second = has;
      })
      (λ (accessed, wrote).
      let (writes, has) = accesses f.a f.s race.word f.a_in f.s_in accessed in
      record {
        first_writes = writes;
        second_writes = true;
        one = or_right writes true refl;
        first = has;
        second = (of.writes g.a g.s race.word g.a_in g.s_in).1 wrote;
      })
      both in
      let known_a : entry g.s.time f.a.node < f.s.interval = rw (g.time_is, f.node_is, f.index_is) q.unknown_a in
      let known_b : entry f.s.time g.a.node < g.s.interval = rw (f.time_is, g.node_is, g.index_is) q.unknown_b in
      record {
        a = f.a;
        b = g.a;
        s = f.s;
        t = g.s;
        a_there = f.a_in;
        b_there = g.a_in;
        s_there = f.s_in;
        t_there = g.s_in;
        node_a = sym f.node_is;
        node_b = sym g.node_is;
        interval_a = sym f.index_is;
        interval_b = sym g.index_is;
        ascending = q.ascending;
        conflicting = conflicting;
        unordered = record { first = λ known. omega arith; second = λ known. omega arith };
      }
