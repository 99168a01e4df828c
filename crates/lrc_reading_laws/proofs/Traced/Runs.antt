-- The trace of a node of a run, position by position: it has the node's accesses, each with its epoch, interval and time.
use Rattle.std.proofs.Common.{◌≡◌, ℕ, ◌+◌, ◌-◌, ◌<◌, ◌≤◌, List, [], ◌∷◌, ◌++◌, Bool, true, false, length, refl}
use Rattle.std.proofs.Common.{sym, ap, subst, ◌∙◌, inl, inr, ⊎_elim, arith, length-append}
use Rattle.std.specs.Prelude.{All, Contains}
use Rattle.std.proofs.lemmas.Bool.{cases_lt}
use Rattle.std.proofs.lemmas.List.{take-append-le}
use Rattle.std.proofs.lemmas.List.Elements.{All-contains}
use Rattle.std.proofs.lemmas.Option.{slice_get_within, get_or_from_slice_get}
use Rattle.lrc_time.specs.Time.{entry}
use Rattle.lrc_trace.specs.declared.act.Act.{Act}
use Rattle.lrc_trace.specs.declared.act.Deed.{Deed}
use Rattle.lrc_trace.specs.declared.act.Deed.TheVariants.{Read, Write}
use Rattle.lrc_trace.specs.declared.trace.Segment.{Segment}
use Rattle.lrc_trace.specs.Run.{Does, count_of, is_arrive, is_depart, departs_before}
use Rattle.lrc_trace.specs.Interval.{closes, interval_at}
use Rattle.lrc_trace.specs.Segments.{MayFollow, AreSegments}
use Rattle.lrc_trace.specs.Synchronization.{IsWellSynchronized, WaitsAtBarriers}
use Rattle.lrc_trace.specs.Trace.{TraceRecord, NotedAccess, IsNoted, MayNote, noted}
use Rattle.lrc_trace.proofs.Positions.{Does-within, Does-longer, Does-shorter, departs_before-prefix}
use Rattle.lrc_trace.proofs.Intervals.{count_of-rises, never_fall}
use Rattle.lrc_trace.proofs.Noted.{same_access, added-to, added-from}
use Rattle.lrc_judge.proofs.Segments.{AccessesBy}
use Rattle.lrc_judge.proofs.Keeping.{one_access}
use Rattle.lrc_clock.specs.Times.{time_at, raised}
use Rattle.lrc_clock.specs.Keeping.{KeepsTime, leaves_time}
use Rattle.lrc_clock.proofs.Epochs.{earlier_epoch_is_covered, same_interval_same_time}
use Rattle.lrc_clock.proofs.Intervals.{interval_of_other}
use Rattle.lrc_clock.proofs.Prefixes.{time_at-prefix}
use Rattle.lrc_reading_laws.proofs.Traced.Notes.{HasSome, segments-noted, some-noted}

-- the access is the node's at a position of the run
pub record IsAccessAt (run : List Act) (times : List (List ℕ)) (node : ℕ) (access : NotedAccess) (position : ℕ) : Type 0 where
  pub does : AccessesBy access.is_write run position node access.word
  pub epoch : access.epoch ≡ departs_before run node position
  pub interval : access.interval ≡ interval_at run node position
  pub time : access.time ≡ raised (time_at times position) node

-- the trace has just the node's accesses, by intervals
pub record IsTraceIn (run : List Act) (times : List (List ℕ)) (node : ℕ) (trace : TraceRecord) : Type 0 where
  pub node_is : trace.node ≡ node
  pub segments : AreSegments trace.segments
  pub some : All (HasSome trace.size) trace.segments
  pub noted_at : (access : NotedAccess) → IsNoted trace access → (position : ℕ) × IsAccessAt run times node access position
  pub at_noted : (access : NotedAccess) (position : ℕ) → IsAccessAt run times node access position → IsNoted trace access

-- ---- accesses

-- the deed of an access, which is none that closes, arrives, departs, or moves the time
pub record IsDeedOf (run : List Act) (position node : ℕ) : Type 0 where
  pub deed : Deed
  pub does : Does run position node deed
  pub open_still : closes deed ≡ false
  pub departs_not : is_depart deed ≡ false
  pub arrives_not : is_arrive deed ≡ false
  pub leaves : leaves_time deed ≡ true

pub deed_by : (is_write : Bool) (run : List Act) (position node word : ℕ) → AccessesBy is_write run position node word → IsDeedOf run position node
deed_by true run position node word (value, d) =
    record { deed = Write word value; does = d; open_still = refl; departs_not = refl; arrives_not = refl; leaves = refl }
deed_by false run position node word (value, d) =
    record { deed = Read word value; does = d; open_still = refl; departs_not = refl; arrives_not = refl; leaves = refl }

access_longer : (is_write : Bool) (run more : List Act) (position node word : ℕ) → AccessesBy is_write run position node word
    → AccessesBy is_write (run ++ more) position node word
access_longer true run more position node word (value, d) = (value, Does-longer more d)
access_longer false run more position node word (value, d) = (value, Does-longer more d)

access_shorter : (is_write : Bool) (run more : List Act) (position node word : ℕ) → position < length run
    → AccessesBy is_write (run ++ more) position node word → AccessesBy is_write run position node word
access_shorter true run more position node word lt (value, d) = (value, Does-shorter more lt d)
access_shorter false run more position node word lt (value, d) = (value, Does-shorter more lt d)

-- ---- a longer run

module _ (run more : List Act) (times later : List (List ℕ)) (timed : length times ≡ length run) (node : ℕ) where
  interval-longer : (position : ℕ) → position ≤ length run → interval_at (run ++ more) node position ≡ interval_at run node position
  interval-longer position le = ap (λ xs. 1 + count_of closes node xs) (take-append-le position run more le)

  time-longer : (position : ℕ) → position < length run → raised (time_at (times ++ later) position) node ≡ raised (time_at times position) node
  time-longer position lt = ap (λ t. raised t node) (time_at-prefix run more times later timed position lt)

  pub at_longer : (access : NotedAccess) (position : ℕ) → IsAccessAt run times node access position
      → IsAccessAt (run ++ more) (times ++ later) node access position
  at_longer access position a =
      let lt : position < length run = Does-within (deed_by access.is_write run position node access.word a.does).does in
      record {
        does = access_longer access.is_write run more position node access.word a.does;
        epoch = a.epoch ∙ sym (departs_before-prefix run more node position (omega (arith, lt)));
        interval = a.interval ∙ sym (interval-longer position (omega (arith, lt)));
        time = a.time ∙ sym (time-longer position lt);
      }

  pub at_shorter : (access : NotedAccess) (position : ℕ) → position < length run → IsAccessAt (run ++ more) (times ++ later) node access position
      → IsAccessAt run times node access position
  at_shorter access position lt a = record {
    does = access_shorter access.is_write run more position node access.word lt a.does;
    epoch = a.epoch ∙ departs_before-prefix run more node position (omega (arith, lt));
    interval = a.interval ∙ interval-longer position (omega (arith, lt));
    time = a.time ∙ time-longer position lt;
  }

  -- where no access of the node comes, its trace stays
  pub stays-traced : (trace : TraceRecord) → IsTraceIn run times node trace
      → ((is_write : Bool) (position word : ℕ) → length run ≤ position → AccessesBy is_write (run ++ more) position node word → ⊥)
      → IsTraceIn (run ++ more) (times ++ later) node trace
  stays-traced trace is none = record {
    node_is = is.node_is;
    segments = is.segments;
    some = is.some;
    noted_at = λ access n. let at : _ = is.noted_at access n in (at.0, at_longer access at.0 at.1);
    at_noted = λ access position a.
        elim (cases_lt position (length run)) [
          | inl lt ↦ is.at_noted access position (at_shorter access position lt a)
          | inr le ↦ absurd (none access.is_write position access.word le a.does)
        ];
  }

-- ---- one access more

module _ {nodes : ℕ} {run : List Act} {times : List (List ℕ)} (keeps : KeepsTime nodes run times) (ws : IsWellSynchronized nodes run)
    (waits : WaitsAtBarriers run) where
  -- of two acts of one interval, neither of which moves the time, each has as many departs before it
  same_epoch : (i j node : ℕ) → i ≤ j → (first : IsDeedOf run i node) → (second : IsDeedOf run j node) → interval_at run node i ≡ interval_at run node j
      → departs_before run node i ≡ departs_before run node j
  same_epoch i j node le first second same =
      let rises : _ = count_of-rises is_depart run node i j le in
      elim (cases_lt (departs_before run node i) (departs_before run node j)) [
        | inl less ↦
            let known : interval_at run node i ≤ entry (time_at times j) node =
            earlier_epoch_is_covered ws waits keeps i j node node first.deed second.deed first.does first.departs_not second.does less in
            let own : interval_at run node j ≡ entry (time_at times j) node + 1 =
            interval_of_other keeps j node second.deed second.does second.open_still in
            absurd (omega (arith, known, own, same))
        | inr ge ↦ omega (arith, rises, ge)
      ]

  -- what is noted at a position comes before what is accessed later
  may_follow : (node i j : ℕ) (s : Segment) (access : NotedAccess) → i ≤ j → IsAccessAt run times node access i → IsDeedOf run j node
      → s.epoch ≡ access.epoch → s.interval ≡ access.interval → s.time ≡ access.time
      → MayFollow s (departs_before run node j) (interval_at run node j) (raised (time_at times j) node)
  may_follow node i j s access le a second e k t =
      let first : IsDeedOf run i node = deed_by access.is_write run i node access.word a.does in
      let rises : _ = never_fall run node i j le in
      elim (cases_lt (interval_at run node i) (interval_at run node j)) [
        | inl less ↦ inl (omega (arith, less, k, a.interval))
        | inr ge ↦
            let same : interval_at run node i ≡ interval_at run node j = omega (arith, rises, ge) in
            inr (
              k ∙ a.interval ∙ same,
              e ∙ a.epoch ∙ same_epoch i j node le first second same,
              t ∙ a.time
                  ∙ ap (λ t. raised t node)
                  (same_interval_same_time ws waits keeps i j node first.deed second.deed first.does first.leaves second.does second.leaves same),
            )
      ]

module _ (run : List Act) (act : Act) (times : List (List ℕ)) (time : List ℕ) (timed : length times ≡ length run) (nodes : ℕ)
    (keeps : KeepsTime nodes (run ++ act ∷ []) (times ++ time ∷ [])) (ws : IsWellSynchronized nodes (run ++ act ∷ []))
    (waits : WaitsAtBarriers (run ++ act ∷ [])) (node : ℕ) where
  abbrev longer : List Act
  longer = run ++ act ∷ []

  abbrev all_times : List (List ℕ)
  all_times = times ++ time ∷ []

  abbrev here : ℕ
  here = length run

  -- the access may be noted after those before it
  may_note : (trace : TraceRecord) (is_write : Bool) (word : ℕ) → IsTraceIn run times node trace → AccessesBy is_write longer here node word
      → MayNote trace.segments (departs_before longer node here) (interval_at longer node here) (raised (time_at all_times here) node)
  may_note trace is_write word is now s last =
      let there : Contains trace.segments s = (
        length trace.segments - 1,
        slice_get_within trace.segments (length trace.segments - 1) s last,
        get_or_from_slice_get trace.segments (length trace.segments - 1) s s last,
      ) in
      let some : HasSome trace.size s = All-contains (HasSome trace.size) trace.segments s is.some there in
      let access : NotedAccess = record { epoch = s.epoch; interval = s.interval; time = s.time; word = some.0; is_write = some.1 } in
      let at : (position : ℕ) × IsAccessAt run times node access position =
      is.noted_at access (record { segment = s; there = there; epoch = refl; interval = refl; time = refl; has = some.2 }) in
      let lt : at.0 < length run = Does-within (deed_by access.is_write run at.0 node access.word at.1.does).does in
      may_follow keeps ws waits node at.0 here s access (omega (arith, lt)) (at_longer run (act ∷ []) times (time ∷ []) timed node access at.0 at.1)
      (deed_by is_write longer here node word now) refl refl refl

  -- the trace once it is noted
  pub noted-traced : (trace : TraceRecord) (is_write : Bool) (epoch interval : ℕ) (stamp : List ℕ) (word : ℕ) → IsTraceIn run times node trace
      → AccessesBy is_write longer here node word → epoch ≡ departs_before longer node here → interval ≡ interval_at longer node here
      → stamp ≡ raised (time_at all_times here) node → IsTraceIn longer all_times node (noted trace epoch interval stamp word is_write)
  noted-traced trace is_write epoch interval stamp word is now e k t =
      let may : MayNote trace.segments epoch interval stamp =
      subst (λ e. MayNote trace.segments e interval stamp) (sym e)
      (subst (λ k. MayNote trace.segments (departs_before longer node here) k stamp) (sym k)
      (subst (λ t. MayNote trace.segments (departs_before longer node here) (interval_at longer node here) t) (sym t)
      (may_note trace is_write word is now))) in
      let this : NotedAccess = record { epoch = epoch; interval = interval; time = stamp; word = word; is_write = is_write } in
      let is_this : IsAccessAt longer all_times node this here = record { does = now; epoch = e; interval = k; time = t } in
      record {
        node_is = is.node_is;
        segments = segments-noted trace epoch interval stamp word is_write is.segments may is.some;
        some = some-noted trace epoch interval stamp word is_write is.segments may is.some;
        noted_at = λ access n.
            ⊎_elim
            (λ old. let at : _ = is.noted_at access old in (at.0, at_longer run (act ∷ []) times (time ∷ []) timed node access at.0 at.1))
            (λ same. (here, subst (λ x. IsAccessAt longer all_times node x here) (sym same) is_this))
            (added-to trace epoch interval stamp word is_write is.segments may access n);
        at_noted = λ access position a.
            elim (cases_lt position here) [
              | inl lt ↦
                  added-from trace epoch interval stamp word is_write is.segments may access
                  (inl (is.at_noted access position (at_shorter run (act ∷ []) times (time ∷ []) timed node access position lt a)))
              | inr ge ↦
                  let long : length longer ≡ length run + 1 = length-append run (act ∷ []) in
                  let within : position < length longer = Does-within (deed_by access.is_write longer position node access.word a.does).does in
                  let at : position ≡ here = omega (arith, ge, within, long) in
                  let b : IsAccessAt longer all_times node access here = subst (IsAccessAt longer all_times node access) at a in
                  let one : _ = one_access longer here access.is_write is_write node node access.word word b.does now in
                  added-from trace epoch interval stamp word is_write is.segments may access
                  (inr (same_access access epoch interval stamp word is_write (b.epoch ∙ sym e) (b.interval ∙ sym k) (b.time ∙ sym t) one.2 one.0))
            ];
      }
