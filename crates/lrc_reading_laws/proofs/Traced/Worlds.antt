-- In every run the trace that a node keeps has just the node's accesses.
use Rattle.std.proofs.Common.{◌≡◌, ℕ, ◌+◌, ◌<◌, ◌≤◌, List, [], ◌∷◌, ◌++◌, Bool, true, false, length, map, refl}
use Rattle.std.proofs.Common.{sym, ap, subst, ◌∙◌, inl, inr, arith, append-nil, length-append}
use Rattle.std.specs.Prelude.{Option, Some, None, option_map, slice_get}
use Rattle.std.specs.Option.{option_to_list}
use Rattle.std.proofs.lemmas.Bool.{cases_eq, both_ways}
use Rattle.std.proofs.lemmas.List.{get_or_push}
use Rattle.std.proofs.lemmas.List.Elements.{All-nil}
use Rattle.std.proofs.lemmas.Option.{same_Some}
use Rattle.lrc_program.specs.declared.Program.{Program}
use Rattle.lrc_time.specs.Time.{entry}
use Rattle.lrc_trace.specs.declared.act.Act.{Act}
use Rattle.lrc_trace.specs.declared.act.Deed.{Deed}
use Rattle.lrc_trace.specs.declared.act.Deed.TheVariants.{Quiet, Print, Read, Write, Acquire, Release, Arrive, Depart, Trap, End}
use Rattle.lrc_trace.specs.Run.{Does, act_of, is_arrive, is_depart, arrives_before, departs_before}
use Rattle.lrc_trace.specs.Interval.{interval_at}
use Rattle.lrc_trace.specs.Synchronization.{IsWellSynchronized, WaitsAtBarriers}
use Rattle.lrc_trace.specs.Trace.{TraceRecord, noted}
use Rattle.lrc_trace.proofs.Positions.{Does-within, Does-last, Does-cases, arrives_before-prefix, departs_before-prefix}
use Rattle.lrc_trace.proofs.Intervals.{count_of-same}
use Rattle.lrc_judge.proofs.Segments.{AccessesBy}
use Rattle.lrc_clock.specs.Times.{time_at, raised}
use Rattle.lrc_clock.specs.Keeping.{KeepsTime}
use Rattle.lrc_clock.proofs.Intervals.{interval_of_other}
use Rattle.lrc_protocol.specs.Times.{next_time}
use Rattle.lrc_protocol.specs.Node.{Node, OptionsRecord, fresh_node, own_index}
use Rattle.lrc_protocol.specs.Run.{Logged, World, fresh_world, with_turn}
use Rattle.lrc_protocol.specs.Traced.{with_act, trace_of}
use Rattle.lrc_protocol.proofs.Worlds.{get_set_same, get_set_other, fresh_at}
use Rattle.lrc_protocol.proofs.Texts.{follows_at}
use Rattle.lrc_protocol.proofs.Turned.{Turned, Turns, turns}
use Rattle.lrc_protocol.proofs.Traces.{trace_more}
use Rattle.lrc_order_laws.proofs.Departs.{counted_at}
use Rattle.lrc_order_laws.proofs.Episodes.{arrivals, departures}
use Rattle.lrc_order_laws.proofs.Reached.{IsReached, KeptByReached, by_reached}
use Rattle.lrc_order_laws.proofs.Timed.{keeps, synchronized, waits}
use Rattle.lrc_reading_laws.proofs.Traced.Runs.{IsTraceIn, IsDeedOf, deed_by, stays-traced, noted-traced}
use Rattle.lrc_reading_laws.proofs.Written.Nodes.{is_me}

-- the run keeps time, is well synchronized, and waits at barriers
record IsOrderly (nodes : ℕ) (run : List Act) (times : List (List ℕ)) : Type 0 where
  keeps_time : KeepsTime nodes run times
  synchronizes : IsWellSynchronized nodes run
  waits_there : WaitsAtBarriers run

-- whether a deed reads or writes
abbrev is_access : Deed → Bool
is_access (Read word value) = true
is_access (Write word value) = true
is_access _ = false

-- ---- nobody's access

-- what is done after the run is done by this act
last_deed : (run : List Act) (act : Act) (position node : ℕ) (deed : Deed) → length run ≤ position → Does (run ++ act ∷ []) position node deed
    → (act.node ≡ node) × (act.deed ≡ deed)
last_deed run act position node deed le d = elim (Does-cases d) [ inl old ↦ absurd (omega (arith, le, old.0)) | inr new ↦ (new.1, new.2) ]

access_deed : (is_write : Bool) (run : List Act) (position node word : ℕ) → AccessesBy is_write run position node word
    → (deed : Deed) × Does run position node deed × (is_access deed ≡ true)
access_deed true run position node word (value, d) = (Write word value, d, refl)
access_deed false run position node word (value, d) = (Read word value, d, refl)

no_access : (run : List Act) (act : Act) (node : ℕ) → ((act.node ≡ node) → is_access act.deed ≡ true → ⊥) → (is_write : Bool) (position word : ℕ)
    → length run ≤ position → AccessesBy is_write (run ++ act ∷ []) position node word → ⊥
no_access run act node none is_write position word le a =
    let d : _ = access_deed is_write (run ++ act ∷ []) position node word a in
    let last : _ = last_deed run act position node d.0 le d.1 in
    none last.0 (ap is_access last.1 ∙ d.2)

nothing_more : (run : List Act) (node : ℕ) (is_write : Bool) (position word : ℕ) → length run ≤ position
    → AccessesBy is_write (run ++ []) position node word → ⊥
nothing_more run node is_write position word le a =
    let d : _ = access_deed is_write (run ++ []) position node word a in
    let within : position < length (run ++ []) = Does-within d.1 in
    let long : length (run ++ []) ≡ length run = ap length (append-nil run) in
    omega (arith, within, long, le)

-- ---- one turn

module _ (run : List Act) (times : List (List ℕ)) (timed : length times ≡ length run) (nodes : ℕ) where
  -- the deeds of a turn of another node leave a node's trace
  other_turn : (n m : ℕ) (d : Option Deed) (time : List ℕ) (trace : TraceRecord) → (n ≡ m → ⊥) → IsTraceIn run times m trace
      → IsTraceIn (run ++ option_to_list (option_map (act_of n) d)) (times ++ map (λ act. time) (option_to_list (option_map (act_of n) d))) m trace
  other_turn n m None time trace ne is = stays-traced run [] times [] timed m trace is (nothing_more run m)
  other_turn n m (Some d) time trace ne is =
      stays-traced run (act_of n d ∷ []) times (time ∷ []) timed m trace is (no_access run (act_of n d) m (λ same a. ne same))

  module _ (n : ℕ) (after : Node) (me : after.setting.me ≡ n) (before : departs_before run n (length run) ≤ arrives_before run n (length run))
      (trace : TraceRecord) (is : IsTraceIn run times n trace) where
    module _ (d : Deed) (orderly : IsOrderly nodes (run ++ act_of n d ∷ []) (times ++ after.locks.time ∷ []))
        (episode : after.barrier.episode ≡ arrives_before (run ++ act_of n d ∷ []) n (length (run ++ act_of n d ∷ []))) where
      abbrev longer : List Act
      longer = run ++ act_of n d ∷ []

      abbrev all_times : List (List ℕ)
      all_times = times ++ after.locks.time ∷ []

      time_here : time_at all_times (length run) ≡ after.locks.time
      time_here = get_or_push times after.locks.time [] (length run) timed

      stamp_is : next_time after.setting.me after.locks.time ≡ raised (time_at all_times (length run)) n
      stamp_is = ap (λ k. raised after.locks.time k) me ∙ ap (λ t. raised t n) (sym time_here)

      interval_is : IsDeedOf longer (length run) n → own_index after + 1 ≡ interval_at longer n (length run)
      interval_is a =
          ap (λ k. entry after.locks.time k + 1) me
          ∙ ap (λ t. entry t n + 1) (sym time_here)
          ∙ sym (interval_of_other orderly.keeps_time (length run) n a.deed a.does a.open_still)

      epoch_is : IsDeedOf longer (length run) n → after.barrier.episode ≡ departs_before longer n (length run)
      epoch_is a =
          let long : length longer ≡ length run + 1 = length-append run (act_of n d ∷ []) in
          let whole : arrives_before longer n (length longer) ≡ arrives_before longer n (length run + 1) = ap (λ k. arrives_before longer n k) long in
          let same : arrives_before longer n (length run + 1) ≡ arrives_before longer n (length run) =
          count_of-same is_arrive longer n (length run) n a.deed a.does (λ e arrives. both_ways (is_arrive a.deed) a.arrives_not arrives) in
          let few : arrives_before longer n (length run) ≤ departs_before longer n (length run) =
          orderly.waits_there.departed (length run) n a.deed a.does a.departs_not in
          let arrived : _ = arrives_before-prefix run (act_of n d ∷ []) n (length run) (omega arith) in
          let departed : _ = departs_before-prefix run (act_of n d ∷ []) n (length run) (omega arith) in
          omega (arith, episode, whole, same, few, arrived, departed, before)

      noted_here : (is_write : Bool) (word : ℕ) → AccessesBy is_write longer (length run) n word
          → IsTraceIn longer all_times n (noted trace after.barrier.episode (own_index after + 1) (next_time after.setting.me after.locks.time) word is_write)
      noted_here is_write word now =
          let a : IsDeedOf longer (length run) n = deed_by is_write longer (length run) n word now in
          noted-traced run (act_of n d) times after.locks.time timed nodes orderly.keeps_time orderly.synchronizes orderly.waits_there n trace is_write
          after.barrier.episode (own_index after + 1) (next_time after.setting.me after.locks.time) word is now (epoch_is a) (interval_is a) stamp_is

      none_here : is_access d ≡ false → IsTraceIn longer all_times n trace
      none_here e =
          stays-traced run (act_of n d ∷ []) times (after.locks.time ∷ []) timed n trace is
          (no_access run (act_of n d) n (λ same a. both_ways (is_access d) e a))

    own_deed : (d : Deed) → IsOrderly nodes (run ++ act_of n d ∷ []) (times ++ after.locks.time ∷ [])
        → after.barrier.episode ≡ arrives_before (run ++ act_of n d ∷ []) n (length (run ++ act_of n d ∷ []))
        → IsTraceIn (run ++ act_of n d ∷ []) (times ++ after.locks.time ∷ []) n (with_act after (Some (act_of n d)) trace)
    own_deed (Read word value) o e = noted_here (Read word value) o e false word (value, Does-last run (act_of n (Read word value)))
    own_deed (Write word value) o e = noted_here (Write word value) o e true word (value, Does-last run (act_of n (Write word value)))
    own_deed Quiet o e = none_here Quiet o e refl
    own_deed (Print v) o e = none_here (Print v) o e refl
    own_deed (Acquire lock) o e = none_here (Acquire lock) o e refl
    own_deed (Release lock) o e = none_here (Release lock) o e refl
    own_deed Arrive o e = none_here Arrive o e refl
    own_deed Depart o e = none_here Depart o e refl
    own_deed (Trap cause) o e = none_here (Trap cause) o e refl
    own_deed End o e = none_here End o e refl

    -- its own turn notes its access, if it makes one
    own_turn : (d : Option Deed)
        → IsOrderly nodes (run ++ option_to_list (option_map (act_of n) d)) (times ++ map (λ act. after.locks.time) (option_to_list (option_map (act_of n) d)))
        → after.barrier.episode
        ≡ arrives_before (run ++ option_to_list (option_map (act_of n) d)) n (length (run ++ option_to_list (option_map (act_of n) d)))
        → IsTraceIn (run ++ option_to_list (option_map (act_of n) d)) (times ++ map (λ act. after.locks.time) (option_to_list (option_map (act_of n) d)))
        n (with_act after (option_map (act_of n) d) trace)
    own_turn None o e = stays-traced run [] times [] timed n trace is (nothing_more run n)
    own_turn (Some d) o e = own_deed d o e

-- ---- every run

module _ (program : Program) (nodes : ℕ) (options : OptionsRecord) where
  -- the trace of each node has its accesses
  pub record AreTraced (world : World) : Type 0 where
    pub each : (n : ℕ) (l : Logged) → slice_get world.nodes n ≡ Some l
        → IsTraceIn world.acts world.times n (trace_of (fresh_node program nodes options n) l.log)

  orderly : (world : World) → IsReached program nodes options world → IsOrderly nodes world.acts world.times
  orderly world r = record {
    keeps_time = keeps program nodes options r.events world r.runs;
    synchronizes = synchronized program nodes options r.events world r.runs;
    waits_there = waits program nodes options r.events world r.runs;
  }

  traced-fresh : AreTraced (fresh_world program nodes options)
  traced-fresh = record {
    each = λ n l at.
        subst (λ (x : Logged). IsTraceIn [] [] n (trace_of (fresh_node program nodes options n) x.log)) (sym (fresh_at program nodes options 0 nodes n l at))
        (record {
          node_is = refl;
          segments = record { rising = λ i j d lt within. absurd (omega (arith, within)); each = All-nil _ };
          some = All-nil _;
          noted_at = λ access noted. absurd (omega (arith, noted.there.1));
          at_noted = λ access position a. absurd (omega (arith, Does-within (deed_by access.is_write [] position n access.word a.does).does));
        });
  }

  traced-kept : KeptByReached program nodes options AreTraced
  traced-kept world flight n l after input logged at comes i r r' traced = record {
    each = λ m k is.
        let next : World = with_turn world flight n logged after in
        let there : slice_get next.nodes n ≡ Some after = get_set_same world.nodes n l after at in
        let turn : Turned l.node logged.turn after.node = subst (Turns l.node) i.turn_is (turns l.node input) in
        let act_is : logged.turn.act ≡ option_map (act_of n) turn.deed =
        turn.act ∙ ap (λ me. option_map (act_of me) turn.deed) (is_me program nodes options world r n l at) in
        let timed : length world.times ≡ length world.acts = (orderly world r).keeps_time.timed in
        let o : IsOrderly nodes next.acts next.times = orderly next r' in
        elim (cases_eq n m) [
          | inl e ↦
              let same : after ≡ k = same_Some after k (sym there ∙ ap (slice_get next.nodes) e ∙ is) in
              let arrived : after.node.barrier.episode ≡ arrives_before next.acts n (length next.acts) =
              arrivals program nodes options r'.events next r'.runs n after there ∙ sym (counted_at is_arrive n next.acts) in
              let before : departs_before world.acts n (length world.acts) ≤ arrives_before world.acts n (length world.acts) =
              let d : _ = departures program nodes options r.events world r.runs n l at in
              let a : _ = counted_at is_arrive n world.acts in
              let b : _ = counted_at is_depart n world.acts in
              omega (arith, a, b, d) in
              let more : IsTraceIn next.acts next.times n
              (with_act after.node logged.turn.act (trace_of (fresh_node program nodes options n) l.log)) =
              subst (λ act. IsTraceIn (world.acts ++ option_to_list act) (world.times ++ map (λ act. after.node.locks.time) (option_to_list act)) n
              (with_act after.node act (trace_of (fresh_node program nodes options n) l.log))) (sym act_is)
              (own_turn world.acts world.times timed nodes n after.node (is_me program nodes options next r' n after there) before
              (trace_of (fresh_node program nodes options n) l.log) (traced.each n l at) turn.deed
              (subst (λ act. IsOrderly nodes (world.acts ++ option_to_list act) (world.times ++ map (λ act. after.node.locks.time) (option_to_list act)))
              act_is o)
              (subst (λ act. after.node.barrier.episode
              ≡ arrives_before (world.acts ++ option_to_list act) n (length (world.acts ++ option_to_list act))) act_is arrived)) in
              let whole : IsTraceIn next.acts next.times n (trace_of (fresh_node program nodes options n) after.log) =
              subst (IsTraceIn next.acts next.times n)
              (sym (trace_more program nodes options n l after input logged i (follows_at program nodes options r.events world r.runs n l at).replayed)) more in
              subst (λ m. IsTraceIn next.acts next.times m (trace_of (fresh_node program nodes options m) k.log)) e
              (subst (λ (x : Logged). IsTraceIn next.acts next.times n (trace_of (fresh_node program nodes options n) x.log)) same whole)
          | inr ne ↦
              subst (λ act. IsTraceIn (world.acts ++ option_to_list act) (world.times ++ map (λ act. after.node.locks.time) (option_to_list act)) m
              (trace_of (fresh_node program nodes options m) k.log)) (sym act_is)
              (other_turn world.acts world.times timed nodes n m turn.deed after.node.locks.time (trace_of (fresh_node program nodes options m) k.log) ne
              (traced.each m k (sym (get_set_other world.nodes n m after ne) ∙ is)))
        ];
  }

  pub all_traced : (world : World) → IsReached program nodes options world → AreTraced world
  all_traced world r = by_reached program nodes options AreTraced traced-kept r.events world traced-fresh r.runs
