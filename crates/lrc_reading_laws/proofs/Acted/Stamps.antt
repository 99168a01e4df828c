-- In every history the stamp of a closed interval is the time of its node where the interval ends, with the own entry one greater.
use Rattle.std.proofs.Common.{◌≡◌, ◌⊎◌, ℕ, ◌+◌, ◌≤◌, List, [], ◌∷◌, ◌++◌, Bool, true, false, length, refl, sym, ap, subst, ◌∙◌, inl, inr, append-nil, arith}
use Rattle.std.specs.Prelude.{◌==◌, Option, Some, None, Contains, slice_get, if◌then◌else◌}
use Rattle.std.proofs.lemmas.Bool.{cases_eq, cases_Bool, eqb-false, false≢true}
use Rattle.std.proofs.lemmas.List.{get_or_push, length_push}
use Rattle.std.proofs.lemmas.List.Elements.{Contains-append_cases}
use Rattle.lrc_program.specs.declared.Program.{Program}
use Rattle.lrc_trace.specs.declared.act.Act.{Act}
use Rattle.lrc_trace.specs.declared.act.Deed.{Deed}
use Rattle.lrc_trace.specs.Run.{Does, act_of}
use Rattle.lrc_trace.specs.Interval.{closes, interval_at}
use Rattle.lrc_trace.proofs.Positions.{Does-last, Does-cases}
use Rattle.lrc_trace.proofs.Intervals.{count_of-more, count_of-same}
use Rattle.lrc_trace.proofs.Prefixes.{interval_at-prefix}
use Rattle.lrc_time.specs.Time.{entry}
use Rattle.lrc_clock.specs.Times.{time_at, time_before, stamp_at, raised}
use Rattle.lrc_clock.specs.Keeping.{KeepsTime}
use Rattle.lrc_clock.specs.Cover.{ClosesAt}
use Rattle.lrc_clock.proofs.Intervals.{interval_of_other, interval_of_closing}
use Rattle.lrc_clock.proofs.Prefixes.{stamp_at-prefix}
use Rattle.lrc_store.specs.Store.{StoredRecord}
use Rattle.lrc_copies.specs.Stamps.{stamp_index}
use Rattle.lrc_copies.proofs.Members.{none_Contains}
use Rattle.lrc_protocol.specs.Times.{next_time}
use Rattle.lrc_protocol.specs.Locks.{Locks}
use Rattle.lrc_protocol.specs.Node.{Wait, nothing, OptionsRecord}
use Rattle.lrc_protocol.specs.Run.{Input, EntryRecord, Logged, World, Flying, fresh_world, with_turn}
use Rattle.lrc_protocol.proofs.Worlds.{IsEntry, get_set_same}
use Rattle.lrc_protocol.proofs.Induction.{Comes}
use Rattle.lrc_order_laws.specs.Present.{IsPresent}
use Rattle.lrc_order_laws.proofs.Counts.{learned_entry}
use Rattle.lrc_order_laws.proofs.Shift.{Part, part_of, Shift, Shifted, ShiftedIf, shifts, deed_made, plain, misses, takes, asks, releasing, arriving}
use Rattle.lrc_order_laws.proofs.Shift.{manages, forwarding, grants, departing, collecting, clean_at_once, discarding, accessing, still_misses}
use Rattle.lrc_order_laws.proofs.Shift.{still_collects, cleaning, rests}
use Rattle.lrc_order_laws.proofs.Present.{more_acts, more_times, last_other}
use Rattle.lrc_order_laws.proofs.PresentTimes.{all_present}
use Rattle.lrc_order_laws.proofs.AllTimely.{Made, made_so}
use Rattle.lrc_order_laws.proofs.Timed.{keeps}
use Rattle.lrc_order_laws.proofs.Reached.{IsReached}
use Rattle.lrc_reading_laws.specs.Written.{made_stamps}
use Rattle.lrc_reading_laws.proofs.Laws.{AreKnown, StampsLaw}
use Rattle.lrc_reading_laws.proofs.Closed.History.{History, one_more, KeptByHistory, by_history, closed_record, closed_by}
use Rattle.lrc_reading_laws.proofs.Stamped.Made.{closed-index}
use Rattle.lrc_reading_laws.proofs.Stamped.Worlds.{Placed, placed}
use Rattle.lrc_reading_laws.proofs.Fitting.Worlds.{closed-is}
use Rattle.lrc_reading_laws.proofs.Lazy.Made.{index_most}
use Rattle.lrc_reading_laws.proofs.Lazy.Times.{covers_acts}

-- the node's interval with this index ends at a position: it is closed there, or it is the one in which the acts end
abbrev EndsAt : List Act → ℕ → ℕ → ℕ → Type 0
EndsAt acts node index j = ClosesAt acts node index j ⊎ ((j ≡ length acts) × (interval_at acts node j ≡ index))

-- ---- one act more

module _ (nodes : ℕ) (acts : List Act) (times : List (List ℕ)) (kept : KeepsTime nodes acts times) (n : ℕ) (d : Deed) (time : List ℕ)
    (kept' : KeepsTime nodes (acts ++ act_of n d ∷ []) (times ++ time ∷ [])) where
  abbrev run : List Act
  run = acts ++ act_of n d ∷ []

  abbrev run_times : List (List ℕ)
  run_times = times ++ time ∷ []

  last : Does run (length acts) n d
  last = Does-last acts (act_of n d)

  time_is : time_at run_times (length acts) ≡ time
  time_is = get_or_push times time [] (length acts) kept.timed

  -- after the act its node is in the interval behind those that its time counts
  own_next : interval_at run n (length acts + 1) ≡ entry time n + 1
  own_next = elim (cases_Bool (closes d)) [
    | inl closing ↦
        let more : _ = count_of-more closes run n (length acts) d last closing in
        let here : interval_at run n (length acts) ≡ entry time n =
        interval_of_closing kept' (length acts) n d last closing ∙ ap (λ t. entry t n) time_is in
        omega (arith, more, here)
    | inr goes_on ↦
        let same : _ = count_of-same closes run n (length acts) n d last (λ own closing. false≢true (sym goes_on ∙ closing)) in
        let here : interval_at run n (length acts) ≡ entry time n + 1 =
        interval_of_other kept' (length acts) n d last goes_on ∙ ap (λ t. entry t n + 1) time_is in
        omega (arith, same, here)
  ]

  -- any other node is in the same interval as before
  other_next : (q : ℕ) → (n ≡ q → ⊥) → interval_at run q (length acts + 1) ≡ interval_at acts q (length acts)
  other_next q ne =
      let same : _ = count_of-same closes run q (length acts) n d last (λ own closing. ne own) in
      let before : interval_at run q (length acts) ≡ interval_at acts q (length acts) =
      interval_at-prefix acts (act_of n d ∷ []) q (length acts) (omega arith) in
      omega (arith, same, before)

  module _ (q index : ℕ) (stamp : List ℕ) (most : n ≡ q → index ≤ entry time q)
      (was : (k : ℕ) → EndsAt acts q index k → stamp ≡ stamp_at nodes acts times q k) where
    at_last : interval_at run q (length acts) ≡ index → stamp ≡ stamp_at nodes run run_times q (length acts)
    at_last inside =
        was (length acts) (inr (refl, sym (interval_at-prefix acts (act_of n d ∷ []) q (length acts) (omega arith)) ∙ inside))
        ∙ sym (stamp_at-prefix acts (act_of n d ∷ []) times (time ∷ []) kept.timed nodes q (length acts) (omega arith))

    closed_still : (j : ℕ) → ClosesAt run q index j → stamp ≡ stamp_at nodes run run_times q j
    closed_still j c = elim (Does-cases c.does) [
      | inl (lt, does) ↦
          was j (inl (record {
            deed = c.deed;
            does = does;
            closing = c.closing;
            interval = sym (interval_at-prefix acts (act_of n d ∷ []) q j (omega (arith, lt))) ∙ c.interval;
          }))
          ∙ sym (stamp_at-prefix acts (act_of n d ∷ []) times (time ∷ []) kept.timed nodes q j (omega (arith, lt)))
      | inr (here, own, is) ↦
          at_last (ap (interval_at run q) (sym here) ∙ c.interval) ∙ ap (stamp_at nodes run run_times q) (sym here)
    ]

    open_still : interval_at run q (length run) ≡ index → stamp ≡ stamp_at nodes run run_times q (length run)
    open_still inside =
        let long : length run ≡ length acts + 1 = length_push acts (act_of n d) in
        let next : interval_at run q (length acts + 1) ≡ index = ap (interval_at run q) (sym long) ∙ inside in
        elim (cases_eq n q) [
          | inl own ↦
              let few : index ≤ entry time q = most own in
              let more : interval_at run q (length acts + 1) ≡ entry time q + 1 =
              subst (λ m. interval_at run m (length acts + 1) ≡ entry time m + 1) own own_next in
              absurd (omega (arith, next, few, more))
          | inr ne ↦
              was (length acts) (inr (refl, sym (other_next q ne) ∙ next))
              ∙ ap (λ t. raised t q) (sym (last_other nodes acts times kept.timed n time q ne (Some d)))
        ]

    pub ends_still : (j : ℕ) → EndsAt run q index j → stamp ≡ stamp_at nodes run run_times q j
    ends_still j (inl closed) = closed_still j closed
    ends_still j (inr (end, inside)) =
        open_still (ap (interval_at run q) (sym end) ∙ inside) ∙ ap (stamp_at nodes run run_times q) (sym end)

-- ---- one turn

-- who closes an interval waited for nothing
closes_idle : (p : Part) (acts : Bool) (wait : Wait) (locks : Locks) (episode : ℕ) → Shift p acts wait locks episode
    → (entry locks.time p.me ≡ entry p.locks.time p.me → ⊥) → p.wait ≡ nothing
closes_idle p _ _ _ _ (plain next w n is) ne = w
closes_idle p _ _ _ _ (misses w n) ne = w
closes_idle p _ _ _ _ (takes lock w n free) ne = w
closes_idle p _ _ _ _ (asks w n away) ne = w
closes_idle p _ _ _ _ (releasing lock next w n) ne = w
closes_idle p _ _ _ _ (arriving next w n) ne = w
closes_idle p _ _ _ _ (manages lock from) ne = absurd (ne refl)
closes_idle p _ _ _ _ (forwarding lock asker time) ne = absurd (ne refl)
closes_idle p _ _ _ _ (grants lock time w l) ne = absurd (ne (learned_entry p time l))
closes_idle p _ _ _ _ (departing time w l) ne = absurd (ne (learned_entry p time l))
closes_idle p _ _ _ _ (collecting time w l same) ne = absurd (ne (learned_entry p time l))
closes_idle p _ _ _ _ (clean_at_once time w l same) ne = absurd (ne (learned_entry p time l))
closes_idle p _ _ _ _ (discarding collection w) ne = absurd (ne refl)
closes_idle p _ _ _ _ (accessing need w) ne = absurd (ne refl)
closes_idle p _ _ _ _ (still_misses before w) ne = absurd (ne refl)
closes_idle p _ _ _ _ (still_collects before had w same) ne = absurd (ne refl)
closes_idle p _ _ _ _ (cleaning before had w same) ne = absurd (ne refl)
closes_idle p _ _ _ _ rests ne = absurd (ne refl)

some_closed : (b : Bool) (x y : StoredRecord) → Contains (if b then [] else y ∷ []) x → b ≡ false
some_closed true x y c = absurd (none_Contains x c)
some_closed false x y c = refl

module _ (program : Program) (nodes : ℕ) (options : OptionsRecord) (stamps : StampsLaw program nodes options) where
  StampsEnd : World → List StoredRecord → Type 0
  StampsEnd world made =
      (x : StoredRecord) (j : ℕ) → Contains made x → EndsAt world.acts x.node (stamp_index made_stamps x) j
      → x.stamp ≡ stamp_at nodes world.acts world.times x.node j

  module _ (world : World) (made : List StoredRecord) (flight : List Flying) (n : ℕ) (l after : Logged) (input : Input) (entry_of : EntryRecord)
      (at : slice_get world.nodes n ≡ Some l) (come : Comes world n input flight) (i : IsEntry l input entry_of after)
      (r : IsReached program nodes options world) (r' : IsReached program nodes options (with_turn world flight n entry_of after))
      (h : History program nodes options world made) (before : StampsEnd world made) where
    abbrev world' : World
    world' = with_turn world flight n entry_of after

    abbrev new : List StoredRecord
    new = closed_by l.node after.node

    kept : KeepsTime nodes world.acts world.times
    kept = keeps program nodes options r.events world r.runs

    kept' : KeepsTime nodes world'.acts world'.times
    kept' = keeps program nodes options r'.events world' r'.runs

    is_here : Placed nodes n l.node
    is_here = placed program nodes options world r n l at

    known' : AreKnown nodes (made ++ new) world'
    known' = stamps world' (made ++ new) (one_more world made flight n l after input entry_of at come i r r' h)

    -- no interval of the node is beyond its own entry
    most : (x : StoredRecord) → Contains (made ++ new) x → n ≡ x.node → stamp_index made_stamps x ≤ entry after.node.locks.time x.node
    most x c own =
        index_most (made ++ new) world' known'.are x after c (ap (slice_get world'.nodes) (sym own) ∙ get_set_same world.nodes n l after at)

    -- ---- the interval that the turn closes

    idle : (x : StoredRecord) → Contains new x → l.node.mail.wait ≡ nothing
    idle x fresh =
        let me : ℕ = l.node.setting.me in
        let shifted : Shifted l.node entry_of.turn after.node = subst (ShiftedIf l.node) i.turn_is (shifts l.node input) in
        let apart : (entry after.node.locks.time me == entry l.node.locks.time me) ≡ false =
        some_closed (entry after.node.locks.time me == entry l.node.locks.time me) x (closed_record l.node) fresh in
        closes_idle (part_of l.node) shifted.acts after.node.mail.wait after.node.locks after.node.barrier.episode shifted.shift
        (eqb-false (entry after.node.locks.time me) (entry l.node.locks.time me) apart)

    shut_at : Contains new (closed_record l.node) → next_time l.node.setting.me l.node.locks.time ≡ stamp_at nodes world.acts world.times n (length world.acts)
    shut_at fresh =
        let last : List ℕ = time_before nodes world.acts world.times n (length world.acts) in
        let present : IsPresent n l.node.mail.wait last l.node.locks.time =
        ((all_present program nodes options r.events world r.runs).each n l at).present in
        let time_is : l.node.locks.time ≡ last =
        subst (λ wait. IsPresent n wait last l.node.locks.time) (idle (closed_record l.node) fresh) present in
        ap (λ me. next_time me l.node.locks.time) is_here.me ∙ ap (next_time n) time_is

    -- no act before the turn closes it
    not_before : (j : ℕ) → ClosesAt world.acts n (entry l.node.locks.time n + 1) j → ⊥
    not_before j c =
        let index : interval_at world.acts n j ≡ entry (time_at world.times j) n = interval_of_closing kept j n c.deed c.does c.closing in
        let few : entry (time_at world.times j) n ≤ entry l.node.locks.time n = covers_acts program nodes options world r n l j c.deed at c.does n in
        let inside : interval_at world.acts n j ≡ entry l.node.locks.time n + 1 = c.interval in
        omega (arith, index, few, inside)

    shut_index : stamp_index made_stamps (closed_record l.node) ≡ entry l.node.locks.time n + 1
    shut_index = closed-index nodes n l.node is_here ∙ ap (λ me. entry l.node.locks.time me + 1) is_here.me

    shut_ends : Contains new (closed_record l.node) → (j : ℕ)
        → EndsAt world.acts (closed_record l.node).node (stamp_index made_stamps (closed_record l.node)) j
        → (closed_record l.node).stamp ≡ stamp_at nodes world.acts world.times (closed_record l.node).node j
    shut_ends fresh j ends =
        subst (λ me. next_time l.node.setting.me l.node.locks.time ≡ stamp_at nodes world.acts world.times me j) (sym is_here.me)
        (by_end
        (subst (λ me. EndsAt world.acts me (entry l.node.locks.time n + 1) j) is_here.me
        (subst (λ index. EndsAt world.acts l.node.setting.me index j) shut_index ends)))
      where
        by_end : EndsAt world.acts n (entry l.node.locks.time n + 1) j
            → next_time l.node.setting.me l.node.locks.time ≡ stamp_at nodes world.acts world.times n j
        by_end (inl closed) = absurd (not_before j closed)
        by_end (inr (end, inside)) = shut_at fresh ∙ ap (stamp_at nodes world.acts world.times n) (sym end)

    -- by the acts before the turn
    ends_before : (x : StoredRecord) → Contains (made ++ new) x → (j : ℕ) → EndsAt world.acts x.node (stamp_index made_stamps x) j
        → x.stamp ≡ stamp_at nodes world.acts world.times x.node j
    unfolding StampsEnd
    ends_before x c j ends = elim (Contains-append_cases made new x c) [
      | inl old ↦ before x j old ends
      | inr fresh ↦
          let is : closed_record l.node ≡ x = closed-is l.node after.node x fresh in
          subst
          (λ (y : StoredRecord). Contains new y → (j : ℕ) → EndsAt world.acts y.node (stamp_index made_stamps y) j
          → y.stamp ≡ stamp_at nodes world.acts world.times y.node j)
          is shut_ends fresh j ends
    ]

    ends_after : (m : Made world n (deed_made entry_of.turn) after.node.locks.time world') (deed : Option Deed) → m.deed ≡ deed
        → StampsEnd world' (made ++ new)
    unfolding StampsEnd
    ends_after m None none x j c ends =
        let acts_are : world'.acts ≡ world.acts = m.acts_are ∙ ap (λ d. world.acts ++ more_acts n d) none ∙ append-nil world.acts in
        let times_are : world'.times ≡ world.times =
        m.times_are ∙ ap (λ d. world.times ++ more_times n after.node.locks.time d) none ∙ append-nil world.times in
        ends_before x c j (subst (λ acts. EndsAt acts x.node (stamp_index made_stamps x) j) acts_are ends)
        ∙ ap (λ acts. stamp_at nodes acts world.times x.node j) (sym acts_are)
        ∙ ap (λ times. stamp_at nodes world'.acts times x.node j) (sym times_are)
    ends_after m (Some d) some x j c ends =
        let acts_are : world'.acts ≡ world.acts ++ act_of n d ∷ [] = m.acts_are ∙ ap (λ d. world.acts ++ more_acts n d) some in
        let times_are : world'.times ≡ world.times ++ after.node.locks.time ∷ [] =
        m.times_are ∙ ap (λ d. world.times ++ more_times n after.node.locks.time d) some in
        let kept_then : KeepsTime nodes (world.acts ++ act_of n d ∷ []) (world.times ++ after.node.locks.time ∷ []) =
        subst (λ acts. KeepsTime nodes acts (world.times ++ after.node.locks.time ∷ [])) acts_are
        (subst (λ times. KeepsTime nodes world'.acts times) times_are kept') in
        ends_still nodes world.acts world.times kept n d after.node.locks.time kept_then x.node (stamp_index made_stamps x) x.stamp (most x c)
        (ends_before x c) j (subst (λ acts. EndsAt acts x.node (stamp_index made_stamps x) j) acts_are ends)
        ∙ ap (λ acts. stamp_at nodes acts (world.times ++ after.node.locks.time ∷ []) x.node j) (sym acts_are)
        ∙ ap (λ times. stamp_at nodes world'.acts times x.node j) (sym times_are)

  ends_kept : KeptByHistory program nodes options StampsEnd
  ends_kept world made flight n l after input entry_of at come i r r' h before =
      let m : Made world n (deed_made entry_of.turn) after.node.locks.time (with_turn world flight n entry_of after) =
      made_so program nodes options world flight n l after input entry_of at i r in
      ends_after world made flight n l after input entry_of at come i r r' h before m m.deed refl

  ends_first : StampsEnd (fresh_world program nodes options) []
  unfolding StampsEnd
  ends_first x j c ends = absurd (none_Contains x c)

  all_end : (world : World) (made : List StoredRecord) → History program nodes options world made → (x : StoredRecord) (j : ℕ) → Contains made x
      → EndsAt world.acts x.node (stamp_index made_stamps x) j → x.stamp ≡ stamp_at nodes world.acts world.times x.node j
  unfolding StampsEnd
  all_end world made h = by_history program nodes options StampsEnd ends_first ends_kept world made h

  -- where the interval is closed
  pub stamped_by : (world : World) (made : List StoredRecord) → History program nodes options world made → (x : StoredRecord) (j : ℕ)
      → Contains made x → ClosesAt world.acts x.node (stamp_index made_stamps x) j → x.stamp ≡ stamp_at nodes world.acts world.times x.node j
  stamped_by world made h x j c closed = all_end world made h x j c (inl closed)

  -- and where the act that closes it is still to come
  pub waiting_by : (world : World) (made : List StoredRecord) → History program nodes options world made → (x : StoredRecord) → Contains made x
      → interval_at world.acts x.node (length world.acts) ≡ stamp_index made_stamps x
      → x.stamp ≡ stamp_at nodes world.acts world.times x.node (length world.acts)
  waiting_by world made h x c inside = all_end world made h x (length world.acts) c (inr (refl, inside))
