-- A node's time covers those of its acts, and the stamp of a closed interval covers the times of the writes in it.
use Rattle.std.proofs.Common.{◌≡◌, ℕ, ◌+◌, ◌≤◌, List, [], ◌∷◌, ◌++◌, Bool, true, false, length, refl, sym, ap, subst, ◌∙◌, inl, inr, append-nil, arith}
use Rattle.std.specs.Prelude.{◌==◌, Option, Some, None, Contains, slice_get, if◌then◌else◌}
use Rattle.std.proofs.lemmas.List.{get_or_push}
use Rattle.std.proofs.lemmas.List.Elements.{Contains-append_cases}
use Rattle.lrc_program.specs.declared.Program.{Program}
use Rattle.lrc_trace.specs.declared.act.Deed.{Deed}
use Rattle.lrc_trace.specs.declared.act.Deed.TheVariants.{Write}
use Rattle.lrc_trace.specs.Run.{Does, act_of}
use Rattle.lrc_trace.specs.Interval.{interval_at}
use Rattle.lrc_trace.proofs.Positions.{Does-within, Does-cases}
use Rattle.lrc_trace.proofs.Prefixes.{interval_at-prefix}
use Rattle.lrc_exec.specs.Meaning.{Setting}
use Rattle.lrc_time.specs.Time.{entry, Covers}
use Rattle.lrc_time.proofs.Times.{covers-refl, covers-trans, covers-raised, covers-joined_first}
use Rattle.lrc_clock.specs.Times.{time_at, time_before}
use Rattle.lrc_clock.specs.Keeping.{KeepsTime}
use Rattle.lrc_clock.proofs.Covering.{before-covers}
use Rattle.lrc_clock.proofs.Counting.{own_entry_before, entry_bound}
use Rattle.lrc_clock.proofs.Intervals.{interval_of_other}
use Rattle.lrc_clock.proofs.Prefixes.{time_at-prefix}
use Rattle.lrc_store.specs.Store.{StoredRecord}
use Rattle.lrc_copies.specs.Stamps.{stamp_index}
use Rattle.lrc_copies.proofs.Members.{cases_Contains, none_Contains}
use Rattle.lrc_protocol.specs.Times.{next_time}
use Rattle.lrc_protocol.specs.Node.{Wait, nothing, grant, departure, access, upkeep, discard, Node, OptionsRecord}
use Rattle.lrc_protocol.specs.Run.{Input, EntryRecord, Logged, World, Flying, fresh_world, with_turn}
use Rattle.lrc_protocol.proofs.Worlds.{IsEntry, get_set_same}
use Rattle.lrc_protocol.proofs.Induction.{Comes}
use Rattle.lrc_order_laws.specs.Present.{IsPresent}
use Rattle.lrc_order_laws.proofs.Shape.{shape_at}
use Rattle.lrc_order_laws.proofs.Shift.{deed_made}
use Rattle.lrc_order_laws.proofs.Present.{more_acts, more_times}
use Rattle.lrc_order_laws.proofs.PresentTimes.{all_present}
use Rattle.lrc_order_laws.proofs.AllTimely.{Made, made_so}
use Rattle.lrc_order_laws.proofs.Timed.{keeps}
use Rattle.lrc_order_laws.proofs.Reached.{IsReached}
use Rattle.lrc_reading_laws.specs.Written.{made_stamps}
use Rattle.lrc_reading_laws.proofs.Closed.History.{History, one_more, KeptByHistory, by_history, closed_record, closed_by}
use Rattle.lrc_reading_laws.proofs.Laws.{AreKnown, StampsLaw}
use Rattle.lrc_reading_laws.proofs.Lazy.Made.{index_most}

-- ---- the time of a node

-- between its acts a node's time covers that of its last act
pub present-covers : (node : ℕ) (wait : Wait) (last time : List ℕ) → IsPresent node wait last time → Covers time last
present-covers node nothing last time e = subst (λ t. Covers t last) (sym e) (covers-refl last)
present-covers node (grant lock) last time e =
    subst (λ t. Covers t last) (sym e) (covers-raised last node (entry last node + 1) (omega arith))
present-covers node departure last time e = subst (λ t. Covers t last) (sym e) (covers-refl last)
present-covers node (access need) last time e = subst (λ t. Covers t last) (sym e) (covers-refl last)
present-covers node (upkeep collection needs) last time e = subst (λ t. Covers t last) (sym e) (covers-joined_first last collection.time)
present-covers node (discard collection) last time e = subst (λ t. Covers t last) (sym e) (covers-joined_first last collection.time)

module _ (program : Program) (nodes : ℕ) (options : OptionsRecord) (world : World) (r : IsReached program nodes options world) where
  abbrev kept : KeepsTime nodes world.acts world.times
  kept = keeps program nodes options r.events world r.runs

  covers_last : (n : ℕ) (l : Logged) → slice_get world.nodes n ≡ Some l
      → Covers l.node.locks.time (time_before nodes world.acts world.times n (length world.acts))
  covers_last n l at =
      present-covers n l.node.mail.wait (time_before nodes world.acts world.times n (length world.acts)) l.node.locks.time
      ((all_present program nodes options r.events world r.runs).each n l at).present

  -- a node's time covers those of its acts
  pub covers_acts : (n : ℕ) (l : Logged) (k : ℕ) (d : Deed) → slice_get world.nodes n ≡ Some l → Does world.acts k n d
      → Covers l.node.locks.time (time_at world.times k)
  covers_acts n l k d at does =
      covers-trans l.node.locks.time (time_before nodes world.acts world.times n (length world.acts)) (time_at world.times k) (covers_last n l at)
      (before-covers kept k (length world.acts) n d (Does-within does) does)

  -- at no act is more known of a node than the node has closed
  pub own_is_most : (q : ℕ) (l : Logged) (j n : ℕ) (d : Deed) → slice_get world.nodes q ≡ Some l → Does world.acts j n d
      → j + 1 ≡ length world.acts → entry (time_at world.times j) q ≤ entry l.node.locks.time q
  own_is_most q l j n d at does last =
      let bound : _ = entry_bound kept j n d does q in
      let own : _ = own_entry_before kept (length world.acts) q (omega arith) in
      let covers : entry (time_before nodes world.acts world.times q (length world.acts)) q ≤ entry l.node.locks.time q = covers_last q l at q in
      let here : _ = subst (λ m. entry (time_at world.times j) q ≤ entry (time_before nodes world.acts world.times q m) q) last
      (subst (λ c. entry (time_at world.times j) q ≤ c) (sym (own_entry_before kept (j + 1) q (omega (arith, last)))) bound) in
      omega (arith, here, covers)

-- ---- the stamps of closed intervals

-- the stamp of a closed interval covers the time of each write in it
StampsCover : World → List StoredRecord → Type 0
StampsCover world made =
    (x : StoredRecord) (k word value : ℕ) → Contains made x → Does world.acts k x.node (Write word value)
    → interval_at world.acts x.node k ≡ stamp_index made_stamps x → Covers x.stamp (time_at world.times k)

-- what a turn closes is the node's open interval
one_closed : (node : Node) (b : Bool) (x : StoredRecord) → Contains (if b then [] else closed_record node ∷ []) x → x ≡ closed_record node
one_closed node true x c = absurd (none_Contains x c)
one_closed node false x c = elim (cases_Contains (closed_record node) [] x c) [ inl is ↦ sym is | inr later ↦ absurd (none_Contains x later) ]

module _ (program : Program) (nodes : ℕ) (options : OptionsRecord) (stamps : StampsLaw program nodes options) where
  -- one turn
  module _ (world : World) (made : List StoredRecord) (flight : List Flying) (n : ℕ) (l after : Logged) (input : Input) (entry_of : EntryRecord)
      (at : slice_get world.nodes n ≡ Some l) (come : Comes world n input flight) (i : IsEntry l input entry_of after)
      (r : IsReached program nodes options world) (r' : IsReached program nodes options (with_turn world flight n entry_of after))
      (h : History program nodes options world made) (before : StampsCover world made) where
    abbrev world' : World
    world' = with_turn world flight n entry_of after

    abbrev made' : List StoredRecord
    made' = made ++ closed_by l.node after.node

    known : AreKnown nodes made' world'
    known = stamps world' made' (one_more world made flight n l after input entry_of at come i r r' h)

    there : slice_get world'.nodes n ≡ Some after
    there = get_set_same world.nodes n l after at

    me : l.node.setting.me ≡ n
    me = ap (λ (s : Setting). s.me) (shape_at program nodes options r.events world n l r.runs at).setting

    -- a write of this turn is in an interval that is open after it
    open_write : (x : StoredRecord) (word value : ℕ) → Contains made' x → x.node ≡ n → Does world'.acts (length world.acts) n (Write word value)
        → time_at world'.times (length world.acts) ≡ after.node.locks.time
        → interval_at world'.acts n (length world.acts) ≡ stamp_index made_stamps x → ⊥
    open_write x word value c own does time_is inside =
        let most : stamp_index made_stamps x ≤ entry after.node.locks.time x.node =
        index_most made' world' known.are x after c (ap (slice_get world'.nodes) own ∙ there) in
        let next : interval_at world'.acts n (length world.acts) ≡ entry (time_at world'.times (length world.acts)) n + 1 =
        interval_of_other (kept program nodes options world' r') (length world.acts) n (Write word value) does refl in
        let here : entry (time_at world'.times (length world.acts)) n ≡ entry after.node.locks.time x.node =
        ap (λ t. entry t n) time_is ∙ ap (entry after.node.locks.time) (sym own) in
        omega (arith, most, next, here, inside)

    -- a write before this turn
    old_write : (x : StoredRecord) (k word value : ℕ) → Contains made' x → Does world.acts k x.node (Write word value)
        → interval_at world.acts x.node k ≡ stamp_index made_stamps x → Covers x.stamp (time_at world.times k)
    unfolding StampsCover
    old_write x k word value c does inside = elim (Contains-append_cases made (closed_by l.node after.node) x c) [
      | inl old ↦ before x k word value old does inside
      | inr new ↦
          let is : x ≡ closed_record l.node =
          one_closed l.node (entry after.node.locks.time l.node.setting.me == entry l.node.locks.time l.node.setting.me) x new in
          let own : x.node ≡ n = ap (λ (s : StoredRecord). s.node) is ∙ me in
          subst (λ (s : StoredRecord). Covers s.stamp (time_at world.times k)) (sym is)
          (covers-trans (next_time l.node.setting.me l.node.locks.time) l.node.locks.time (time_at world.times k)
          (covers-raised l.node.locks.time l.node.setting.me (entry l.node.locks.time l.node.setting.me + 1) (omega arith))
          (covers_acts program nodes options world r n l k (Write word value) at (subst (λ q. Does world.acts k q (Write word value)) own does)))
    ]

    cover_more : (m : Made world n (deed_made entry_of.turn) after.node.locks.time world') (deed : Option Deed) → m.deed ≡ deed → StampsCover world' made'
    unfolding StampsCover
    cover_more m None none x k word value c does inside =
        let acts_are : world'.acts ≡ world.acts = m.acts_are ∙ ap (λ d. world.acts ++ more_acts n d) none ∙ append-nil world.acts in
        let times_are : world'.times ≡ world.times =
        m.times_are ∙ ap (λ d. world.times ++ more_times n after.node.locks.time d) none ∙ append-nil world.times in
        subst (λ ts. Covers x.stamp (time_at ts k)) (sym times_are)
        (old_write x k word value c (subst (λ run. Does run k x.node (Write word value)) acts_are does)
        (ap (λ run. interval_at run x.node k) (sym acts_are) ∙ inside))
    cover_more m (Some d) some x k word value c does inside =
        let acts_are : world'.acts ≡ world.acts ++ act_of n d ∷ [] = m.acts_are ∙ ap (λ d. world.acts ++ more_acts n d) some in
        let times_are : world'.times ≡ world.times ++ after.node.locks.time ∷ [] =
        m.times_are ∙ ap (λ d. world.times ++ more_times n after.node.locks.time d) some in
        let timed : length world.times ≡ length world.acts = (kept program nodes options world r).timed in
        elim (Does-cases (subst (λ run. Does run k x.node (Write word value)) acts_are does)) [
          | inl (lt, was) ↦
              let same_interval : interval_at world'.acts x.node k ≡ interval_at world.acts x.node k =
              ap (λ run. interval_at run x.node k) acts_are ∙ interval_at-prefix world.acts (act_of n d ∷ []) x.node k (omega (arith, lt)) in
              let same_time : time_at world'.times k ≡ time_at world.times k =
              ap (λ ts. time_at ts k) times_are
              ∙ time_at-prefix world.acts (act_of n d ∷ []) world.times (after.node.locks.time ∷ []) timed k lt in
              subst (Covers x.stamp) (sym same_time) (old_write x k word value c was (sym same_interval ∙ inside))
          | inr (here, own, is) ↦
              let time_is : time_at world'.times (length world.acts) ≡ after.node.locks.time =
              ap (λ ts. time_at ts (length world.acts)) times_are
              ∙ get_or_push world.times after.node.locks.time [] (length world.acts) timed in
              absurd (open_write x word value c (sym own)
              (subst (λ q. Does world'.acts (length world.acts) q (Write word value)) (sym own)
              (subst (λ p. Does world'.acts p x.node (Write word value)) here does))
              time_is
              (ap (λ q. interval_at world'.acts q (length world.acts)) own ∙ ap (interval_at world'.acts x.node) (sym here) ∙ inside))
        ]

  cover-kept : KeptByHistory program nodes options StampsCover
  cover-kept world made flight n l after input entry_of at come i r r' h before =
      let m : Made world n (deed_made entry_of.turn) after.node.locks.time (with_turn world flight n entry_of after) =
      made_so program nodes options world flight n l after input entry_of at i r in
      cover_more world made flight n l after input entry_of at come i r r' h before m m.deed refl

  cover-first : StampsCover (fresh_world program nodes options) []
  unfolding StampsCover
  cover-first x k word value c does inside = absurd (none_Contains x c)

  -- in every history
  pub stamps_cover : (world : World) (made : List StoredRecord) → History program nodes options world made
      → (x : StoredRecord) (k word value : ℕ) → Contains made x → Does world.acts k x.node (Write word value)
      → interval_at world.acts x.node k ≡ stamp_index made_stamps x → Covers x.stamp (time_at world.times k)
  unfolding StampsCover
  stamps_cover world made h = by_history program nodes options StampsCover cover-first cover-kept world made h
