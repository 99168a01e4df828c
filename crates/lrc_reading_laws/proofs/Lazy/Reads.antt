-- Every run reads lazily: a read gives a word of a copy that fits what its node's time covers, and the time covers just the
-- intervals whose writes happen before the read.
use Rattle.std.proofs.Common.{◌≡◌, ◌⊎◌, ℕ, ◌+◌, ◌<◌, ◌≤◌, List, [], ◌∷◌, ◌++◌, true, length, refl, sym, ap, subst, ◌∙◌, inl, inr, append-nil, arith}
use Rattle.std.specs.Prelude.{Option, Some, None, IsTrue, All, Contains, slice_get, slice_index_or}
use Rattle.std.proofs.lemmas.Bool.{cases_lt}
use Rattle.std.proofs.lemmas.List.{get_or_push, get_or_past, length_push}
use Rattle.lrc_program.specs.declared.Program.{Program}
use Rattle.lrc_trace.specs.declared.act.Act.{Act}
use Rattle.lrc_trace.specs.declared.act.Deed.{Deed}
use Rattle.lrc_trace.specs.declared.act.Deed.TheVariants.{Read, Write}
use Rattle.lrc_trace.specs.Run.{Does, act_of}
use Rattle.lrc_trace.specs.Order.{HappensBefore}
use Rattle.lrc_trace.specs.Interval.{interval_at}
use Rattle.lrc_trace.specs.Reading.{MayRead, ReadsLazily}
use Rattle.lrc_trace.specs.Synchronization.{IsWellSynchronized}
use Rattle.lrc_trace.proofs.Positions.{Does-within, Does-last, Does-cases}
use Rattle.lrc_trace.proofs.Intervals.{never_fall}
use Rattle.lrc_trace.proofs.Prefixes.{ReadsLazily-more}
use Rattle.lrc_exec.specs.Meaning.{Setting}
use Rattle.lrc_exec.specs.Plain.{setting_of}
use Rattle.lrc_page.specs.Page.{words_of}
use Rattle.lrc_page.specs.Place.{page_of, offset_of}
use Rattle.lrc_page.proofs.PageLists.{offset_of-within}
use Rattle.lrc_time.specs.Time.{entry, Covers}
use Rattle.lrc_time.proofs.Times.{entry-set_same, covers-trans, covers-raised}
use Rattle.lrc_clock.specs.Times.{time_at}
use Rattle.lrc_clock.specs.Keeping.{KeepsTime}
use Rattle.lrc_clock.proofs.Ordering.{order_to_cover, cover_to_order}
use Rattle.lrc_clock.proofs.Intervals.{interval_of_other}
use Rattle.lrc_store.specs.Store.{StoredRecord}
use Rattle.lrc_copies.specs.Stamps.{stamp_index, stamps_covered, covered}
use Rattle.lrc_copies.specs.Reading.{IsLastWriteIn, ListsWrites}
use Rattle.lrc_copies.proofs.Members.{Contains-first, Contains-later, cases_Contains, Contains-filter, Contains-from_filter}
use Rattle.lrc_copies.proofs.Stamping.{covered-le, le-covered}
use Rattle.lrc_copies.proofs.Lazily.{copy_may_read}
use Rattle.lrc_protocol.specs.Times.{next_time}
use Rattle.lrc_protocol.specs.Pages.{Copy, absent, is_readable, values_of, copy_at, value_at}
use Rattle.lrc_protocol.specs.Node.{OptionsRecord}
use Rattle.lrc_protocol.specs.Run.{Input, EntryRecord, Logged, World, Flying, fresh_world, with_turn}
use Rattle.lrc_protocol.specs.Follows.{turns_of}
use Rattle.lrc_protocol.proofs.Ruled.{by_rule}
use Rattle.lrc_protocol.proofs.Worlds.{IsEntry, get_set_same, run-whole}
use Rattle.lrc_protocol.proofs.Induction.{Comes}
use Rattle.lrc_order_laws.proofs.Pending.{get_within}
use Rattle.lrc_order_laws.proofs.Shape.{NodeShape, shape_at}
use Rattle.lrc_order_laws.proofs.Shift.{deed_made}
use Rattle.lrc_order_laws.proofs.Present.{more_acts, more_times}
use Rattle.lrc_order_laws.proofs.AllTimely.{Made, made_so}
use Rattle.lrc_order_laws.proofs.Timed.{keeps, synchronized}
use Rattle.lrc_order_laws.proofs.Reached.{IsReached}
use Rattle.lrc_node_laws.specs.Ranges.{IsWholeCopy}
use Rattle.lrc_node_laws.proofs.Always.{whole_at, known_at}
use Rattle.lrc_node_laws.proofs.Whole.{readable-long}
use Rattle.lrc_reading_laws.specs.Written.{made_stamps, last_write, word_on, changes_on}
use Rattle.lrc_reading_laws.proofs.Written.History.{open_record}
use Rattle.lrc_reading_laws.proofs.Written.Pages.{word_on-page_of}
use Rattle.lrc_reading_laws.proofs.Closed.Stored.{reached}
use Rattle.lrc_reading_laws.proofs.Stamped.Lists.{found_once}
use Rattle.lrc_reading_laws.proofs.Closed.History.{History, one_more, KeptByHistory, by_history, reached_by, history_of, closed_by}
use Rattle.lrc_reading_laws.proofs.Laws.{AreKnown, StampsLaw, CopiesLaw, ReadsLaw}
use Rattle.lrc_reading_laws.proofs.Lazy.Writes.{IsLastIn, last_write-some, last_write-none}
use Rattle.lrc_reading_laws.proofs.Lazy.Made.{member_at}
use Rattle.lrc_reading_laws.proofs.Lazy.Times.{covers_acts, own_is_most, stamps_cover}
use Rattle.lrc_reading_laws.proofs.Lazy.Turns.{HasRead, has_read}

-- ---- copies

-- a page that can be read is there
readable-there : (copies : List Copy) (page : ℕ) → is_readable (slice_index_or copies page absent) ≡ true → page < length copies
readable-there copies page r = elim (cases_lt page (length copies)) [
  | inl lt ↦ lt
  | inr le ↦
      let never : is_readable absent ≡ true = subst (λ copy. is_readable copy ≡ true) (get_or_past copies page absent le) r in cc
]

module _ (program : Program) (nodes : ℕ) (options : OptionsRecord) (stamps : StampsLaw program nodes options) (copies : CopiesLaw program nodes options) where
  -- ---- a world whose last act is a read

  module _ (world : World) (made : List StoredRecord) (h : History program nodes options world made) (acts : List Act) (n word value : ℕ)
      (acts_are : world.acts ≡ acts ++ act_of n (Read word value) ∷ []) (l : Logged) (at : slice_get world.nodes n ≡ Some l)
      (time_is : time_at world.times (length acts) ≡ l.node.locks.time) (has : HasRead l.node.options.size l.node.memory word value) where
    r : IsReached program nodes options world
    r = reached_by program nodes options world made h

    kept : KeepsTime nodes world.acts world.times
    kept = keeps program nodes options r.events world r.runs

    in_order : IsWellSynchronized nodes world.acts
    in_order = synchronized program nodes options r.events world r.runs

    known : AreKnown nodes made world
    known = stamps world made h

    shape : NodeShape (setting_of program nodes n) options (record { node = l.node; turns = turns_of l.log })
    shape = shape_at program nodes options r.events world n l r.runs at

    me : l.node.setting.me ≡ n
    me = ap (λ (s : Setting). s.me) shape.setting

    abbrev j : ℕ
    j = length acts

    abbrev time : List ℕ
    time = l.node.locks.time

    abbrev opened : StoredRecord
    opened = open_record l.node

    abbrev xs : List StoredRecord
    xs = opened ∷ covered made_stamps time made

    here : Does world.acts j n (Read word value)
    here = subst (λ run. Does run j n (Read word value)) (sym acts_are) (Does-last acts (act_of n (Read word value)))

    last_is : j + 1 ≡ length world.acts
    last_is = let long : _ = length_push acts (act_of n (Read word value)) in let e : _ = ap length acts_are in omega (arith, long, e)

    in_nodes : (q : ℕ) → q < nodes → q < length world.nodes
    in_nodes q lt = subst (λ k. q < k) (sym (run-whole program nodes options r.events world r.runs).count) lt

    -- the read is in the node's open interval
    opened_index : stamp_index made_stamps opened ≡ entry time n + 1
    opened_index =
        let long : length time ≡ nodes = shape.shape.times in
        let lt : n < nodes = kept.in_range j n (Read word value) here in
        let within : l.node.setting.me < length time = omega (arith, long, lt, me) in
        entry-set_same time l.node.setting.me (entry time l.node.setting.me + 1) within ∙ ap (λ q. entry time q + 1) me

    read_index : interval_at world.acts n j ≡ entry time n + 1
    read_index = interval_of_other kept j n (Read word value) here refl ∙ ap (λ t. entry t n + 1) time_is

    -- ---- the members of the list

    -- what the time covers was closed
    closed_there : (i other : ℕ) (d : Deed) → Does world.acts i other d → interval_at world.acts other i ≤ entry time other
        → (a : StoredRecord) × Contains xs a × (a.node ≡ other) × (stamp_index made_stamps a ≡ interval_at world.acts other i)
    closed_there i other d does le =
        let lq : (x : Logged) × (slice_get world.nodes other ≡ Some x) =
        get_within world.nodes other (in_nodes other (kept.in_range i other d does)) in
        let most : entry (time_at world.times j) other ≤ entry lq.0.node.locks.time other =
        own_is_most program nodes options world r other lq.0 j n (Read word value) lq.1 here last_is in
        let upto : entry time other ≤ entry lq.0.node.locks.time other = subst (λ t. entry t other ≤ entry lq.0.node.locks.time other) time_is most in
        let m : (x : StoredRecord) × Contains made x × (x.node ≡ other) × (stamp_index made_stamps x ≡ interval_at world.acts other i) =
        member_at made world known.are other (interval_at world.acts other i) lq.0 lq.1 (omega arith) (omega (arith, le, upto)) in
        let under : stamp_index made_stamps m.0 ≤ entry time m.0.node =
        subst (λ q. stamp_index made_stamps m.0 ≤ entry time q) (sym m.2) (omega (arith, le, m.3)) in (
          m.0,
          Contains-later opened (covered made_stamps time made) m.0
              (Contains-filter (stamps_covered made_stamps time) made m.0 m.1 (le-covered made_stamps time m.0 under)),
          m.2,
          m.3,
        )

    own_there : (i : ℕ) (d : Deed) → i < j → Does world.acts i n d
        → (a : StoredRecord) × Contains xs a × (a.node ≡ n) × (stamp_index made_stamps a ≡ interval_at world.acts n i)
    own_there i d lt does = elim (cases_lt (entry time n) (interval_at world.acts n i)) [
      | inr le ↦ closed_there i n d does le
      | inl above ↦
          let rises : interval_at world.acts n i ≤ interval_at world.acts n j = never_fall world.acts n i j (omega (arith, lt)) in
          (opened, Contains-first opened (covered made_stamps time made), me, omega (arith, above, rises, read_index, opened_index))
    ]

    listed : (i other v : ℕ) → i < j → Does world.acts i other (Write word v) → (other ≡ n) ⊎ (interval_at world.acts other i ≤ entry time other)
        → (a : StoredRecord) × Contains xs a × (a.node ≡ other) × (stamp_index made_stamps a ≡ interval_at world.acts other i)
    listed i other v lt does (inr le) = closed_there i other (Write word v) does le
    listed i other v lt does (inl own) =
        subst (λ q. (a : StoredRecord) × Contains xs a × (a.node ≡ q) × (stamp_index made_stamps a ≡ interval_at world.acts q i)) (sym own)
        (own_there i (Write word v) lt (subst (λ q. Does world.acts i q (Write word v)) own does))

    cases_listed : (a : StoredRecord) → Contains xs a → (opened ≡ a) ⊎ (Contains made a × IsTrue (stamps_covered made_stamps time a))
    cases_listed a c = elim (cases_Contains opened (covered made_stamps time made) a c) [
      | inl is ↦ inl is
      | inr later ↦ inr (Contains-from_filter (stamps_covered made_stamps time) made a later)
    ]

    -- the open interval is none of those that were closed
    not_opened : (a b : StoredRecord) → opened ≡ a → IsTrue (stamps_covered made_stamps time b) → a.node ≡ b.node
        → stamp_index made_stamps a ≡ stamp_index made_stamps b → ⊥
    not_opened a b is under nodes_are same =
        let own : b.node ≡ n = sym nodes_are ∙ ap (λ (x : StoredRecord). x.node) (sym is) ∙ me in
        let index : stamp_index made_stamps a ≡ entry time n + 1 = ap (stamp_index made_stamps) (sym is) ∙ opened_index in
        let most : stamp_index made_stamps b ≤ entry time n =
        subst (λ q. stamp_index made_stamps b ≤ entry time q) own (covered-le made_stamps time b under) in
        omega (arith, index, most, same)

    one : (a b : StoredRecord) → Contains xs a → Contains xs b → a.node ≡ b.node → stamp_index made_stamps a ≡ stamp_index made_stamps b → a ≡ b
    one a b a_in b_in nodes_are same = elim (cases_listed a a_in) [
      | inl is ↦
          elim (cases_listed b b_in) [
            | inl is' ↦ sym is ∙ is'
            | inr there ↦ absurd (not_opened a b is there.1 nodes_are same)
          ]
      | inr there ↦
          elim (cases_listed b b_in) [
            | inl is' ↦ absurd (not_opened b a is' there.1 (sym nodes_are) (sym same))
            | inr there' ↦
                found_once made a b known.found there.0 there'.0 nodes_are same
          ]
    ]

    -- ---- what they wrote

    earlier : (i q v : ℕ) → Does world.acts i q (Write word v) → i < j
    earlier i q v does = elim (Does-cases (subst (λ run. Does run i q (Write word v)) acts_are does)) [
      | inl (lt, was) ↦ lt
      | inr (at_end, own, is) ↦ let never : Read word value ≡ Write word v = is in cc
    ]

    abbrev wrote : StoredRecord → Option ℕ
    wrote a = last_write world.acts a.node (stamp_index made_stamps a) (word_on options.size (page_of word options.size) (offset_of word options.size))

    wrote_is : (a : StoredRecord) → wrote a ≡ last_write world.acts a.node (stamp_index made_stamps a) word
    wrote_is a = ap (last_write world.acts a.node (stamp_index made_stamps a)) (word_on-page_of options.size word)

    wrote_last : (a : StoredRecord) (v : ℕ) → wrote a ≡ Some v
        → (i : ℕ) × IsLastWriteIn world.acts j word a.node (stamp_index made_stamps a) i v
    wrote_last a v e =
        let found : (i : ℕ) × IsLastIn world.acts a.node (stamp_index made_stamps a) word i v =
        last_write-some world.acts a.node (stamp_index made_stamps a) word v (sym (wrote_is a) ∙ e) in (
          found.0,
          record {
            write = found.1.writes.write;
            earlier = earlier found.0 a.node v found.1.writes.write;
            inside = found.1.writes.inside;
            last = λ k u lt does inside. found.1.last k u (record { write = does; inside = inside });
          },
        )

    wrote_none : (a : StoredRecord) → wrote a ≡ None → (i v : ℕ) → Does world.acts i a.node (Write word v)
        → interval_at world.acts a.node i ≡ stamp_index made_stamps a → ⊥
    wrote_none a e i v does inside =
        last_write-none world.acts a.node (stamp_index made_stamps a) word (sym (wrote_is a) ∙ e) i v (record { write = does; inside = inside })

    -- ---- their stamps

    stamp_covers : (b : StoredRecord) (k v : ℕ) → Contains xs b → Does world.acts k b.node (Write word v)
        → interval_at world.acts b.node k ≡ stamp_index made_stamps b → Covers b.stamp (time_at world.times k)
    stamp_covers b k v c does inside = elim (cases_listed b c) [
      | inr there ↦ stamps_cover program nodes options stamps world made h b k word v there.0 does inside
      | inl is ↦
          let own : b.node ≡ n = ap (λ (x : StoredRecord). x.node) (sym is) ∙ me in
          subst (λ (x : StoredRecord). Covers x.stamp (time_at world.times k)) is
          (covers-trans (next_time l.node.setting.me time) time (time_at world.times k)
          (covers-raised time l.node.setting.me (entry time l.node.setting.me + 1) (omega arith))
          (covers_acts program nodes options world r n l k (Write word v) at (subst (λ q. Does world.acts k q (Write word v)) own does)))
    ]

    stamped : (a b : StoredRecord) (i k u v : ℕ) → Contains xs a → Contains xs b → (a.node ≡ b.node → ⊥)
        → Does world.acts i a.node (Write word u) → interval_at world.acts a.node i ≡ stamp_index made_stamps a
        → Does world.acts k b.node (Write word v) → interval_at world.acts b.node k ≡ stamp_index made_stamps b
        → HappensBefore world.acts i k → IsTrue (stamps_covered made_stamps b.stamp a)
    stamped a b i k u v a_in b_in apart first in_a second in_b before =
        let knows : interval_at world.acts a.node i ≤ entry (time_at world.times k) a.node =
        order_to_cover kept in_order i k a.node b.node (Write word u) (Write word v) apart first second before in
        let more : entry (time_at world.times k) a.node ≤ entry b.stamp a.node = stamp_covers b k v b_in second in_b a.node in
        le-covered made_stamps b.stamp a (omega (arith, knows, more, in_a))

    -- ---- the list has the writes before the read

    lists : ListsWrites world.acts j n word made_stamps wrote time xs
    lists = record {
      deed = Read word value;
      acts = here;
      cover = λ i other d apart does. (
        λ before. subst (λ t. interval_at world.acts other i ≤ entry t other) time_is
            (order_to_cover kept in_order i j other n d (Read word value) apart does here before),
        λ le. cover_to_order kept in_order i j other n d (Read word value) apart does here
            (subst (λ t. interval_at world.acts other i ≤ entry t other) (sym time_is) le),
      );
      listed = listed;
      known = λ a c. elim (cases_listed a c) [ inl is ↦ inl (ap (λ (x : StoredRecord). x.node) (sym is) ∙ me) | inr there ↦ inr there.1 ];
      one = one;
      wrote_last = λ a v c e. wrote_last a v e;
      wrote_none = λ a c e i v lt does. wrote_none a e i v does;
      stamped = stamped;
    }

    -- ---- the copy

    abbrev page : ℕ
    page = page_of word options.size

    abbrev copy : Copy
    copy = copy_at l.node.memory page

    readable : is_readable copy ≡ true
    readable = subst (λ (o : OptionsRecord). is_readable (copy_at l.node.memory (page_of word o.size)) ≡ true) shape.options has.readable

    value_is : value ≡ value_at options.size l.node.memory word
    value_is = subst (λ (o : OptionsRecord). value ≡ value_at o.size l.node.memory word) shape.options has.value_is

    long : length (values_of copy) ≡ words_of options.size
    long =
        let whole : All (IsWholeCopy l.node.setting.nodes (words_of l.node.options.size)) l.node.memory.copies =
        (whole_at l.node (reached program nodes options r.events world r.runs n l at)).copies in
        readable-long l.node.setting.nodes (words_of l.node.options.size) copy readable
        (whole page absent (readable-there l.node.memory.copies page readable))
        ∙ ap (λ (o : OptionsRecord). words_of o.size) shape.options

    pub fresh_read : MayRead world.acts j word value
    fresh_read =
        let within : offset_of word options.size < length (values_of copy) =
        subst (λ k. offset_of word options.size < k) (sym long) (offset_of-within word options.size) in
        subst (MayRead world.acts j word) (sym value_is)
        (copy_may_read world.acts j n word made_stamps
        (λ x offset. last_write world.acts x.node (stamp_index made_stamps x) (word_on options.size page offset))
        (changes_on page) time xs (offset_of word options.size) lists (values_of copy) within
        ((copies world made h).readable n l page at readable))

  -- ---- every run

  Lazy : World → List StoredRecord → Type 0
  Lazy world made = ReadsLazily world.acts

  module _ (world : World) (made : List StoredRecord) (flight : List Flying) (n : ℕ) (l after : Logged) (input : Input) (entry : EntryRecord)
      (at : slice_get world.nodes n ≡ Some l) (come : Comes world n input flight) (i : IsEntry l input entry after)
      (r : IsReached program nodes options world) (r' : IsReached program nodes options (with_turn world flight n entry after))
      (h : History program nodes options world made) (lazy : ReadsLazily world.acts) where
    abbrev world' : World
    world' = with_turn world flight n entry after

    lazy_more : (m : Made world n (deed_made entry.turn) after.node.locks.time world') (deed : Option Deed) → m.deed ≡ deed → ReadsLazily world'.acts
    lazy_more m None none =
        subst ReadsLazily (sym (m.acts_are ∙ ap (λ d. world.acts ++ more_acts n d) none ∙ append-nil world.acts)) lazy
    lazy_more m (Some d) some =
        let acts_are : world'.acts ≡ world.acts ++ act_of n d ∷ [] = m.acts_are ∙ ap (λ d. world.acts ++ more_acts n d) some in
        let times_are : world'.times ≡ world.times ++ after.node.locks.time ∷ [] =
        m.times_are ∙ ap (λ d. world.times ++ more_times n after.node.locks.time d) some in
        let timed : length world.times ≡ length world.acts = (keeps program nodes options r.events world r.runs).timed in
        let time_is : time_at world'.times (length world.acts) ≡ after.node.locks.time =
        ap (λ ts. time_at ts (length world.acts)) times_are ∙ get_or_push world.times after.node.locks.time [] (length world.acts) timed in
        subst ReadsLazily (sym acts_are)
        (ReadsLazily-more world.acts (act_of n d) lazy
        (λ word value is.
        let reads : world'.acts ≡ world.acts ++ act_of n (Read word value) ∷ [] = acts_are ∙ ap (λ d. world.acts ++ act_of n d ∷ []) is in
        subst (λ run. MayRead run (length world.acts) word value) acts_are
        (fresh_read world' (made ++ closed_by l.node after.node) (one_more world made flight n l after input entry at come i r r' h)
        world.acts n word value reads after (get_set_same world.nodes n l after at) time_is
        (has_read l.node input entry.turn after.node word value
        (known_at l.node (reached program nodes options r.events world r.runs n l at))
        (by_rule l.node input entry.turn after.node i.turn_is)
        (m.deed_is ∙ some ∙ ap Some is)))))

  lazy-kept : KeptByHistory program nodes options Lazy
  unfolding Lazy
  lazy-kept world made flight n l after input entry at come i r r' h lazy =
      let m : Made world n (deed_made entry.turn) after.node.locks.time (with_turn world flight n entry after) =
      made_so program nodes options world flight n l after input entry at i r in
      lazy_more world made flight n l after input entry at come i r r' h lazy m m.deed refl

  nothing_read : Lazy (fresh_world program nodes options) []
  unfolding Lazy
  nothing_read j word value (p, does) = let lt : j < length {A = Act} [] = Does-within does in absurd (omega (arith, lt))

  pub reads_law : ReadsLaw program nodes options
  unfolding Lazy
  reads_law world r =
      let h : (made : List StoredRecord) × History program nodes options world made = history_of program nodes options r.events world r.runs in
      by_history program nodes options Lazy nothing_read lazy-kept world h.0 h.1
