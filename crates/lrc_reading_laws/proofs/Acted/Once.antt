-- Where the acts are race free, they fix the changes of the closed intervals too: the writers below an interval are ordered, so its
-- twins have the value of the last.
use Rattle.std.proofs.Common.{◌≡◌, ◌⊎◌, ℕ, ◌<◌, ◌≤◌, List, [], length, sym, ap, subst, ◌∙◌, inl, inr, ⊎_elim, arith}
use Rattle.std.specs.Prelude.{Option, Some, None, is_some, IsTrue, ◌==◌, unwrap_or, option_and_then, Contains, slice_index}
use Rattle.std.proofs.lemmas.Bool.{cases_eq, cases_lt, and_parts, eqb-true, false≢true}
use Rattle.std.proofs.lemmas.List.{ext_get_or}
use Rattle.lrc_program.specs.declared.Program.{Program}
use Rattle.lrc_trace.specs.declared.act.Deed.TheVariants.{Write}
use Rattle.lrc_trace.specs.Run.{Does}
use Rattle.lrc_trace.specs.Conflict.{IsRaceFree}
use Rattle.lrc_trace.specs.Interval.{interval_at}
use Rattle.lrc_trace.specs.Synchronization.{IsWellSynchronized}
use Rattle.lrc_trace.proofs.Positions.{Does-one_node}
use Rattle.lrc_time.specs.Time.{entry, Covers}
use Rattle.lrc_clock.specs.Times.{time_at}
use Rattle.lrc_clock.specs.Keeping.{KeepsTime}
use Rattle.lrc_clock.proofs.Ordering.{order_to_cover}
use Rattle.lrc_page.specs.Page.{words_of}
use Rattle.lrc_page.specs.Changes.{changes_between}
use Rattle.lrc_store.specs.Interval.{IntervalRecord}
use Rattle.lrc_store.specs.Store.{StoredRecord, NoticeRecord, interval_of, notice_of}
use Rattle.lrc_copies.specs.Word.{WordHistory, IsWriter, IsUnwritten, AreWritersOrdered, IsLastWriter, Fits}
use Rattle.lrc_copies.specs.Sound.{IsLighterBelow}
use Rattle.lrc_copies.specs.Page.{PageHistory, at_word, page_below}
use Rattle.lrc_copies.specs.Stamps.{Stamps, stamp_index, stamps_below}
use Rattle.lrc_copies.proofs.Members.{Contains-filter, Contains-from_filter}
use Rattle.lrc_copies.proofs.Heaviest.{found_last}
use Rattle.lrc_copies.proofs.Stamping.{le-covered, below-from, lighter_below}
use Rattle.lrc_protocol.specs.Node.{OptionsRecord}
use Rattle.lrc_protocol.specs.Run.{World}
use Rattle.lrc_order_laws.proofs.Timed.{keeps, synchronized}
use Rattle.lrc_order_laws.proofs.Reached.{IsReached}
use Rattle.lrc_reading_laws.specs.Known.{AreKnown}
use Rattle.lrc_reading_laws.specs.Written.{made_stamps, last_write, word_on, changes_on, page_history}
use Rattle.lrc_reading_laws.specs.Acted.{HasChanges, AreOfActs}
use Rattle.lrc_reading_laws.proofs.Closed.History.{History, history_of}
use Rattle.lrc_reading_laws.proofs.Stamped.Lists.{HasRecord, interval-from, found_once}
use Rattle.lrc_reading_laws.proofs.Lazy.Writes.{IsLastIn, last_write-some}
use Rattle.lrc_reading_laws.proofs.Lazy.Times.{stamps_cover}
use Rattle.lrc_reading_laws.proofs.Acted.Changes.{noticed_in, named_in, some_or_none}
use Rattle.lrc_reading_laws.proofs.Acted.Fixed.{fixed}
use Rattle.lrc_reading_laws.proofs.Whole.{stamps, of_acts}

-- intervals without changes, as stamped intervals
abbrev told_stamps : Stamps IntervalRecord
told_stamps = record { node = λ i. i.node; stamp = λ i. i.stamp }

module _ (program : Program) (nodes : ℕ) (options : OptionsRecord) (world : World) (r : IsReached program nodes options world)
    (free : IsRaceFree world.acts) where
  kept : KeepsTime nodes world.acts world.times
  kept = keeps program nodes options r.events world r.runs

  in_order : IsWellSynchronized nodes world.acts
  in_order = synchronized program nodes options r.events world r.runs

  real : (made : List StoredRecord) × History program nodes options world made
  real = history_of program nodes options r.events world r.runs

  -- ---- the writers of a word are ordered

  module _ (made : List StoredRecord) (known : AreKnown nodes made world) (of : AreOfActs options.size nodes made world) (page offset : ℕ) where
    abbrev history : PageHistory StoredRecord
    history = page_history options.size world.acts page

    abbrev word : ℕ
    word = word_on options.size page offset

    abbrev w : WordHistory StoredRecord
    w = at_word history offset

    -- the stamp of an interval covers the time of each write in it
    stamp_covers : (b : StoredRecord) (k v : ℕ) → Contains made b → Does world.acts k b.node (Write word v)
        → interval_at world.acts b.node k ≡ stamp_index made_stamps b → Covers b.stamp (time_at world.times k)
    stamp_covers b k v c does inside =
        let hist : History program nodes options world real.0 = real.1 in
        let b' : HasRecord real.0 (interval_of b) =
        interval-from real.0 (interval_of b)
        (fixed program nodes options world r made real.0 known of (stamps program nodes options world real.0 hist)
        (of_acts program nodes options world real.0 hist) b c) in
        let node_is : b'.x.node ≡ b.node = ap (λ (i : IntervalRecord). i.node) b'.is in
        let stamp_is : b'.x.stamp ≡ b.stamp = ap (λ (i : IntervalRecord). i.stamp) b'.is in
        subst (λ s. Covers s (time_at world.times k)) stamp_is
        (stamps_cover program nodes options (stamps program nodes options) world real.0 hist b'.x k word v b'.in_list
        (subst (λ n. Does world.acts k n (Write word v)) (sym node_is) does)
        (ap (λ n. interval_at world.acts n k) node_is ∙ inside ∙ sym (ap (stamp_index told_stamps) b'.is)))

    -- of writes of two nodes the earlier is covered by the later one's interval
    covers_earlier : (a b : StoredRecord) (u v i k : ℕ) → Contains made a → Contains made b → (a.node ≡ b.node → ⊥)
        → IsLastIn world.acts a.node (stamp_index made_stamps a) word i u → IsLastIn world.acts b.node (stamp_index made_stamps b) word k v
        → i < k → IsTrue (stamps_below made_stamps a b)
    covers_earlier a b u v i k a_in b_in apart first second earlier =
        let more : entry (time_at world.times k) a.node ≤ entry b.stamp a.node =
        stamp_covers b k v b_in second.writes.write second.writes.inside a.node in
        let inside : interval_at world.acts a.node i ≡ stamp_index made_stamps a = first.writes.inside in
        elim (cases_lt (entry (time_at world.times k) a.node) (interval_at world.acts a.node i)) [
          | inr knows ↦
              below-from made_stamps a b (le-covered made_stamps b.stamp a (omega (arith, knows, more, inside)))
              (λ same. apart (eqb-true a.node b.node (and_parts (a.node == b.node) (stamp_index made_stamps a == stamp_index made_stamps b) same).0))
          | inl unknown ↦
              absurd
              (free i k
              (record {
                earlier = earlier;
                conflict = (
                  a.node,
                  b.node,
                  word,
                  record {
                    apart = apart;
                    first = inr (u, first.writes.write);
                    second = inr (v, second.writes.write);
                    writes = inl (u, first.writes.write);
                  },
                );
                unordered = λ before.
                    let knows : interval_at world.acts a.node i ≤ entry (time_at world.times k) a.node =
                    order_to_cover kept in_order i k a.node b.node (Write word u) (Write word v) apart first.writes.write second.writes.write before in
                    omega (arith, knows, unknown);
              }))
        ]

    -- of two intervals of one node the one with the lower index is below
    below_own : (a b : StoredRecord) → a.node ≡ b.node → stamp_index made_stamps a < stamp_index made_stamps b → IsTrue (stamps_below made_stamps a b)
    below_own a b own lt =
        let upto : entry b.stamp a.node ≡ stamp_index made_stamps b = ap (entry b.stamp) own in
        below-from made_stamps a b (le-covered made_stamps b.stamp a (omega (arith, lt, upto)))
        (λ same.
        let e : stamp_index made_stamps a ≡ stamp_index made_stamps b =
        eqb-true (stamp_index made_stamps a) (stamp_index made_stamps b)
        (and_parts (a.node == b.node) (stamp_index made_stamps a == stamp_index made_stamps b) same).1 in
        omega (arith, lt, e))

    ordered_in : (a b : StoredRecord) (u v : ℕ) → Contains made a → Contains made b → w.wrote a ≡ Some u → w.wrote b ≡ Some v
        → (a ≡ b) ⊎ (IsTrue (w.below a b) ⊎ IsTrue (w.below b a))
    ordered_in a b u v a_in b_in wrote_a wrote_b = elim (cases_eq a.node b.node) [
      | inl own ↦
          elim (cases_lt (stamp_index made_stamps a) (stamp_index made_stamps b)) [
            | inl lt ↦ inr (inl (below_own a b own lt))
            | inr le ↦
                elim (cases_lt (stamp_index made_stamps b) (stamp_index made_stamps a)) [
                  | inl lt ↦ inr (inr (below_own b a (sym own) lt))
                  | inr le' ↦ inl (found_once made a b known.found a_in b_in own (omega (arith, le, le')))
                ]
          ]
      | inr apart ↦
          let first : (i : ℕ) × IsLastIn world.acts a.node (stamp_index made_stamps a) word i u =
          last_write-some world.acts a.node (stamp_index made_stamps a) word u wrote_a in
          let second : (k : ℕ) × IsLastIn world.acts b.node (stamp_index made_stamps b) word k v =
          last_write-some world.acts b.node (stamp_index made_stamps b) word v wrote_b in
          elim (cases_lt first.0 second.0) [
            | inl lt ↦ inr (inl (covers_earlier a b u v first.0 second.0 a_in b_in apart first.1 second.1 lt))
            | inr le ↦
                elim (cases_lt second.0 first.0) [
                  | inl lt ↦ inr (inr (covers_earlier b a v u second.0 first.0 b_in a_in (λ e. apart (sym e)) second.1 first.1 lt))
                  | inr le' ↦
                      let same : first.0 ≡ second.0 = omega (arith, le, le') in
                      absurd
                      (apart
                      (Does-one_node (subst (λ i. Does world.acts i a.node (Write word u)) same first.1.writes.write) second.1.writes.write))
                ]
          ]
    ]

    -- so they are below an interval
    ordered_below : (x : StoredRecord) → AreWritersOrdered w (page_below history made x)
    ordered_below x a b u v g g' =
        ordered_in a b u v (Contains-from_filter (λ b. stamps_below made_stamps b x) made a g.member).0
        (Contains-from_filter (λ b. stamps_below made_stamps b x) made b g'.member).0 g.wrote g'.wrote

    lighter_in : (x : StoredRecord) → IsLighterBelow w (page_below history made x)
    lighter_in x a b a_in b_in under =
        lighter_below made_stamps nodes made known.stamped a b (Contains-from_filter (λ b. stamps_below made_stamps b x) made a a_in).0
        (Contains-from_filter (λ b. stamps_below made_stamps b x) made b b_in).0 under

  -- ---- two lists

  -- a writer below an interval, with the same node and stamp as this one
  record Like (list : List StoredRecord) (x : StoredRecord) (page offset : ℕ) (a : StoredRecord) (value : ℕ) : Type 0 where
    b : StoredRecord
    writer : IsWriter (at_word (page_history options.size world.acts page) offset) (page_below (page_history options.size world.acts page) list x) b value
    is : interval_of b ≡ interval_of a

  -- a writer below an interval of the one list has its like in the other
  like : (made other : List StoredRecord) → AreKnown nodes made world → AreOfActs options.size nodes made world → AreKnown nodes other world
      → AreOfActs options.size nodes other world → (x y : StoredRecord) → interval_of x ≡ interval_of y → (page offset : ℕ) (a : StoredRecord) (value : ℕ)
      → IsWriter (at_word (page_history options.size world.acts page) offset) (page_below (page_history options.size world.acts page) made x) a value
      → Like other y page offset a value
  like made other known of known' of' x y same page offset a value g =
      let there : Contains made a × IsTrue (stamps_below made_stamps a x) = Contains-from_filter (λ b. stamps_below made_stamps b x) made a g.member in
      let b : HasRecord other (interval_of a) =
      interval-from other (interval_of a) (fixed program nodes options world r made other known of known' of' a there.0) in
      record {
        b = b.x;
        writer = record {
          member =
              Contains-filter (λ b. stamps_below made_stamps b y) other b.x b.in_list
              (subst (λ (i : IntervalRecord). IsTrue (stamps_below told_stamps i (interval_of y))) (sym b.is)
              (subst (λ (i : IntervalRecord). IsTrue (stamps_below told_stamps (interval_of a) i)) same there.1));
          wrote =
              ap (λ (i : IntervalRecord). last_write world.acts i.node (stamp_index told_stamps i) (word_on options.size page offset)) b.is
              ∙ g.wrote;
        };
        is = b.is;
      }

  module _ (made other : List StoredRecord) (known : AreKnown nodes made world) (of : AreOfActs options.size nodes made world)
      (known' : AreKnown nodes other world) (of' : AreOfActs options.size nodes other world) (x y : StoredRecord)
      (same : interval_of x ≡ interval_of y) (page : ℕ) where
    abbrev shown : PageHistory StoredRecord
    shown = page_history options.size world.acts page

    module _ (offset : ℕ) where
      abbrev at_offset : WordHistory StoredRecord
      at_offset = at_word shown offset

      abbrev xs : List StoredRecord
      xs = page_below shown made x

      abbrev ys : List StoredRecord
      ys = page_below shown other y

      there : (a : StoredRecord) (value : ℕ) → IsWriter at_offset xs a value → Like other y page offset a value
      there a value g = like made other known of known' of' x y same page offset a value g

      back : (a : StoredRecord) (value : ℕ) → IsWriter at_offset ys a value → Like made x page offset a value
      back a value g = like other made known' of' known of y x (sym same) page offset a value g

      -- the like of a last writer is one
      last_there : (a : StoredRecord) (value : ℕ) → IsLastWriter at_offset xs a value
          → (b : StoredRecord) × IsLastWriter at_offset ys b value
      last_there a value g =
          let b : Like other y page offset a value = there a value g.writer in (
            b.b,
            record {
              writer = b.writer;
              last = λ c u h.
                  let c' : Like made x page offset c u = back c u h in
                  ⊎_elim
                  (λ (e : c'.b ≡ a).
                  let alike : interval_of c ≡ interval_of b.b = sym c'.is ∙ ap interval_of e ∙ sym b.is in
                  inl
                  (found_once other c b.b known'.found (Contains-from_filter (λ b. stamps_below made_stamps b y) other c h.member).0
                  (Contains-from_filter (λ b. stamps_below made_stamps b y) other b.b b.writer.member).0
                  (ap (λ (i : IntervalRecord). i.node) alike) (ap (stamp_index told_stamps) alike)))
                  (λ (under : IsTrue (stamps_below made_stamps c'.b a)).
                  inr
                  (subst (λ (i : IntervalRecord). IsTrue (stamps_below told_stamps i (interval_of b.b))) c'.is
                  (subst (λ (i : IntervalRecord). IsTrue (stamps_below told_stamps (interval_of c'.b) i)) (sym b.is) under)))
                  (g.last c'.b u c'.writer);
            },
          )

      -- what fits the intervals below is one value
      fits_once : (value value' : ℕ) → Fits at_offset value xs → Fits at_offset value' ys → value ≡ value'
      fits_once value value' f f' =
          let ordered : AreWritersOrdered at_offset xs = ordered_below made known of page offset x in
          let ordered' : AreWritersOrdered at_offset ys = ordered_below other known' of' page offset y in
          ⊎_elim
          (λ (none : IsUnwritten at_offset xs).
          (f.strong ordered).none none
          ∙ sym ((f'.strong ordered').none (λ b v g. let a : Like made x page offset b v = back b v g in none a.b v a.writer)))
          (λ (found : (a : StoredRecord) × (v : ℕ) × IsLastWriter at_offset xs a v).
          let found' : (b : StoredRecord) × IsLastWriter at_offset ys b found.1 = last_there found.0 found.1 found.2 in
          (f.strong ordered).last found.0 found.1 found.2 ∙ sym ((f'.strong ordered').last found'.0 found.1 found'.1))
          (found_last at_offset xs (lighter_in made known of page offset x) ordered)

    -- so the changes are the same, where both name the page,
    changes_once : HasChanges options.size world.acts made page x → HasChanges options.size world.acts other page y → changes_on page x ≡ changes_on page y
    changes_once h h' =
        let twins : h.twin ≡ h'.twin =
        ext_get_or 0 h.twin h'.twin (h.twin_long ∙ sym h'.twin_long)
        (λ offset lt.
        let within : offset < length h'.twin = subst (λ n. offset < n) (h.twin_long ∙ sym h'.twin_long) lt in
        fits_once offset (slice_index h.twin offset) (slice_index h'.twin offset) (h.fits offset lt) (h'.fits offset within)) in
        let copies : h.copy ≡ h'.copy =
        ext_get_or 0 h.copy h'.copy (h.copy_long ∙ sym h'.copy_long)
        (λ offset lt.
        let within : offset < words_of options.size = subst (λ n. offset < n) h.copy_long lt in
        h.left offset within
        ∙ ap
        (λ (i : IntervalRecord).
        unwrap_or (last_write world.acts i.node (stamp_index told_stamps i) (word_on options.size page offset)) (slice_index h.twin offset)) same
        ∙ ap
        (λ twin. unwrap_or (last_write world.acts y.node (stamp_index made_stamps y) (word_on options.size page offset)) (slice_index twin offset)) twins
        ∙ sym (h'.left offset within)) in
        h.changes ∙ ap (λ twin. changes_between twin h.copy) twins ∙ ap (changes_between h'.twin) copies ∙ sym h'.changes

    changes_none : (z : StoredRecord) → notice_of page z ≡ None → changes_on page z ≡ []
    changes_none z none = ap (λ (o : Option NoticeRecord). unwrap_or (option_and_then (λ (notice : NoticeRecord). notice.changes) o) []) none

    -- and in any case
    pub changes_fixed : Contains made x → Contains other y → changes_on page x ≡ changes_on page y
    changes_fixed c c' = elim (some_or_none (notice_of page x)) [
      | inr some ↦
          let named : Contains (interval_of x).pages page = named_in page x.notices some in
          changes_once (of.changed x page c named) (of'.changed y page c' (subst (λ (i : IntervalRecord). Contains i.pages page) same named))
      | inl none ↦
          elim (some_or_none (notice_of page y)) [
            | inl none' ↦ changes_none x none ∙ sym (changes_none y none')
            | inr some' ↦
                let named : Contains (interval_of x).pages page =
                subst (λ (i : IntervalRecord). Contains i.pages page) (sym same) (named_in page y.notices some') in
                absurd (false≢true (sym (ap is_some none) ∙ noticed_in page x.notices named))
          ]
    ]
