-- A node whose copies have what the exact memory has learns news: copies of the pages that are named become invalid, and lack just the
-- changes that the exact memory has put in place.
use Rattle.std.proofs.Common.{◌≡◌, ℕ, ◌<◌, ◌≤◌, List, Bool, true, false, length, map, max, inl, inr, refl, sym, ap, subst, ◌∙◌, arith}
use Rattle.std.specs.Prelude.{Option, Some, None, is_some, nat_le, slice_index, Contains, if◌then◌else◌}
use Rattle.std.specs.List.{enumerate_from}
use Rattle.std.proofs.lemmas.Bool.{cases_lt, leb-true, leb-false, le-leb}
use Rattle.std.proofs.lemmas.List.{get_or_past}
use Rattle.lrc_time.specs.Time.{entry, joined, Covers, weight_of}
use Rattle.lrc_time.proofs.Times.{entry-joined}
use Rattle.lrc_page.specs.declared.size.Size.{Size}
use Rattle.lrc_page.specs.Page.{words_of}
use Rattle.lrc_store.specs.Interval.{IntervalRecord}
use Rattle.lrc_store.specs.Store.{StoredRecord}
use Rattle.lrc_copies.specs.Stamps.{stamp_index}
use Rattle.lrc_protocol.specs.Times.{is_named}
use Rattle.lrc_protocol.specs.Pages.{Copy, valid, written, invalid, absent, changes_of, invalidated, Memory, copy_at, learned}
use Rattle.lrc_node_laws.proofs.Lists.{length-placed}
use Rattle.lrc_node_laws.proofs.OwnCopies.{placed-copy}
use Rattle.lrc_reading_laws.specs.Written.{made_stamps, word_on}
use Rattle.lrc_exact.specs.Memory.{Rank, Word}
use Rattle.lrc_exact.specs.Rule.{Knowledge, State, known_together, with_news, with_learned}
use Rattle.lrc_exact_known.specs.Learned.{IsNews, TakesHighest, unchanged, taken}
use Rattle.lrc_exact_known.proofs.Highest.{learned_is_highest}
use Rattle.lrc_exact_marks.proofs.Ranks.{Either, by_other_words, one_after_other}
use Rattle.lrc_exact_made.specs.Copies.{IsExactly, AreExactly, IsChangeBetween, unmarked, HasWord, HasExact}
use Rattle.lrc_exact_made.specs.Steps.{IsAmong, IsNewsTo}
use Rattle.lrc_exact_made.proofs.Closing.{no_change}

-- a word without a mark that nothing changes stays
stays : (Changes : Rank → ℕ → Type 0) (now after : Word) → ((rank : Rank) (value : ℕ) → Changes rank value → ⊥) → TakesHighest Changes now after → after ≡ now
stays Changes now after never (unchanged is none) = is
stays Changes now after never (taken rank value change above is least) = absurd (never rank value change)

-- what two know together did what is known of it
pub together_exactly : (size : Size) (made : List StoredRecord) (mine yours : Knowledge) → AreExactly size made mine → AreExactly size made yours
    → AreExactly size made (known_together mine yours)
together_exactly size made mine yours a b = record {
  each = λ y member known.
      let k = stamp_index made_stamps y in
      by_test y member known (nat_le k (entry mine.time y.node)) refl;
}
  where
    by_test : (y : StoredRecord) → Contains made y → stamp_index made_stamps y ≤ entry (joined mine.time yours.time) y.node → (b : Bool)
        → nat_le (stamp_index made_stamps y) (entry mine.time y.node) ≡ b
        → IsExactly size y
        (if b then mine.interval y.node (stamp_index made_stamps y) else yours.interval y.node (stamp_index made_stamps y))
    by_test y member known true e = a.each y member (leb-true (stamp_index made_stamps y) (entry mine.time y.node) e)
    by_test y member known false e =
        let over : entry mine.time y.node < stamp_index made_stamps y = leb-false (stamp_index made_stamps y) (entry mine.time y.node) e in
        let both : entry (joined mine.time yours.time) y.node ≡ max (entry mine.time y.node) (entry yours.time y.node) =
        entry-joined mine.time yours.time y.node in
        b.each y member (omega arith)

module _ (size : Size) (nodes : ℕ) (made : List StoredRecord) (time : List ℕ) (memory : Memory) (state : State) (news : Knowledge)
    (intervals : List IntervalRecord) (after : List ℕ) (h : HasExact size made time memory state)
    (n : IsNewsTo size nodes made time memory news intervals after) where
  abbrev had : List ℕ
  had = state.knows.time

  same_entry : (q : ℕ) → entry had q ≡ entry time q
  same_entry q = ap (λ t. entry t q) h.time_is

  after_entry : (q : ℕ) → entry after q ≡ max (entry time q) (entry news.time q)
  after_entry q = ap (λ t. entry t q) (sym n.after_is) ∙ entry-joined time news.time q

  -- ---- the changes that come

  module _ (page offset : ℕ) (lt : offset < words_of size) where
    abbrev word : ℕ
    word = word_on size page offset

    to_made : (rank : Rank) (value : ℕ) → IsNews nodes had news word rank value → IsChangeBetween made page offset time after rank value
    to_made rank value s =
        let q = s.node in
        let k = s.change.index in
        let new = s.change.new in
        let known = s.change.known in
        let it : IsAmong made q k = n.reach q k (omega arith) known in
        let e : IsExactly size it.interval (news.interval q k) =
        subst (λ k. IsExactly size it.interval (news.interval q k)) it.index_is
        (subst (λ q. IsExactly size it.interval (news.interval q (stamp_index made_stamps it.interval))) it.node_is
        (n.exactly.each it.interval it.member
        (subst (λ q. stamp_index made_stamps it.interval ≤ entry news.time q) (sym it.node_is)
        (subst (λ k. k ≤ entry news.time q) (sym it.index_is) known)))) in
        let index = it.index_is in
        let own = same_entry q in
        let join = after_entry q in
        record {
          interval = it.interval;
          member = it.member;
          later = subst (λ q. entry time q < stamp_index made_stamps it.interval) (sym it.node_is) (omega arith);
          known = subst (λ q. stamp_index made_stamps it.interval ≤ entry after q) (sym it.node_is) (omega arith);
          ranked = s.change.ranked
              ∙ ap (λ w. record { weight = w; node = q }) e.weight
              ∙ ap (λ q. record { weight = weight_of it.interval.stamp; node = q }) (sym it.node_is);
          changed = sym (e.changed page offset lt) ∙ s.change.changed;
        }

    from_made : (rank : Rank) (value : ℕ) → IsChangeBetween made page offset time after rank value → IsNews nodes had news word rank value
    from_made rank value b =
        let q = b.interval.node in
        let later = b.later in
        let known = b.known in
        let own = same_entry q in
        let join = after_entry q in
        let come : stamp_index made_stamps b.interval ≤ entry news.time q = omega arith in
        let e : IsExactly size b.interval (news.interval q (stamp_index made_stamps b.interval)) = n.exactly.each b.interval b.member come in
        record {
          node = q;
          among = n.among b.interval b.member;
          change = record {
            index = stamp_index made_stamps b.interval;
            new = omega arith;
            known = come;
            ranked = b.ranked ∙ ap (λ w. record { weight = w; node = q }) (sym e.weight);
            changed = e.changed page offset lt ∙ b.changed;
          };
        }

    pub learns : (now : Word) → TakesHighest (IsChangeBetween made page offset time after) now (with_news nodes had news word now)
    learns now =
        by_other_words (IsNews nodes had news word) (IsChangeBetween made page offset time after) now (with_news nodes had news word now) to_made
        from_made (learned_is_highest nodes had news word now)

    -- a copy that was invalid lacks more
    lacks : (since : List ℕ) (base now : Word) → Covers time since → TakesHighest (IsChangeBetween made page offset since time) base now
        → TakesHighest (IsChangeBetween made page offset since after) base (with_news nodes had news word now)
    lacks since base now up f =
        by_other_words (Either (IsChangeBetween made page offset since time) (IsChangeBetween made page offset time after))
        (IsChangeBetween made page offset since after) base (with_news nodes had news word now)
        (λ rank value s.
        elim s [
          | inl b ↦
              let known = b.known in
              let join = after_entry b.interval.node in
              record { interval = b.interval; member = b.member; later = b.later; known = omega arith; ranked = b.ranked; changed = b.changed }
          | inr b ↦
              let later = b.later in
              let covered = up b.interval.node in
              record { interval = b.interval; member = b.member; later = omega arith; known = b.known; ranked = b.ranked; changed = b.changed }
        ])
        (λ rank value b.
        elim (cases_lt (entry time b.interval.node) (stamp_index made_stamps b.interval)) [
          | inl new ↦ inr record { interval = b.interval; member = b.member; later = new; known = b.known; ranked = b.ranked; changed = b.changed }
          | inr old ↦ inl record { interval = b.interval; member = b.member; later = b.later; known = old; ranked = b.ranked; changed = b.changed }
        ])
        (one_after_other (IsChangeBetween made page offset since time) (IsChangeBetween made page offset time after) base now
        (with_news nodes had news word now) f (learns now))

    by_copy : (copy : Copy) (b : Bool) → copy_at memory page ≡ copy → is_named intervals page ≡ b → (now : Word) (before : Option ℕ)
        → HasWord made time page offset copy now before
        → HasWord made after page offset (if b then invalidated time copy else copy) (with_news nodes had news word now) before
    by_copy (valid values) true e named now before f =
        (subst (λ (w : Word). TakesHighest (IsChangeBetween made page offset time after) w (with_news nodes had news word now)) f.0 (learns now), f.1)
    by_copy (valid values) false e named now before f = (
      stays (IsChangeBetween made page offset time after) now (with_news nodes had news word now)
          (λ rank value b. no_change page offset value b.interval (n.unnamed page named b.interval b.member b.later b.known) b.changed) (learns now)
          ∙ f.0,
      f.1,
    )
    by_copy (written values twin) b e named now before f = absurd (no_none (sym (ap changes_of e) ∙ n.unwritten page))
      where
        no_none : {X : Type 0} {x : X} → Some x ≡ None → ⊥
        no_none e = cc
    by_copy (invalid values since) true e named now before f =
        (lacks since (unmarked (slice_index values offset)) now (n.remembered page values since e) f.0, f.1)
    by_copy (invalid values since) false e named now before f =
        (lacks since (unmarked (slice_index values offset)) now (n.remembered page values since e) f.0, f.1)
    by_copy absent true e named now before f = f
    by_copy absent false e named now before f = f

  -- ---- copies at their places

  abbrev then_copy : ℕ × Copy → Copy
  then_copy place = if is_named intervals place.0 then invalidated time place.1 else place.1

  then_memory : Memory
  then_memory = learned time intervals memory

  copy_is : (page : ℕ) → page < length memory.copies → copy_at then_memory page ≡ then_copy (page, copy_at memory page)
  unfolding then_memory
  copy_is page within = placed-copy then_copy memory.copies page within

  copy_past : (page : ℕ) → length memory.copies ≤ page → copy_at then_memory page ≡ absent
  unfolding then_memory
  copy_past page most =
      let long : length (map then_copy (enumerate_from 0 memory.copies)) ≡ length memory.copies = length-placed then_copy memory.copies in
      get_or_past (map then_copy (enumerate_from 0 memory.copies)) page absent (omega arith)

  unwritten_then : (copy : Copy) (b : Bool) → changes_of copy ≡ None → changes_of (if b then invalidated time copy else copy) ≡ None
  unwritten_then (valid values) true none = refl
  unwritten_then (valid values) false none = refl
  unwritten_then (written values twin) true none = none
  unwritten_then (written values twin) false none = none
  unwritten_then (invalid values since) true none = refl
  unwritten_then (invalid values since) false none = refl
  unwritten_then absent true none = refl
  unwritten_then absent false none = refl

  none_then : (page : ℕ) → changes_of (copy_at then_memory page) ≡ None
  none_then page =
      elim (cases_lt page (length memory.copies)) [
        | inl within ↦ ap changes_of (copy_is page within) ∙ unwritten_then (copy_at memory page) (is_named intervals page) (n.unwritten page)
        | inr most ↦ ap changes_of (copy_past page most)
      ]

  words_then : (page offset : ℕ) → offset < words_of size
      → HasWord made after page offset (copy_at then_memory page) (with_news nodes had news (word_on size page offset) (state.words (word_on size page offset)))
      (state.before (word_on size page offset))
  words_then page offset lt =
      let now = state.words (word_on size page offset) in
      let before = state.before (word_on size page offset) in
      elim (cases_lt page (length memory.copies)) [
        | inl within ↦
            subst (λ copy. HasWord made after page offset copy (with_news nodes had news (word_on size page offset) now) before) (sym (copy_is page within))
            (by_copy page offset lt (copy_at memory page) (is_named intervals page) refl refl now before (h.copies page offset lt))
        | inr most ↦
            subst (λ copy. HasWord made after page offset copy (with_news nodes had news (word_on size page offset) now) before) (sym (copy_past page most))
            (subst (λ copy. HasWord made time page offset copy now before) (get_or_past memory.copies page absent most) (h.copies page offset lt))
      ]

  pub learns_exactly : HasExact size made after (learned time intervals memory) (with_learned nodes news state)
  unfolding then_memory
  learns_exactly = record {
    time_is = ap (λ t. joined t news.time) h.time_is ∙ n.after_is;
    copies = words_then;
    written = λ page. h.written page ∙ ap is_some (n.unwritten page) ∙ sym (ap is_some (none_then page));
    knows = together_exactly size made state.knows news h.knows n.exactly;
  }

-- ---- where nothing is new

module _ (size : Size) (nodes : ℕ) (made : List StoredRecord) (time : List ℕ) (memory : Memory) (state : State) (news : Knowledge)
    (old : Covers state.knows.time news.time) (same : joined state.knows.time news.time ≡ state.knows.time) where
  word_stays : (word : ℕ) (now : Word) → with_news nodes state.knows.time news word now ≡ now
  word_stays word now =
      stays (IsNews nodes state.knows.time news word) now (with_news nodes state.knows.time news word now)
      (λ rank value s.
      let new = s.change.new in
      let known = s.change.known in
      let most = old s.node in
      absurd (omega arith)) (learned_is_highest nodes state.knows.time news word now)

  known_stays : (y : StoredRecord) → stamp_index made_stamps y ≤ entry state.knows.time y.node
      → state.knows.interval y.node (stamp_index made_stamps y)
      ≡ (known_together state.knows news).interval y.node (stamp_index made_stamps y)
  known_stays y known =
      ap (λ b. if b then state.knows.interval y.node (stamp_index made_stamps y) else news.interval y.node (stamp_index made_stamps y))
      (sym (le-leb (stamp_index made_stamps y) (entry state.knows.time y.node) known))

  -- a node that learns what it knows goes on to have what the exact memory has
  pub learns_nothing : HasExact size made time memory state → HasExact size made time memory (with_learned nodes news state)
  learns_nothing h = record {
    time_is = same ∙ h.time_is;
    copies = λ page offset lt.
        subst (λ (w : Word). HasWord made time page offset (copy_at memory page) w (state.before (word_on size page offset)))
        (sym (word_stays (word_on size page offset) (state.words (word_on size page offset)))) (h.copies page offset lt);
    written = h.written;
    knows = record {
      each = λ y member known.
          let less : stamp_index made_stamps y ≤ entry state.knows.time y.node = subst (λ t. stamp_index made_stamps y ≤ entry t y.node) same known in
          subst (IsExactly size y) (known_stays y less) (h.knows.each y member less);
    };
  }

  -- and so does one that the exact memory lets learn what it knows
  pub learned_nothing : HasExact size made time memory (with_learned nodes news state) → HasExact size made time memory state
  learned_nothing h = record {
    time_is = sym same ∙ h.time_is;
    copies = λ page offset lt.
        subst (λ (w : Word). HasWord made time page offset (copy_at memory page) w (state.before (word_on size page offset)))
        (word_stays (word_on size page offset) (state.words (word_on size page offset))) (h.copies page offset lt);
    written = h.written;
    knows = record {
      each = λ y member known.
          subst (IsExactly size y) (sym (known_stays y known))
          (h.knows.each y member (subst (λ t. stamp_index made_stamps y ≤ entry t y.node) (sym same) known));
    };
  }
