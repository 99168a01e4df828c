-- What comes with a grant or a departure is what the exact memory lets a node learn.
use Rattle.std.proofs.Common.{◌≡◌, ℕ, zero, suc, ◌+◌, ◌<◌, ◌≤◌, ◌||◌, List, [], Bool, true, false, length, map, max, inl, inr, refl, sym, ap, subst, ◌∙◌, arith}
use Rattle.std.specs.Prelude.{◌-◌, ◌==◌, Option, Some, None, unwrap_or, option_and_then, Contains, slice_get}
use Rattle.std.specs.List.{list_any}
use Rattle.std.proofs.lemmas.Bool.{cases_Bool, cases_lt, or_from, false≢true}
use Rattle.std.proofs.lemmas.List.Elements.{All-contains}
use Rattle.lrc_time.specs.Time.{entry, zeros, joined, Covers}
use Rattle.lrc_time.proofs.Times.{entry-zeros, entry-joined, length-zeros, covers-zeros, joined-covers}
use Rattle.lrc_page.specs.declared.size.Size.{Size}
use Rattle.lrc_store.specs.Interval.{IntervalRecord, index_of}
use Rattle.lrc_store.specs.Store.{StoredRecord, NoticeRecord, interval_of}
use Rattle.lrc_copies.specs.Stamps.{stamp_index, AreStamped}
use Rattle.lrc_protocol.specs.Times.{is_named}
use Rattle.lrc_protocol.specs.Pages.{Copy, valid, written, invalid, absent, Memory, copy_at, learned}
use Rattle.lrc_protocol.specs.Node.{Node}
use Rattle.lrc_node_laws.specs.Ranges.{InRange}
use Rattle.lrc_node_laws.specs.Remembered.{IsBetween}
use Rattle.lrc_node_laws.specs.Waits.{NoneWritten}
use Rattle.lrc_node_laws.proofs.Change.{view_of, News, pages_in}
use Rattle.lrc_node_laws.proofs.Opened.{unwritten-at}
use Rattle.lrc_reading_laws.specs.Made.{AllMade}
use Rattle.lrc_reading_laws.specs.Written.{made_stamps, word_on, changes_on}
use Rattle.lrc_reading_laws.proofs.Closed.Stored.{Member, made_at, index_in, in_index, in_range, from_range}
use Rattle.lrc_reading_laws.proofs.Collected.Keepers.{names, Namer, namer_of, is_named_by}
use Rattle.lrc_reading_laws.proofs.Fitting.First.{list_any-in}
use Rattle.lrc_reading_laws.proofs.Fitting.Later.{AtView}
use Rattle.lrc_reading_laws.proofs.Fitting.Repair.{unnamed, named_is}
use Rattle.lrc_reading_laws.proofs.Stamped.Lists.{HasRecord, interval-from, found_once}
use Rattle.lrc_reading_laws.proofs.Stamped.Made.{AreListed}
use Rattle.lrc_exact.specs.LocalRule.{last_state}
use Rattle.lrc_exact.specs.Memory.{Rank, Word}
use Rattle.lrc_exact.specs.Rule.{Knowledge, State, nothing_known, with_learned, with_arrived, known_by_all, known_together, with_news, names_between}
use Rattle.lrc_exact.specs.Rule.{acquired, closed, is_named as names_page}
use Rattle.lrc_exact.proofs.LocalRules.{last-cases}
use Rattle.lrc_exact_known.specs.Learned.{IsNews, TakesHighest, unchanged, taken}
use Rattle.lrc_exact_known.proofs.Highest.{learned_is_highest}
use Rattle.lrc_exact_reading.proofs.Staleness.{IsNamedBy, named-from}
use Rattle.lrc_exact_made.specs.Copies.{IsChangeBetween, unmarked, HasExact}
use Rattle.lrc_exact_made.specs.Steps.{IsNewsTo}
use Rattle.lrc_exact_made.proofs.Learning.{together_exactly, learns_nothing, learned_nothing}
use Rattle.lrc_exact_pages.specs.Pages.{IsNamedBetween, HasPage, HasPages, NamesNews}
use Rattle.lrc_exact_pages.proofs.Learning.{learns_pages}
use Rattle.lrc_exact_turns.proofs.Stands.{KnowsMade}

-- ---- knowledge

-- what is learned together is of intervals that were made
together : (size : Size) (made : List StoredRecord) (mine yours : Knowledge) → KnowsMade size made mine → KnowsMade size made yours
    → KnowsMade size made (known_together mine yours)
together size made mine yours a b = record {
  exactly = together_exactly size made mine yours a.exactly b.exactly;
  reach = λ q k some most.
      let both : entry (joined mine.time yours.time) q ≡ max (entry mine.time q) (entry yours.time q) = entry-joined mine.time yours.time q in
      elim (cases_lt (entry mine.time q) k) [ inl over ↦ b.reach q k some (omega arith) | inr under ↦ a.reach q k some under ];
}

nothing_made : (size : Size) (nodes : ℕ) (made : List StoredRecord) → AreStamped made_stamps nodes made → KnowsMade size made (nothing_known nodes)
nothing_made size nodes made stamped = record {
  exactly = record {
    each = λ y c known. let none = entry-zeros nodes y.node in let begun = stamped.begun y c in absurd (omega arith);
  };
  reach = λ q k some most. let none = entry-zeros nodes q in absurd (omega arith);
}

pub all_made : (size : Size) (nodes : ℕ) (made : List StoredRecord) → AreStamped made_stamps nodes made → (arrived : ℕ → Option State)
    → ((q : ℕ) (s : State) → arrived q ≡ Some s → KnowsMade size made s.knows) → (n : ℕ) → KnowsMade size made (known_by_all n nodes arrived)
all_made size nodes made stamped arrived holds zero = nothing_made size nodes made stamped
all_made size nodes made stamped arrived holds (suc n) = by_one (arrived n) (holds n) (all_made size nodes made stamped arrived holds n)
  where
    by_one : (o : Option State) → ((s : State) → o ≡ Some s → KnowsMade size made s.knows) → KnowsMade size made (known_by_all n nodes arrived)
        → KnowsMade size made (with_arrived o (known_by_all n nodes arrived))
    by_one None one rest = rest
    by_one (Some s) one rest = together size made (known_by_all n nodes arrived) s.knows rest (one s refl)

-- a state that was found among these is one of them
pub found_state : (states : List State) (passes : ℕ → Bool) (j : ℕ) (s : State) → last_state passes states j ≡ Some s
    → (q : ℕ) × (slice_get states q ≡ Some s)
found_state states passes j s e =
    elim (last-cases passes states j) [
      | inl (none, never) ↦ absurd (no_some s (sym none ∙ e))
      | inr (q, lt, holds, last, is) ↦ (q, sym is ∙ e)
    ]
  where
    no_some : (s : State) → None ≡ Some s → ⊥
    no_some s e = cc

-- ---- where nothing is new

-- states with the same words, and of which the same pages are stale, have the same pages
pages_same : (size : Size) (made : List StoredRecord) (fixed : ℕ → ℕ → ℕ) (time : List ℕ) (memory : Memory) (state other : State)
    → HasPages size made fixed time memory state → HasExact size made time memory other → other.dropped ≡ state.dropped
    → ((page : ℕ) → other.stale page ≡ state.stale page)
    → ((word : ℕ) → other.words word ≡ state.words word) → HasPages size made fixed time memory other
pages_same size made fixed time memory state other h exact dropped stale words = record {
  exact = exact;
  dropped_is = dropped ∙ h.dropped_is;
  pages = λ page lt. by_copy page (copy_at memory page) (h.pages page lt);
}
  where
    by_copy : (page : ℕ) (copy : Copy) → HasPage size made (fixed page) memory.collected time page copy state
        → HasPage size made (fixed page) memory.collected time page copy other
    by_copy page (valid values) f = stale page ∙ f
    by_copy page (written values twin) f = stale page ∙ f
    by_copy page (invalid values since) f = stale page ∙ f
    by_copy page absent f = (
      λ offset lt.
          subst (TakesHighest (IsChangeBetween made page offset memory.collected time) (unmarked (fixed page offset))) (sym (words (word_on size page offset)))
          (f.0 offset lt),
      (λ is. f.1.0 (sym (stale page) ∙ is), λ b. stale page ∙ f.1.1 b),
    )

-- news of which all is known names no page
not_news : (nodes : ℕ) (had : List ℕ) (news : Knowledge) (page : ℕ) → Covers had news.time → names_page nodes had news page ≡ false
not_news zero had news page old = refl
not_news (suc node) had news page old =
    or_from (names_between (news.interval node) page (entry had node) (entry news.time node)) (names_page node had news page)
    (elim (cases_Bool (names_between (news.interval node) page (entry had node) (entry news.time node))) [
      | inl named ↦
          let by : IsNamedBy (news.interval node) page (entry had node) (entry news.time node) =
          named-from (news.interval node) page (entry had node) (entry news.time node) named in
          let new = by.new in
          let known = by.known in
          let most = old node in
          absurd (omega arith)
      | inr not ↦ not
    ])
    (not_news node had news page old)

module _ (size : Size) (nodes : ℕ) (made : List StoredRecord) (fixed : ℕ → ℕ → ℕ) (time : List ℕ) (memory : Memory) (state : State) (news : Knowledge)
    (old : Covers state.knows.time news.time) (same : joined state.knows.time news.time ≡ state.knows.time) where
  taken_none : (Changes : Rank → ℕ → Type 0) (now after : Word) → ((rank : Rank) (value : ℕ) → Changes rank value → ⊥) → TakesHighest Changes now after
      → after ≡ now
  taken_none Changes now after none (unchanged is least) = is
  taken_none Changes now after none (taken rank value change above is least) = absurd (none rank value change)

  word_stays : (word : ℕ) → (with_learned nodes news state).words word ≡ state.words word
  word_stays word =
      taken_none (IsNews nodes state.knows.time news word) (state.words word) (with_news nodes state.knows.time news word (state.words word))
      (λ rank value s.
      let new = s.change.new in
      let known = s.change.known in
      let most = old s.node in
      omega arith) (learned_is_highest nodes state.knows.time news word (state.words word))

  or_false : (a b : Bool) → b ≡ false → (a || b) ≡ a
  or_false true b e = refl
  or_false false b e = e

  stale_stays : (page : ℕ) → (with_learned nodes news state).stale page ≡ state.stale page
  stale_stays page = or_false (state.stale page) (names_page nodes state.knows.time news page) (not_news nodes state.knows.time news page old)

  pub learns_no_pages : HasPages size made fixed time memory state → HasPages size made fixed time memory (with_learned nodes news state)
  learns_no_pages h =
      pages_same size made fixed time memory state (with_learned nodes news state) h (learns_nothing size nodes made time memory state news old same h.exact)
      refl stale_stays word_stays

  learned_no_pages : HasPages size made fixed time memory (with_learned nodes news state) → HasPages size made fixed time memory state
  learned_no_pages h =
      pages_same size made fixed time memory (with_learned nodes news state) state h (learned_nothing size nodes made time memory state news old same h.exact)
      refl (λ page. sym (stale_stays page)) (λ word. sym (word_stays word))

-- ---- what comes

module _ (nodes : ℕ) (made : List StoredRecord) (node : Node) (count : node.setting.nodes ≡ nodes) (listed : AreListed nodes made)
    (stamped : AreStamped made_stamps nodes made) (a : AtView (view_of node)) (fixed : ℕ → ℕ → ℕ) (upto : List ℕ) (intervals : List IntervalRecord)
    (come : News (view_of node) upto intervals) (told : AllMade (map interval_of made) intervals) (quiet : NoneWritten node.memory) where
  abbrev size : Size
  size = node.options.size

  abbrev time : List ℕ
  time = node.locks.time

  -- an interval that was made is among those that came, if one with its node and index is
  of_member : (y : StoredRecord) → Contains made y → Member y.node (stamp_index made_stamps y) intervals → Contains intervals (interval_of y)
  of_member y member m =
      let r : HasRecord made m.i = interval-from made m.i (made_at (map interval_of made) intervals m.i told m.in_list) in
      let same : y ≡ r.x =
      found_once made y r.x listed.found member r.in_list
      (sym m.node_is ∙ ap (λ (i : IntervalRecord). i.node) (sym r.is))
      (sym m.index_is ∙ ap index_of (sym r.is)) in
      subst (Contains intervals) (sym r.is ∙ ap interval_of (sym same)) m.in_list

  -- one that is new is
  comes : (y : StoredRecord) → Contains made y → entry time y.node < stamp_index made_stamps y
      → stamp_index made_stamps y ≤ entry (joined time upto) y.node → Contains intervals (interval_of y)
  comes y member later known =
      let q : ℕ = y.node in
      let k : ℕ = stamp_index made_stamps y in
      let both : entry (joined time upto) q ≡ max (entry time q) (entry upto q) = entry-joined time upto q in
      let less : k ≤ entry upto q = omega arith in
      let within : q < node.setting.nodes = subst (λ n. q < n) (sym count) (listed.among y member) in
      of_member y member
      (in_index q k intervals
      (subst (λ ks. Contains ks k) (sym (come.between q within)) (in_range (entry time q + 1) (entry upto q - entry time q) k (omega arith) (omega arith))))

  not_named : (page : ℕ) → is_named intervals page ≡ false → (y : StoredRecord) → Contains made y → entry time y.node < stamp_index made_stamps y
      → stamp_index made_stamps y ≤ entry (joined time upto) y.node → changes_on page y ≡ []
  not_named page off y member later known =
      ap (λ o. unwrap_or (option_and_then (λ (notice : NoticeRecord). notice.changes) o) [])
      (unnamed page y (λ n.
      false≢true (sym off
      ∙ list_any-in (λ (i : IntervalRecord). list_any (λ named. named == page) i.pages) intervals (interval_of y) (comes y member later known) n)))

  -- what came names the pages that what is new names
  some_named : (page : ℕ) → is_named intervals page ≡ true → IsNamedBetween made page time (joined time upto)
  some_named page named =
      let n : (q : ℕ) × Namer intervals page q = namer_of intervals page named in
      let i : IntervalRecord = n.1.interval in
      let r : HasRecord made i = interval-from made i (made_at (map interval_of made) intervals i told n.1.among) in
      let within : i.node < node.setting.nodes =
      (All-contains (InRange node.setting.nodes (pages_in (view_of node))) intervals i come.each n.1.among).node in
      let some = from_range (entry time i.node + 1) (entry upto i.node - entry time i.node) (index_of i)
      (subst (λ ks. Contains ks (index_of i)) (come.between i.node within) (index_in i.node intervals i n.1.among refl)) in
      let least = some.0 in
      let most = some.1 in
      let both : entry (joined time upto) i.node ≡ max (entry time i.node) (entry upto i.node) = entry-joined time upto i.node in
      let later : entry time i.node < index_of i = omega arith in
      let known : index_of i ≤ entry (joined time upto) i.node = omega arith in
      record {
        interval = r.x;
        member = r.in_list;
        later = subst (λ i. entry time i.node < index_of i) (sym r.is) later;
        known = subst (λ i. index_of i ≤ entry (joined time upto) i.node) (sym r.is) known;
        named = sym (named_is page r.x.notices) ∙ ap (names page) r.is ∙ n.1.named;
      }

  none_named : (page : ℕ) → is_named intervals page ≡ false → IsNamedBetween made page time (joined time upto) → ⊥
  none_named page off b =
      false≢true (sym off
      ∙ is_named_by intervals page (interval_of b.interval) (comes b.interval b.member b.later b.known) (named_is page b.interval.notices ∙ b.named))

  pub news_names : NamesNews made time (joined time upto) intervals
  news_names = record { some = some_named; none = none_named }

  news_to : (all : Knowledge) → KnowsMade size made all → joined time all.time ≡ joined time upto
      → IsNewsTo size nodes made time node.memory all intervals (joined time upto)
  news_to all k same = record {
    exactly = k.exactly;
    reach = k.reach;
    after_is = same;
    among = listed.among;
    unnamed = not_named;
    unwritten = λ page. unwritten-at node.memory page quiet;
    remembered = λ page values since e.
        let between : IsBetween time node.memory page (invalid values since) = subst (IsBetween time node.memory page) e (a.between page) in
        between.1;
  }

  pub own_entry : entry (joined time upto) node.setting.me ≡ entry time node.setting.me
  own_entry =
      let both : entry (joined time upto) node.setting.me ≡ max (entry time node.setting.me) (entry upto node.setting.me) =
      entry-joined time upto node.setting.me in
      let less = come.own in
      omega arith

  -- a node that learns what these know
  pub learns-then : (state : State) (all : Knowledge) → KnowsMade size made all → HasPages size made fixed time node.memory state
      → (with_learned nodes all state).knows.time ≡ joined time upto
      → HasPages size made fixed (joined time upto) (learned time intervals node.memory) (with_learned nodes all state)
  learns-then state all k f timed =
      learns_pages size nodes made fixed time node.memory state all intervals (joined time upto) f
      (news_to all k (ap (λ t. joined t all.time) (sym f.exact.time_is) ∙ timed)) news_names a.exact.below

  -- the acquire of a grant
  pub grants-then : (now : State) (o : Option State) → ((s : State) → o ≡ Some s → KnowsMade size made s.knows)
      → HasPages size made fixed time node.memory (closed node.setting.me now)
      → (acquired nodes node.setting.me now o).knows.time ≡ joined time upto
      → HasPages size made fixed (joined time upto) (learned time intervals node.memory) (acquired nodes node.setting.me now o)
  grants-then now (Some released) holds f timed =
      learns-then (closed node.setting.me now) released.knows (holds released refl) f timed
  grants-then now None holds f timed =
      let state : State = closed node.setting.me now in
      let zero : List ℕ = zeros nodes in
      let long : length state.knows.time ≡ length zero = ap length f.exact.time_is ∙ a.ranged.time ∙ count ∙ sym (length-zeros nodes) in
      let old : Covers state.knows.time zero = covers-zeros state.knows.time nodes in
      let same : joined state.knows.time zero ≡ state.knows.time = joined-covers state.knows.time zero long old in
      learned_no_pages size nodes made fixed (joined time upto) (learned time intervals node.memory) state (nothing_known nodes) old same
      (learns-then state (nothing_known nodes) (nothing_made size nodes made stamped) f (same ∙ timed))
