-- A node stores exactly the intervals between what it collected and its time, and every change keeps it so.
use Rattle.std.proofs.Common.{◌≡◌, ℕ, ◌+◌, ◌-◌, ◌<◌, ◌≤◌, List, [], ◌∷◌, ◌++◌, length, max, refl, sym, ap, subst, ◌∙◌, ⊎_elim, arith}
use Rattle.std.specs.Prelude.{All, fold, slice_set}
use Rattle.std.specs.List.{range_with_len}
use Rattle.std.proofs.lemmas.Bool.{cases_eq, cases_lt}
use Rattle.std.proofs.lemmas.List.{get_or_past}
use Rattle.std.proofs.lemmas.List.Elements.{All-weaker}
use Rattle.lrc_time.specs.Time.{entry, Covers, joined}
use Rattle.lrc_time.proofs.Times.{same_times, covers-refl, covers-trans, covers-raised, covers-joined_first}
use Rattle.lrc_time.proofs.Times.{entry-joined, length-joined_same, entry-set_same, entry-set_other}
use Rattle.lrc_store.specs.Interval.{IntervalRecord, index_of}
use Rattle.lrc_store.specs.Store.{StoreRecord, IsStore, intervals_of, added, discarded}
use Rattle.lrc_store.proofs.Stores.{intervals_of-added, intervals_of-discarded}
use Rattle.lrc_protocol.specs.Times.{indices_by, next_time}
use Rattle.lrc_protocol.specs.Pages.{Memory, all_changes, closed_interval, with_interval, learned}
use Rattle.lrc_protocol.specs.Barriers.{after_collection}
use Rattle.lrc_node_laws.specs.Ranges.{InRange, HasRanges, CollectsAt}
use Rattle.lrc_node_laws.specs.Stored.{StoresExactly}
use Rattle.lrc_node_laws.proofs.Stores.{SameIntervals, append_none, own-same, parts-same, Longer, learned-longer, length-last_with, last_with}
use Rattle.lrc_node_laws.proofs.Indices.{Ascends, range-join, range-below, range-ascends, indices-append, indices-here}
use Rattle.lrc_node_laws.proofs.Indices.{indices-there, indices-none, entry-last_next, by_indices, by_node-ascend, none_left}
use Rattle.lrc_node_laws.proofs.Change.{View, pages_in, News, Change, receives, manages, moves, puts, closes, learns, resumes}
use Rattle.lrc_node_laws.proofs.Change.{begins, cleans, discards, misses, mends, gets_changes, gets_page}
use Rattle.lrc_node_laws.proofs.Ranges.{SameRest, copy-same, clean-same, Ranged}

-- the same intervals, and the same collected time
exact-same : (time : List ℕ) (a b : Memory) → SameIntervals a.store b.store → b.collected ≡ a.collected → StoresExactly time a → StoresExactly time b
exact-same time a b s c h = record {
  last = s.last ∙ h.last;
  below = subst (Covers time) (sym c) h.below;
  stored = λ q. ap (λ l. indices_by l q) s.intervals ∙ h.stored q ∙ ap (λ (l : List ℕ). range_with_len (entry l q + 1) (entry time q - entry l q)) (sym c);
}

rest-intervals : (a b : Memory) → SameRest a b → SameIntervals a.store b.store
rest-intervals a b s = record {
  pages = ap (λ (x : StoreRecord). x.pages) s.store;
  last = ap (λ (x : StoreRecord). x.last) s.store;
  intervals = ap intervals_of s.store;
}

exact-rest : (time : List ℕ) (a b : Memory) → SameRest a b → StoresExactly time a → StoresExactly time b
exact-rest time a b s h = exact-same time a b (rest-intervals a b s) s.collected h

-- what is stored is within the node's time
pub stored-within : (time : List ℕ) (memory : Memory) → StoresExactly time memory
    → All (λ (i : IntervalRecord). index_of i ≤ entry time i.node) (intervals_of memory.store)
stored-within time memory h =
    by_indices (λ q k. k ≤ entry time q) (intervals_of memory.store)
    (λ q. subst (All (λ k. k ≤ entry time q)) (sym (h.stored q))
    (range-below (entry memory.collected q + 1) (entry time q - entry memory.collected q) (entry time q) (omega (arith, h.below q))))

-- ---- an interval is closed

module _ (nodes pages me : ℕ) (time : List ℕ) (memory : Memory) (lt : me < nodes) (long : length time ≡ nodes) (h : StoresExactly time memory) where
  pub own-entry : entry (next_time me time) me ≡ entry time me + 1
  own-entry = entry-set_same time me (entry time me + 1) (omega (arith, lt, long))

  closed-here : (q : ℕ) → me ≡ q
      → indices_by (intervals_of memory.store ++ closed_interval me (next_time me time) memory ∷ []) q
      ≡ range_with_len (entry memory.collected q + 1) (entry (next_time me time) q - entry memory.collected q)
  closed-here q e =
      let i : IntervalRecord = closed_interval me (next_time me time) memory in
      let c : ℕ = entry memory.collected q in
      let now : ℕ = entry time q in
      let raised : entry (next_time me time) q ≡ now + 1 = subst (λ k. entry (next_time me time) k ≡ entry time k + 1) e own-entry in
      let within : c ≤ now = h.below q in
      let here : index_of i ≡ (c + 1) + (now - c) = ap (entry (next_time me time)) e ∙ raised ∙ omega arith in
      let more : (now - c) + 1 ≡ entry (next_time me time) q - c = omega arith in
      indices-append (intervals_of memory.store) (i ∷ []) q
      ∙ ap (λ l. l ++ indices_by (i ∷ []) q) (h.stored q)
      ∙ ap (λ l. range_with_len (c + 1) (now - c) ++ l) (indices-here i [] q e ∙ ap (λ k. k ∷ []) here)
      ∙ range-join (c + 1) (now - c) 1
      ∙ ap (range_with_len (c + 1)) more

  closed-there : (q : ℕ) → (me ≡ q → ⊥)
      → indices_by (intervals_of memory.store ++ closed_interval me (next_time me time) memory ∷ []) q
      ≡ range_with_len (entry memory.collected q + 1) (entry (next_time me time) q - entry memory.collected q)
  closed-there q ne =
      let i : IntervalRecord = closed_interval me (next_time me time) memory in
      let c : ℕ = entry memory.collected q in
      let same : entry (next_time me time) q ≡ entry time q = entry-set_other time me (entry time me + 1) q (λ e. ne (sym e)) in
      indices-append (intervals_of memory.store) (i ∷ []) q
      ∙ ap (λ l. l ++ indices_by (i ∷ []) q) (h.stored q)
      ∙ ap (λ l. range_with_len (c + 1) (entry time q - c) ++ l) (indices-there i [] q ne)
      ∙ sym (append_none (range_with_len (c + 1) (entry time q - c)))
      ∙ ap (λ k. range_with_len (c + 1) (k - c)) (sym same)

  pub closes-exact : StoresExactly (next_time me time) (with_interval me (next_time me time) memory)
  closes-exact =
      let i : IntervalRecord = closed_interval me (next_time me time) memory in
      let same : SameIntervals (added memory.store i) (with_interval me (next_time me time) memory).store =
      own-same me (entry (next_time me time) me) (all_changes memory) (added memory.store i) in
      let intervals : intervals_of (with_interval me (next_time me time) memory).store ≡ intervals_of memory.store ++ i ∷ [] =
      same.intervals ∙ intervals_of-added memory.store i in
      record {
        last =
            same.last
            ∙ ap (λ l. slice_set l me (index_of i)) h.last
            ∙ ap (slice_set time me) own-entry;
        below = covers-trans (next_time me time) time memory.collected (covers-raised time me (entry time me + 1) (omega arith)) h.below;
        stored = λ q. ap (λ l. indices_by l q) intervals ∙ ⊎_elim (closed-here q) (closed-there q) (cases_eq me q);
      }

-- ---- intervals of other nodes are learned

module _ (v : View) (time : List ℕ) (intervals : List IntervalRecord) (news : News v time intervals) (ranged : Ranged v)
    (h : StoresExactly v.time v.memory) where
  below : All (λ (i : IntervalRecord). i.node < v.setting.nodes) intervals
  below =
      All-weaker (InRange v.setting.nodes (pages_in v)) (λ (i : IntervalRecord). i.node < v.setting.nodes) (λ i r. r.node) intervals news.each

  -- of every number, also where there is no such node
  pub next-indices : (q : ℕ) → indices_by intervals q ≡ range_with_len (entry v.time q + 1) (entry time q - entry v.time q)
  next-indices q =
      ⊎_elim (λ lt. news.between q lt)
      (λ le.
      let past : entry time q ≡ 0 = get_or_past time q 0 (omega (arith, le, news.counted)) in
      let none : 0 ≡ entry time q - entry v.time q = omega arith in
      indices-none v.setting.nodes intervals below q le ∙ ap (range_with_len (entry v.time q + 1)) none)
      (cases_lt q v.setting.nodes)

  last-joined : fold last_with v.memory.store.last intervals ≡ joined v.time time
  last-joined =
      let counted : length v.memory.store.last ≡ v.setting.nodes = ranged.memory.store_nodes in
      same_times _ _
      (length-last_with intervals v.memory.store.last ∙ counted ∙ sym ranged.time ∙ sym (length-joined_same v.time time (ranged.time ∙ sym news.counted)))
      (λ q.
      let next : indices_by intervals q ≡ range_with_len (entry v.memory.store.last q + 1) (entry time q - entry v.memory.store.last q) =
      next-indices q ∙ ap (λ l. range_with_len (entry l q + 1) (entry time q - entry l q)) (sym h.last) in
      entry-last_next intervals v.memory.store.last v.setting.nodes counted below q (entry time q) next
      ∙ ap (λ l. max (entry l q) (entry time q)) h.last
      ∙ sym (entry-joined v.time time q))

  learned-indices : (q : ℕ) → indices_by (intervals_of v.memory.store ++ intervals) q
      ≡ range_with_len (entry v.memory.collected q + 1) (entry (joined v.time time) q - entry v.memory.collected q)
  learned-indices q =
      let c : ℕ = entry v.memory.collected q in
      let now : ℕ = entry v.time q in
      let upto : ℕ = entry time q in
      let within : c ≤ now = h.below q in
      let from : now + 1 ≡ (c + 1) + (now - c) = omega arith in
      let upper : entry (joined v.time time) q ≡ max now upto = entry-joined v.time time q in
      let many : (now - c) + (upto - now) ≡ entry (joined v.time time) q - c = omega arith in
      indices-append (intervals_of v.memory.store) intervals q
      ∙ ap (λ l. l ++ indices_by intervals q) (h.stored q)
      ∙ ap (λ l. range_with_len (c + 1) (now - c) ++ l) (next-indices q ∙ ap (λ k. range_with_len k (upto - now)) from)
      ∙ range-join (c + 1) (now - c) (upto - now)
      ∙ ap (range_with_len (c + 1)) many

  pub learns-exact : StoresExactly (joined v.time time) (learned v.time intervals v.memory)
  learns-exact =
      let longer : Longer v.memory.store intervals (fold added v.memory.store intervals) = learned-longer intervals v.memory.store in
      record {
        last = longer.last ∙ last-joined;
        below = covers-trans (joined v.time time) v.time v.memory.collected (covers-joined_first v.time time) h.below;
        stored = λ q. ap (λ l. indices_by l q) longer.intervals ∙ learned-indices q;
      }

-- ---- all is collected

pub nothing-left : (time : List ℕ) (memory : Memory) → StoresExactly time memory → intervals_of (discarded memory.store time) ≡ []
nothing-left time memory h =
    intervals_of-discarded memory.store time ∙ none_left time (intervals_of memory.store) (stored-within time memory h)

discards-exact : (me : ℕ) (time : List ℕ) (memory : Memory) → StoresExactly time memory → StoresExactly time (after_collection me time memory)
discards-exact me time memory h = record {
  last = h.last;
  below = covers-refl time;
  stored = λ q.
      let none : 0 ≡ entry time q - entry time q = omega arith in
      ap (λ l. indices_by l q) (nothing-left time memory h) ∙ ap (range_with_len (entry time q + 1)) none;
}

-- ---- every change

pub exact-kept : (v after : View) → Change v after → Ranged v → StoresExactly v.time v.memory → StoresExactly after.time after.memory
exact-kept v _ (receives from numbers) r h = h
exact-kept v _ (manages before manager e many) r h = h
exact-kept v _ (moves course n) r h = h
exact-kept v _ (puts word value w) r h = exact-rest v.time v.memory _ (copy-same v.memory _ _) h
exact-kept v _ (closes wait w s) r h = closes-exact v.setting.nodes (pages_in v) v.setting.me v.time v.memory r.me r.time h
exact-kept v _ (learns time intervals o news) r h = learns-exact v time intervals news r h
exact-kept v _ (resumes o) r h = h
exact-kept v _ (begins before time w t c long) r h = exact-same v.time v.memory _ (record { pages = refl; last = refl; intervals = refl }) refl h
exact-kept v _ (cleans collection needs w met) r h = exact-rest v.time v.memory _ (clean-same needs collection.kept v.memory) h
exact-kept v _ (discards collection w) r h =
    let same : collection.time ≡ v.time = subst (CollectsAt v.time) w r.present in
    subst (λ t. StoresExactly v.time (after_collection v.setting.me t v.memory)) (sym same) (discards-exact v.setting.me v.time v.memory h)
exact-kept v _ (misses page w lt b n) r h = h
exact-kept v _ (mends need w met) r h = exact-rest v.time v.memory _ (copy-same v.memory _ _) h
exact-kept v _ (gets_changes from m e) r h = exact-same v.time v.memory _ (parts-same from m.page m.parts v.memory.store) refl h
exact-kept v _ (gets_page from page values s) r h = h

-- ---- so it is a store

pub is_store : (nodes pages : ℕ) (time : List ℕ) (memory : Memory) → HasRanges nodes pages memory → StoresExactly time memory → IsStore memory.store
is_store nodes pages time memory r h = record {
  stamps = All-weaker (InRange nodes pages) (λ (i : IntervalRecord). length i.stamp ≡ length memory.store.last)
      (λ i x. x.stamp ∙ sym r.store_nodes) (intervals_of memory.store) r.intervals;
  pages = All-weaker (InRange nodes pages) (λ (i : IntervalRecord). All (λ page. page < memory.store.pages) i.pages)
      (λ i x. subst (λ n. All (λ page. page < n) i.pages) (sym r.store_pages) x.named) (intervals_of memory.store) r.intervals;
  counted = subst (λ l. All (λ (i : IntervalRecord). index_of i ≤ entry l i.node) (intervals_of memory.store)) (sym h.last) (stored-within time memory h);
  ascending = by_node-ascend (intervals_of memory.store)
      (λ q. subst Ascends (sym (h.stored q)) (range-ascends (entry memory.collected q + 1) (entry time q - entry memory.collected q)));
}
