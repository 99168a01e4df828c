-- The ranges of a node's memory and times are kept by every change.
use Rattle.std.proofs.Common.{◌≡◌, ℕ, ◌<◌, List, [], ◌∷◌, ◌++◌, Bool, true, false, length, refl, sym, ap, subst, ◌∙◌, arith}
use Rattle.std.specs.Prelude.{Option, Some, None, All, not, ◌==◌, fold, map, option_map, unwrap_or, if◌then◌else◌}
use Rattle.std.specs.List.{enumerate_from}
use Rattle.std.proofs.lemmas.Option.{same_Some}
use Rattle.std.proofs.lemmas.List.{length-map, length-set}
use Rattle.std.proofs.lemmas.List.Elements.{All-nil, All-cons, All-append, All-filter, All-map}
use Rattle.lrc_time.specs.Time.{entry, covers, joined}
use Rattle.lrc_time.proofs.Times.{length-joined_same, entry-joined, same_times, covers-true}
use Rattle.lrc_page.specs.declared.changes.Change.{Change as PageChange}
use Rattle.lrc_store.specs.Interval.{IntervalRecord}
use Rattle.lrc_store.specs.Store.{StoreRecord, intervals_of, added, is_covered}
use Rattle.lrc_store.proofs.Stores.{intervals_of-added, intervals_of-discarded}
use Rattle.lrc_protocol.specs.Times.{is_named, next_time}
use Rattle.lrc_protocol.specs.Pages.{Copy, changes_of, closed, invalidated, dropped, Memory, with_copy, all_changes, closed_interval}
use Rattle.lrc_protocol.specs.Pages.{with_interval, learned, keeper_at, Need, repaired}
use Rattle.lrc_protocol.specs.Barriers.{least, namers_of, with_keepers, with_base, after_collection, clean_memory}
use Rattle.lrc_protocol.specs.Node.{Wait, nothing, grant, departure, access, upkeep, discard}
use Rattle.lrc_protocol.specs.Turn.{with_needs}
use Rattle.lrc_node_laws.specs.Ranges.{InRange, HasRanges, CollectsAt}
use Rattle.lrc_node_laws.proofs.Lists.{length-placed, All-placed, All-chosen, places-below, least_or-below}
use Rattle.lrc_node_laws.proofs.Stores.{SameIntervals, own-same, parts-same, Longer, learned-longer, length-last_with}
use Rattle.lrc_node_laws.proofs.Change.{View, pages_in, Change, receives, manages, moves, puts, closes, learns, resumes, begins}
use Rattle.lrc_node_laws.proofs.Change.{cleans, discards, misses, mends, gets_changes, gets_page, is_settled, is_open}

-- ---- parts of a memory

-- the same but for copies and base copies
pub record SameRest (a b : Memory) : Type 0 where
  pub copies : length b.copies ≡ length a.copies
  pub bases : length b.bases ≡ length a.bases
  pub keepers : b.keepers ≡ a.keepers
  pub store : b.store ≡ a.store
  pub collected : b.collected ≡ a.collected

same_rest : (a : Memory) → SameRest a a
same_rest a = record { copies = refl; bases = refl; keepers = refl; store = refl; collected = refl }

then_same : (a b c : Memory) → SameRest a b → SameRest b c → SameRest a c
then_same a b c x y = record {
  copies = y.copies ∙ x.copies;
  bases = y.bases ∙ x.bases;
  keepers = y.keepers ∙ x.keepers;
  store = y.store ∙ x.store;
  collected = y.collected ∙ x.collected;
}

pub copy-same : (memory : Memory) (page : ℕ) (copy : Copy) → SameRest memory (with_copy memory page copy)
copy-same memory page copy = record { copies = length-set memory.copies page copy; bases = refl; keepers = refl; store = refl; collected = refl }

pub mends-same : (needs : List Need) (memory : Memory) → SameRest memory (fold repaired memory needs)
mends-same [] memory = same_rest memory
mends-same (need ∷ needs) memory =
    then_same memory (repaired memory need) (fold repaired (repaired memory need) needs) (copy-same memory need.page _) (mends-same needs (repaired memory need))

pub bases-same : (kept : List ℕ) (memory : Memory) → SameRest memory (fold with_base memory kept)
bases-same [] memory = same_rest memory
bases-same (page ∷ kept) memory =
    then_same memory (with_base memory page) (fold with_base (with_base memory page) kept)
    (record { copies = refl; bases = length-set memory.bases page _; keepers = refl; store = refl; collected = refl })
    (bases-same kept (with_base memory page))

pub clean-same : (needs : List Need) (kept : List ℕ) (memory : Memory) → SameRest memory (clean_memory needs kept memory)
clean-same needs kept memory =
    then_same memory (fold repaired memory needs) (clean_memory needs kept memory) (mends-same needs memory) (bases-same kept (fold repaired memory needs))

-- ---- ranges

rest-ranges : (nodes pages : ℕ) (a b : Memory) → SameRest a b → HasRanges nodes pages a → HasRanges nodes pages b
rest-ranges nodes pages a b s h = record {
  copies = s.copies ∙ h.copies;
  bases = s.bases ∙ h.bases;
  keepers = ap length s.keepers ∙ h.keepers;
  keeping = subst (All (λ keeper. keeper < nodes)) (sym s.keepers) h.keeping;
  collected = ap length s.collected ∙ h.collected;
  store_pages = ap (λ (x : StoreRecord). x.pages) s.store ∙ h.store_pages;
  store_nodes = ap (λ (x : StoreRecord). length x.last) s.store ∙ h.store_nodes;
  intervals = subst (λ x. All (InRange nodes pages) (intervals_of x)) (sym s.store) h.intervals;
}

-- with another store for as many nodes and pages
store-ranges : (nodes pages : ℕ) (memory : Memory) (store : StoreRecord) (copies : List Copy) → length copies ≡ length memory.copies
    → store.pages ≡ pages → length store.last ≡ nodes → All (InRange nodes pages) (intervals_of store)
    → HasRanges nodes pages memory → HasRanges nodes pages (record memory { store = store; copies = copies })
store-ranges nodes pages memory store copies long in_pages in_nodes each h = record {
  copies = long ∙ h.copies;
  bases = h.bases;
  keepers = h.keepers;
  keeping = h.keeping;
  collected = h.collected;
  store_pages = in_pages;
  store_nodes = in_nodes;
  intervals = each;
}

All_one : {X : Type 0} (P : X → Type 0) (x : X) → P x → All P (x ∷ [])
All_one P x p = All-cons P x [] p (All-nil P)

-- the pages that an interval of the node names are pages
change-place : (n : ℕ) (place : ℕ × Copy) (page : ℕ × List PageChange) (o : Option (List PageChange)) → place.0 < n
    → option_map (λ changes. (place.0, changes)) o ≡ Some page → page.0 < n
change-place n place page None lt e = cc
change-place n place page (Some changes) lt e =
    subst (λ k. k < n) (ap (λ (p : ℕ × List PageChange). p.0) (same_Some (place.0, changes) page e)) lt

pub pages-closed : (memory : Memory) (pages : ℕ) → length memory.copies ≡ pages
    → All (λ page. page < pages) (map (λ (page : ℕ × List PageChange). page.0) (all_changes memory))
pages-closed memory pages long =
    All-map (λ page. page < pages) (λ (page : ℕ × List PageChange). page.0) (all_changes memory)
    (All-chosen (λ place. place.0 < pages) (λ (page : ℕ × List PageChange). page.0 < pages)
    (λ place. option_map (λ changes. (place.0, changes)) (changes_of place.1))
    (λ place page lt e. change-place pages place page (changes_of place.1) lt e)
    (enumerate_from 0 memory.copies) (places-below 0 pages memory.copies (omega arith)))

closes-ranges : (nodes pages me : ℕ) (stamp : List ℕ) (memory : Memory) → me < nodes → length stamp ≡ nodes
    → HasRanges nodes pages memory → HasRanges nodes pages (with_interval me stamp memory)
closes-ranges nodes pages me stamp memory lt long h =
    let i : IntervalRecord = closed_interval me stamp memory in
    let same : SameIntervals (added memory.store i) (with_interval me stamp memory).store =
    own-same me (entry stamp me) (all_changes memory) (added memory.store i) in
    let all : All (InRange nodes pages) (intervals_of memory.store ++ i ∷ []) =
    All-append (InRange nodes pages) (intervals_of memory.store) (i ∷ []) h.intervals
    (All_one (InRange nodes pages) i (record { node = lt; stamp = long; named = pages-closed memory pages h.copies })) in
    store-ranges nodes pages memory (with_interval me stamp memory).store (map closed memory.copies) (length-map memory.copies closed)
    (same.pages ∙ h.store_pages)
    (ap length same.last ∙ length-set memory.store.last me _ ∙ h.store_nodes)
    (subst (All (InRange nodes pages)) (sym (same.intervals ∙ intervals_of-added memory.store i)) all)
    h

learns-ranges : (nodes pages : ℕ) (before : List ℕ) (intervals : List IntervalRecord) (memory : Memory) → All (InRange nodes pages) intervals
    → HasRanges nodes pages memory → HasRanges nodes pages (learned before intervals memory)
learns-ranges nodes pages before intervals memory each h =
    let longer : Longer memory.store intervals (fold added memory.store intervals) = learned-longer intervals memory.store in
    store-ranges nodes pages memory (fold added memory.store intervals) (learned before intervals memory).copies
    (length-placed (λ place. if is_named intervals place.0 then invalidated before place.1 else place.1) memory.copies)
    (longer.pages ∙ h.store_pages)
    (ap length longer.last ∙ length-last_with intervals memory.store.last ∙ h.store_nodes)
    (subst (All (InRange nodes pages)) (sym longer.intervals)
    (All-append (InRange nodes pages) (intervals_of memory.store) intervals h.intervals each))
    h

namer-below : (nodes page : ℕ) (i : IntervalRecord) (b : Bool) (y : ℕ) → i.node < nodes → (if b then Some i.node else None) ≡ Some y → y < nodes
namer-below nodes page i true y lt e = subst (λ k. k < nodes) (same_Some i.node y e) lt
namer-below nodes page i false y lt e = cc

namers-below : (nodes pages page : ℕ) (store : StoreRecord) → All (InRange nodes pages) (intervals_of store) → All (λ node. node < nodes) (namers_of store page)
namers-below nodes pages page store each =
    All-chosen (InRange nodes pages) (λ node. node < nodes) (λ i. if is_named (i ∷ []) page then Some i.node else None)
    (λ i y r e. namer-below nodes page i (is_named (i ∷ []) page) y r.node e) (intervals_of store) each

pub keeps-ranges : (nodes pages : ℕ) (memory : Memory) → HasRanges nodes pages memory → HasRanges nodes pages (with_keepers memory)
keeps-ranges nodes pages memory h = record {
  copies = h.copies;
  bases = h.bases;
  keepers = length-placed (λ place. unwrap_or (least (namers_of memory.store place.0)) place.1) memory.keepers ∙ h.keepers;
  keeping =
      All-placed (λ keeper. keeper < nodes) (λ keeper. keeper < nodes) (λ place. unwrap_or (least (namers_of memory.store place.0)) place.1)
      (λ page keeper lt. least_or-below nodes (namers_of memory.store page) keeper (namers-below nodes pages page memory.store h.intervals) lt)
      0 memory.keepers h.keeping;
  collected = h.collected;
  store_pages = h.store_pages;
  store_nodes = h.store_nodes;
  intervals = h.intervals;
}

discards-ranges : (nodes pages me : ℕ) (time : List ℕ) (memory : Memory) → length time ≡ nodes → HasRanges nodes pages memory
    → HasRanges nodes pages (after_collection me time memory)
discards-ranges nodes pages me time memory long h = record {
  copies = length-map memory.copies dropped ∙ h.copies;
  bases = length-placed (λ (place : ℕ × Option (List ℕ)). if keeper_at memory place.0 == me then place.1 else None) memory.bases ∙ h.bases;
  keepers = h.keepers;
  keeping = h.keeping;
  collected = long;
  store_pages = h.store_pages;
  store_nodes = h.store_nodes;
  intervals =
      subst (All (InRange nodes pages)) (sym (intervals_of-discarded memory.store time))
      (All-filter (λ i. not (is_covered time i)) (InRange nodes pages) (intervals_of memory.store) h.intervals);
}

-- ---- times

-- the join with a time that covers the other, and has an entry for each node
pub joined-later : (a b : List ℕ) → covers b a ≡ true → length (joined a b) ≡ length b → joined a b ≡ b
joined-later a b c long = same_times (joined a b) b long (λ node. omega (arith, entry-joined a b node, covers-true b a c node))

-- of a view
pub record Ranged (v : View) : Type 0 where
  pub me : v.setting.me < v.setting.nodes
  pub time : length v.time ≡ v.setting.nodes
  pub present : CollectsAt v.time v.wait
  pub memory : HasRanges v.setting.nodes (pages_in v) v.memory

collects_not : (time : List ℕ) (w : Wait) → is_settled w ≡ true → CollectsAt time w
collects_not time nothing e = tt
collects_not time (grant lock) e = tt
collects_not time departure e = tt
collects_not time (access need) e = tt
collects_not time (upkeep collection needs) e = cc
collects_not time (discard collection) e = cc

collects_open : (time : List ℕ) (w : Wait) → is_open w ≡ true → CollectsAt time w
collects_open time nothing e = tt
collects_open time (grant lock) e = tt
collects_open time departure e = tt
collects_open time (access need) e = tt
collects_open time (upkeep collection needs) e = cc
collects_open time (discard collection) e = cc

collects_still : (time : List ℕ) (change : Need → Need) (w : Wait) → CollectsAt time w → CollectsAt time (with_needs change w)
collects_still time change nothing h = h
collects_still time change (grant lock) h = h
collects_still time change departure h = h
collects_still time change (access need) h = h
collects_still time change (upkeep collection needs) h = h
collects_still time change (discard collection) h = h

at_wait : (time : List ℕ) (w x : Wait) → w ≡ x → CollectsAt time w → CollectsAt time x
at_wait time w x e h = subst (CollectsAt time) e h

pub ranged-kept : (v after : View) → Change v after → Ranged v → Ranged after
ranged-kept v _ (receives from numbers) h = record { me = h.me; time = h.time; present = h.present; memory = h.memory }
ranged-kept v _ (manages before manager e many) h = record { me = h.me; time = h.time; present = h.present; memory = h.memory }
ranged-kept v _ (moves course n) h = record { me = h.me; time = h.time; present = h.present; memory = h.memory }
ranged-kept v _ (puts word value w) h = record {
  me = h.me;
  time = h.time;
  present = h.present;
  memory = rest-ranges _ _ v.memory _ (copy-same v.memory _ _) h.memory;
}
ranged-kept v _ (closes wait w s) h =
    let long : length (next_time v.setting.me v.time) ≡ v.setting.nodes = length-set v.time v.setting.me _ ∙ h.time in
    record {
      me = h.me;
      time = long;
      present = collects_not _ wait s;
      memory = closes-ranges _ _ v.setting.me _ v.memory h.me long h.memory;
    }
ranged-kept v _ (learns time intervals o news) h = record {
  me = h.me;
  time = length-joined_same v.time time (h.time ∙ sym news.counted) ∙ h.time;
  present = collects_open _ v.wait o;
  memory = learns-ranges _ _ v.time intervals v.memory news.each h.memory;
}
ranged-kept v _ (resumes o) h = record { me = h.me; time = h.time; present = tt; memory = h.memory }
ranged-kept v _ (begins before time w t c long) h = record {
  me = h.me;
  time = h.time;
  present = sym (t ∙ joined-later before time c (ap length (sym t) ∙ h.time ∙ sym long));
  memory = keeps-ranges _ _ v.memory h.memory;
}
ranged-kept v _ (cleans collection needs w met) h = record {
  me = h.me;
  time = h.time;
  present = at_wait v.time v.wait (upkeep collection needs) w h.present;
  memory = rest-ranges _ _ v.memory _ (clean-same needs collection.kept v.memory) h.memory;
}
ranged-kept v _ (discards collection w) h = record {
  me = h.me;
  time = h.time;
  present = tt;
  memory = discards-ranges _ _ v.setting.me collection.time v.memory (ap length (at_wait v.time v.wait (discard collection) w h.present) ∙ h.time) h.memory;
}
ranged-kept v _ (misses page w lt r n) h = record { me = h.me; time = h.time; present = tt; memory = h.memory }
ranged-kept v _ (mends need w met) h = record {
  me = h.me;
  time = h.time;
  present = tt;
  memory = rest-ranges _ _ v.memory _ (copy-same v.memory _ _) h.memory;
}
ranged-kept v _ (gets_changes from m r) h =
    let same : SameIntervals v.memory.store _ = parts-same from m.page m.parts v.memory.store in
    record {
      me = h.me;
      time = h.time;
      present = collects_still v.time _ v.wait h.present;
      memory =
          store-ranges _ _ v.memory _ v.memory.copies refl (same.pages ∙ h.memory.store_pages) (ap length same.last ∙ h.memory.store_nodes)
          (subst (All (InRange v.setting.nodes (pages_in v))) (sym same.intervals) h.memory.intervals) h.memory;
    }
ranged-kept v _ (gets_page from page values s) h = record { me = h.me; time = h.time; present = collects_still v.time _ v.wait h.present; memory = h.memory }
