-- When a time knows the first notices of a page.
use Rattle.std.proofs.Common.{◌≡◌, ℕ, ◌+◌, ◌-◌, ◌<◌, ◌≤◌, ◌∙◌, Bool, true, false, not, List, [], ◌∷◌, ◌++◌, length, get_or, refl, ap, sym, subst, ⊎_elim, arith}
use Rattle.std.specs.List.{All, AllPairs, filter, flat_map}
use Rattle.std.proofs.lemmas.Bool.{true≢false, cases_lt, le-leb, lt-leb}
use Rattle.std.proofs.lemmas.Grind.{flat_map-append}
use Rattle.std.proofs.lemmas.List.{append-nil, get_or_append_left, get_or-append_right, get_or-map, length-append, length-map}
use Rattle.std.proofs.lemmas.List.Concat.{flat_map-cons}
use Rattle.std.proofs.lemmas.List.Elements.{All-append, All-head, All-tail}
use Rattle.std.proofs.lemmas.List.Kept.{AllPairs-filter}
use Rattle.lrc_time.specs.Time.{Covers, entry}
use Rattle.lrc_page.specs.declared.changes.Change.{Change}
use Rattle.lrc_store.specs.declared.key.Key.{Key}
use Rattle.lrc_store.specs.Interval.{IntervalRecord, index_of}
use Rattle.lrc_store.specs.Lists.{KnowsTheFirst, keys_of, knows_notice, notices_of}
use Rattle.lrc_store.specs.Store.{StoreRecord, IsStore, added, attached, discarded, intervals_of, is_covered, key_of}
use Rattle.lrc_store.proofs.Filtered.{filter-flat_map}
use Rattle.lrc_store.proofs.Stores.{intervals_of-added, intervals_of-attached, intervals_of-discarded}

-- what is to hold of two notices
abbrev Ordered : ℕ → List ℕ → Key → Key → Type 0
Ordered page since earlier later =
    earlier.page ≡ page → later.page ≡ page → knows_notice since later ≡ true → knows_notice since earlier ≡ true

-- ---- all or none

keys_covered : (last : List ℕ) (intervals : List IntervalRecord) → All (λ i. index_of i ≤ entry last i.node) intervals
    → All (λ key. knows_notice last key ≡ true) (flat_map keys_of intervals)
keys_covered last [] below = λ k d within. absurd (omega (arith, within))
keys_covered last (i ∷ is) below =
    subst (All (λ key. knows_notice last key ≡ true)) (sym (flat_map-cons keys_of i is))
    (All-append (λ key. knows_notice last key ≡ true) (keys_of i) (flat_map keys_of is)
    (λ k d within.
    let inside : k < length i.pages = omega (arith, within, length-map i.pages (λ page. key_of page i)) in
    ap (knows_notice last) (get_or-map (λ page. key_of page i) i.pages k 0 d inside)
    ∙ le-leb (index_of i) (entry last i.node) (All-head (λ j. index_of j ≤ entry last j.node) i is below))
    (keys_covered last is (All-tail (λ j. index_of j ≤ entry last j.node) i is below)))

pub last-known : (store : StoreRecord) (page : ℕ) → IsStore store → KnowsTheFirst store page store.last
last-known store page sound = λ i j d less within here there known.
    keys_covered store.last (intervals_of store) sound.counted i d (omega (arith, less, within))

pub none-known : (store : StoreRecord) (page : ℕ) (since : List ℕ) → All (λ key. not (knows_notice since key) ≡ true) (notices_of store)
    → KnowsTheFirst store page since
none-known store page since none = λ i j d less within here there known.
    absurd (true≢false (sym (none j d within) ∙ ap not known))

-- ---- an interval more

-- of an interval all notices are known, or none
keys_alike : (since : List ℕ) (interval : IntervalRecord) (b : Bool) → is_covered since interval ≡ b
    → All (λ key. knows_notice since key ≡ b) (keys_of interval)
keys_alike since interval b is = λ k d within.
    let inside : k < length interval.pages = omega (arith, within, length-map interval.pages (λ page. key_of page interval)) in
    ap (knows_notice since) (get_or-map (λ page. key_of page interval) interval.pages k 0 d inside) ∙ is

-- behind there is nothing that is known
ordered_behind : (page : ℕ) (since : List ℕ) (front back : List Key) → AllPairs (Ordered page since) front
    → All (λ key. knows_notice since key ≡ false) back → AllPairs (Ordered page since) (front ++ back)
ordered_behind page since front back before none = λ i j d less within.
    ⊎_elim
    (λ (old : j < length front).
    let a : get_or (front ++ back) i d ≡ get_or front i d = get_or_append_left front back d i (omega (arith, less, old)) in
    let b : get_or (front ++ back) j d ≡ get_or front j d = get_or_append_left front back d j old in
    subst (λ (k : Key). Ordered page since k (get_or (front ++ back) j d)) (sym a)
    (subst (Ordered page since (get_or front i d)) (sym b) (before i j d less old)))
    (λ (new : length front ≤ j).
    let b : get_or (front ++ back) j d ≡ get_or back (j - length front) d = get_or-append_right front back (length front) j d refl new in
    let unknown : knows_notice since (get_or (front ++ back) j d) ≡ false =
    ap (knows_notice since) b ∙ none (j - length front) d (omega (arith, within, new, length-append front back)) in
    λ here there known. absurd (true≢false (sym known ∙ unknown)))
    (cases_lt j (length front))

not_true : (b : Bool) → not b ≡ true → b ≡ false
not_true true is = absurd (true≢false (sym is))
not_true false is = refl

notices_of-added : (store : StoreRecord) (interval : IntervalRecord) → notices_of (added store interval) ≡ notices_of store ++ keys_of interval
notices_of-added store interval =
    ap (flat_map keys_of) (intervals_of-added store interval)
    ∙ flat_map-append keys_of (intervals_of store) (interval ∷ [])
    ∙ ap (λ (l : List Key). notices_of store ++ l) (flat_map-cons keys_of interval [] ∙ append-nil (keys_of interval))

pub known-added : (store : StoreRecord) (interval : IntervalRecord) (page : ℕ) (since : List ℕ) → KnowsTheFirst store page since
    → not (is_covered since interval) ≡ true → KnowsTheFirst (added store interval) page since
known-added store interval page since before new =
    subst (AllPairs (Ordered page since)) (sym (notices_of-added store interval))
    (ordered_behind page since (notices_of store) (keys_of interval) before
    (keys_alike since interval false (not_true (is_covered since interval) new)))

-- the next interval of a node is beyond every time that the last indices cover
pub known-next : (store : StoreRecord) (interval : IntervalRecord) (page : ℕ) (since : List ℕ) → KnowsTheFirst store page since
    → Covers store.last since → index_of interval ≡ entry store.last interval.node + 1 → KnowsTheFirst (added store interval) page since
known-next store interval page since before covers next =
    let beyond : entry since interval.node < index_of interval = omega (arith, covers interval.node, next) in
    known-added store interval page since before (ap not (lt-leb (index_of interval) (entry since interval.node) beyond))

-- ---- changes come

pub known-attached : (store : StoreRecord) (key : Key) (changes : List Change) (page : ℕ) (since : List ℕ)
    → KnowsTheFirst store page since → KnowsTheFirst (attached store key changes) page since
known-attached store key changes page since before =
    subst (λ (l : List IntervalRecord). AllPairs (Ordered page since) (flat_map keys_of l)) (sym (intervals_of-attached store key changes)) before

-- ---- intervals are taken out

abbrev stays : List ℕ → Key → Bool
stays time key = not (knows_notice time key)

keys_stay : (time : List ℕ) (interval : IntervalRecord) → All (λ key. stays time key ≡ not (is_covered time interval)) (keys_of interval)
keys_stay time interval = λ k d within. ap not (keys_alike time interval (is_covered time interval) refl k d within)

pub known-discarded : (store : StoreRecord) (time : List ℕ) (page : ℕ) (since : List ℕ) → KnowsTheFirst store page since
    → KnowsTheFirst (discarded store time) page since
known-discarded store time page since before =
    let same : filter (stays time) (notices_of store) ≡ notices_of (discarded store time) =
    filter-flat_map keys_of (λ i. not (is_covered time i)) (stays time) (keys_stay time) (intervals_of store)
    ∙ ap (flat_map keys_of) (sym (intervals_of-discarded store time)) in
    subst (AllPairs (Ordered page since)) same (AllPairs-filter (Ordered page since) (stays time) (notices_of store) before)
