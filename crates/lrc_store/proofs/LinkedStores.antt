-- What changes leave true of the links of a store.
use Rattle.std.proofs.Common.{◌≡◌, ℕ, zero, suc, ◌+◌, ◌<◌, ◌∙◌, Bool, true, false, not, ◌&&◌, ◌||◌, cond, eqb, eqb-true, List}
use Rattle.std.proofs.Common.{[], ◌∷◌, ◌++◌, length, get_or, set, map, refl, ap, sym, subst, arith, ◌≤◌}
use Rattle.std.specs.List.{All, AllPairs, filter, flat_map, list_any}
use Rattle.std.proofs.lemmas.Bool.{ne_eqb}
use Rattle.std.proofs.lemmas.Grind.{flat_map-append}
use Rattle.std.proofs.lemmas.List.{get_or-map, get_or-set_other, length-map, length-set, map-append, map_push, append-nil}
use Rattle.std.proofs.lemmas.List.Concat.{flat_map-cons}
use Rattle.std.proofs.lemmas.List.Elements.{All-append, All-filter, All-head, All-tail, All-push, filter-append}
use Rattle.lrc_time.specs.Time.{entry, knows}
use Rattle.lrc_page.specs.declared.changes.Change.{Change}
use Rattle.lrc_page.specs.Pages.{IsRising}
use Rattle.lrc_time.proofs.Times.{entry-set_same}
use Rattle.lrc_store.specs.declared.key.Key.{Key}
use Rattle.lrc_store.specs.Chains.{ChainsRecord}
use Rattle.lrc_store.specs.Nodes.{NodesRecord, AreStarts}
use Rattle.lrc_store.specs.Interval.{IntervalRecord, IsInterval, index_of}
use Rattle.std.specs.Option.{option_map}
use Rattle.std.specs.List.{slice_get}
use Rattle.std.proofs.lemmas.Option.{slice_get-map}
use Rattle.lrc_store.specs.Lists.{KnowsTheFirst, key_at, keys_of, knows_notice, notices_of, pages_noted, places_from}
use Rattle.lrc_store.specs.Links.{IsLinkedUp, is_unknown_on, page_named, ranked, ranked_of, ranked_pages}
use Rattle.lrc_store.specs.Store.{StoreRecord, added, attached, discarded, interval_of, intervals_of, is_covered, is_missing, key_of}
use Rattle.lrc_store.proofs.Orders.{map-map}
use Rattle.lrc_store.proofs.Walks.{IsKnownFirst}
use Rattle.lrc_store.proofs.Filtered.{filter-flat_map}
use Rattle.lrc_store.specs.Rows.{HasNoGaps}
use Rattle.lrc_store.proofs.Rowed.{HasNoGaps-push, HasNoGaps-filter, places_from-filter}
use Rattle.lrc_store.proofs.Starts.{count_of, AreStarts-none, AreStarts-push}
use Rattle.lrc_store.proofs.Stores.{IsStore-added, IsStore-attached, IsStore-discarded, intervals_of-added, intervals_of-attached, intervals_of-discarded}

-- ---- how many notices there are

keys_of_ranked : (interval : IntervalRecord) (pages : List ℕ)
    → map (λ notice. notice.1) (map (λ page. ranked page interval) pages) ≡ map (λ page. key_of page interval) pages
keys_of_ranked interval [] = refl
keys_of_ranked interval (page ∷ pages) = ap (λ (l : List Key). key_of page interval ∷ l) (keys_of_ranked interval pages)

keys_of_all : (intervals : List IntervalRecord) → map (λ notice. notice.1) (ranked_of intervals) ≡ flat_map keys_of intervals
keys_of_all [] = refl
keys_of_all (i ∷ is) =
    ap (map (λ (notice : ℕ × Key). notice.1)) (flat_map-cons ranked_pages i is)
    ∙ map-append (λ (notice : ℕ × Key). notice.1) (ranked_pages i) (ranked_of is)
    ∙ ap (λ (l : List Key). l ++ map (λ (notice : ℕ × Key). notice.1) (ranked_of is)) (keys_of_ranked i i.pages)
    ∙ ap (λ (l : List Key). keys_of i ++ l) (keys_of_all is)
    ∙ sym (flat_map-cons keys_of i is)

-- as many as the intervals have pages
pub count_of-noted : (intervals : List IntervalRecord) (notices : List (ℕ × Key)) → notices ≡ ranked_of intervals
    → length notices ≡ count_of intervals
count_of-noted intervals notices noted =
    ap length noted
    ∙ sym (length-map (ranked_of intervals) (λ (notice : ℕ × Key). notice.1))
    ∙ ap length (keys_of_all intervals)

-- ---- an interval more

pub ranked_of-push : (intervals : List IntervalRecord) (interval : IntervalRecord)
    → ranked_of (intervals ++ interval ∷ []) ≡ ranked_of intervals ++ ranked_pages interval
ranked_of-push intervals interval =
    flat_map-append ranked_pages intervals (interval ∷ [])
    ∙ ap (λ (l : List (ℕ × Key)). ranked_of intervals ++ l)
    (flat_map-cons ranked_pages interval [] ∙ append-nil (ranked_pages interval))

pub pages_of_ranked : (interval : IntervalRecord) (pages : List ℕ)
    → map page_named (map (λ page. ranked page interval) pages) ≡ pages
pages_of_ranked interval [] = refl
pages_of_ranked interval (page ∷ pages) = ap (λ (l : List ℕ). page ∷ l) (pages_of_ranked interval pages)

pub IsLinkedUp-added : (store : StoreRecord) (by_node by_node' : NodesRecord) (by_page by_page' : ChainsRecord)
    (notices notices' : List (ℕ × Key)) (interval : IntervalRecord) (start : ℕ)
    → IsLinkedUp store by_node by_page notices → IsInterval interval → length interval.stamp ≡ length store.last
    → All (λ page. page < store.pages) interval.pages
    → index_of interval ≡ entry store.last interval.node + 1
    → by_node'.keys ≡ by_node.keys ++ interval.node ∷ [] → by_node'.lists ≡ by_node.lists
    → by_node'.starts ≡ by_node.starts ++ start ∷ [] → start ≡ length by_page.keys
    → by_page'.keys ≡ by_page.keys ++ interval.pages → by_page'.lists ≡ by_page.lists
    → notices' ≡ notices ++ ranked_pages interval
    → IsLinkedUp (added store interval) by_node' by_page' notices'
IsLinkedUp-added store by_node by_node' by_page by_page' notices notices' interval start linked is stamp pages next
    node_keys node_lists node_starts begins page_keys page_lists noted =
    let all = intervals_of store in
    let same : intervals_of (added store interval) ≡ all ++ interval ∷ [] = intervals_of-added store interval in
    record {
      sound = IsStore-added store interval linked.sound is stamp pages next;
      intervals = subst (All IsInterval) (sym same) (All-push IsInterval all interval linked.intervals is);
      nodes = node_keys ∙ ap (λ (l : List ℕ). l ++ interval.node ∷ []) linked.nodes
          ∙ sym (map_push (λ (i : IntervalRecord). i.node) all interval)
          ∙ ap (map (λ (i : IntervalRecord). i.node)) (sym same);
      node_lists = node_lists ∙ linked.node_lists ∙ sym (length-set store.last interval.node (index_of interval));
      gapless = subst (HasNoGaps (set store.last interval.node (index_of interval))) (sym same)
          (HasNoGaps-push store.last (set store.last interval.node (index_of interval)) all interval linked.gapless next
          (entry-set_same store.last interval.node (index_of interval) (omega (arith, is.counted, stamp)))
          (λ n other. get_or-set_other store.last interval.node n (index_of interval) 0 other));
      starts = subst (λ (l : List ℕ). AreStarts l (intervals_of (added store interval))) (sym node_starts)
          (subst (AreStarts (by_node.starts ++ start ∷ [])) (sym same)
          (AreStarts-push by_node.starts all interval start linked.starts
          (begins ∙ ap length linked.pages ∙ length-map notices page_named ∙ count_of-noted all notices linked.noted)));
      noted = noted ∙ ap (λ (l : List (ℕ × Key)). l ++ ranked_pages interval) linked.noted
          ∙ sym (ranked_of-push all interval) ∙ ap ranked_of (sym same);
      pages = page_keys ∙ ap (λ (l : List ℕ). l ++ interval.pages) linked.pages
          ∙ ap (λ (l : List ℕ). map page_named notices ++ l) (sym (pages_of_ranked interval interval.pages))
          ∙ sym (map-append page_named notices (ranked_pages interval)) ∙ ap (map page_named) (sym noted);
      page_lists = page_lists ∙ linked.page_lists;
    }

-- ---- changes come

pub IsLinkedUp-attached : (store : StoreRecord) (by_node : NodesRecord) (by_page : ChainsRecord) (notices : List (ℕ × Key)) (key : Key)
    (changes : List Change) → IsLinkedUp store by_node by_page notices
    → IsLinkedUp (attached store key changes) by_node by_page notices
IsLinkedUp-attached store by_node by_page notices key changes linked =
    let same : intervals_of store ≡ intervals_of (attached store key changes) = sym (intervals_of-attached store key changes) in
    record {
      sound = IsStore-attached store key changes linked.sound;
      intervals = subst (All IsInterval) same linked.intervals;
      nodes = linked.nodes ∙ ap (map (λ (i : IntervalRecord). i.node)) same;
      node_lists = linked.node_lists;
      gapless = subst (HasNoGaps store.last) same linked.gapless;
      starts = subst (AreStarts by_node.starts) same linked.starts;
      noted = linked.noted ∙ ap ranked_of same;
      pages = linked.pages;
      page_lists = linked.page_lists;
    }

-- ---- intervals are taken out

-- whether the time does not know a notice's interval
abbrev pub stays : List ℕ → ℕ × Key → Bool
stays time notice = not (knows time notice.1.node notice.1.index)

pub ranked_stay : (time : List ℕ) (interval : IntervalRecord) → All (λ notice. stays time notice ≡ not (is_covered time interval)) (ranked_pages interval)
ranked_stay time interval = λ k d within.
    let inside : k < length interval.pages = omega (arith, within, length-map interval.pages (λ page. ranked page interval)) in
    ap (stays time) (get_or-map (λ page. ranked page interval) interval.pages k 0 d inside)

pub ranked_of-filter : (time : List ℕ) (intervals : List IntervalRecord)
    → filter (stays time) (ranked_of intervals) ≡ ranked_of (filter (λ i. not (is_covered time i)) intervals)
ranked_of-filter time intervals = filter-flat_map ranked_pages (λ i. not (is_covered time i)) (stays time) (ranked_stay time) intervals

-- the notices that are left are those of the intervals that are left
pub noted-discarded : (store : StoreRecord) (notices notices' : List (ℕ × Key)) (time : List ℕ) → notices ≡ ranked_of (intervals_of store)
    → notices' ≡ filter (stays time) notices → notices' ≡ ranked_of (intervals_of (discarded store time))
noted-discarded store notices notices' time noted left =
    left ∙ ap (filter (stays time)) noted ∙ ranked_of-filter time (intervals_of store)
    ∙ ap ranked_of (sym (intervals_of-discarded store time))

pub IsLinkedUp-discarded : (store : StoreRecord) (by_node by_node' : NodesRecord) (by_page by_page' : ChainsRecord)
    (notices notices' : List (ℕ × Key)) (time : List ℕ) → IsLinkedUp store by_node by_page notices
    → by_node'.keys ≡ map (λ stored. stored.node) (discarded store time).entries → by_node'.lists ≡ by_node.lists
    → AreStarts by_node'.starts (intervals_of (discarded store time))
    → notices' ≡ filter (stays time) notices
    → by_page'.keys ≡ map page_named notices' → by_page'.lists ≡ by_page.lists
    → IsLinkedUp (discarded store time) by_node' by_page' notices'
IsLinkedUp-discarded store by_node by_node' by_page by_page' notices notices' time linked node_keys node_lists node_starts noted page_keys page_lists =
    let all = intervals_of store in
    let same : intervals_of (discarded store time) ≡ filter (λ i. not (is_covered time i)) all = intervals_of-discarded store time in
    record {
      sound = IsStore-discarded store time linked.sound;
      intervals = subst (All IsInterval) (sym same) (All-filter (λ i. not (is_covered time i)) IsInterval all linked.intervals);
      nodes = node_keys ∙ sym (map-map interval_of (λ (i : IntervalRecord). i.node) (discarded store time).entries);
      node_lists = node_lists ∙ linked.node_lists;
      gapless = subst (HasNoGaps store.last) (sym same) (HasNoGaps-filter store.last time all linked.gapless linked.sound.ascending);
      starts = node_starts;
      noted = noted-discarded store notices notices' time linked.noted noted;
      pages = page_keys;
      page_lists = page_lists ∙ linked.page_lists;
    }

-- every node of a store has a list
pub nodes_in_range : (store : StoreRecord) (by_node : NodesRecord) (by_page : ChainsRecord) (notices : List (ℕ × Key))
    → IsLinkedUp store by_node by_page notices → All (λ stored. stored.node < by_node.lists) store.entries
nodes_in_range store by_node by_page notices linked k d within =
    let all = intervals_of store in
    let inside : k < length all = omega (arith, length-map store.entries interval_of) in
    let here : get_or all k (interval_of d) ≡ interval_of (get_or store.entries k d) = get_or-map interval_of store.entries k d (interval_of d) within in
    let counted = (linked.intervals k (interval_of d) inside).counted in
    let long = linked.sound.stamps k (interval_of d) inside in
    let node : (get_or all k (interval_of d)).node ≡ (get_or store.entries k d).node = ap (λ (i : IntervalRecord). i.node) here in
    omega (arith, counted, long, node, linked.node_lists)

-- no node has more intervals than it had
pub fewer_left : (store : StoreRecord) (by_node : NodesRecord) (by_page : ChainsRecord) (notices : List (ℕ × Key)) (time : List ℕ)
    → IsLinkedUp store by_node by_page notices → (node : ℕ)
    → length (places_from node 0 (map (λ stored. stored.node) (discarded store time).entries)) ≤ length (places_from node 0 by_node.keys)
fewer_left store by_node by_page notices time linked node =
    let left : map (λ stored. stored.node) (discarded store time).entries
    ≡ map (λ (i : IntervalRecord). i.node) (filter (λ i. not (is_covered time i)) (intervals_of store)) =
    sym (map-map interval_of (λ (i : IntervalRecord). i.node) (discarded store time).entries)
    ∙ ap (map (λ (i : IntervalRecord). i.node)) (intervals_of-discarded store time) in
    let fewer = places_from-filter node (λ i. not (is_covered time i)) (intervals_of store) in
    omega (arith, fewer, ap (λ (l : List ℕ). length (places_from node 0 l)) left, ap (λ (l : List ℕ). length (places_from node 0 l)) linked.nodes)

ranked_pages-in_range : (interval : IntervalRecord) (most : ℕ) (pages : List ℕ) → All (λ page. page < most) pages
    → All (λ notice. notice.1.page < most) (map (λ page. ranked page interval) pages)
ranked_pages-in_range interval most pages below k d within =
    let inside : k < length pages = omega (arith, length-map pages (λ page. ranked page interval)) in
    let here = get_or-map (λ page. ranked page interval) pages k 0 d inside in
    let page = ap page_named here in
    omega (arith, page, below k 0 inside)

ranked_of-in_range : (most : ℕ) (intervals : List IntervalRecord) → All (λ i. All (λ page. page < most) i.pages) intervals
    → All (λ notice. notice.1.page < most) (ranked_of intervals)
ranked_of-in_range most [] below = λ k d within. absurd (omega arith)
ranked_of-in_range most (i ∷ is) below =
    subst (All (λ notice. notice.1.page < most)) (sym (flat_map-cons ranked_pages i is))
    (All-append (λ notice. notice.1.page < most) (ranked_pages i) (ranked_of is)
    (ranked_pages-in_range i most i.pages (All-head (λ j. All (λ page. page < most) j.pages) i is below))
    (ranked_of-in_range most is (All-tail (λ j. All (λ page. page < most) j.pages) i is below)))

-- every page of a store's notices has a list
pub pages_in_range : (store : StoreRecord) (by_node : NodesRecord) (by_page : ChainsRecord) (notices : List (ℕ × Key))
    → IsLinkedUp store by_node by_page notices → All (λ notice. notice.1.page < by_page.lists) notices
pages_in_range store by_node by_page notices linked =
    subst (λ most. All (λ notice. notice.1.page < most) notices) (sym linked.page_lists)
    (subst (All (λ notice. notice.1.page < store.pages)) (sym linked.noted)
    (ranked_of-in_range store.pages (intervals_of store) linked.sound.pages))

-- ---- what is missing

-- of pages that all differ from one, none is that one
no_page : (interval : IntervalRecord) (page : ℕ) (since : List ℕ) (pages : List ℕ) → All (λ named. eqb named page ≡ false) pages
    → filter (is_unknown_on page since) (map (λ named. ranked named interval) pages) ≡ []
no_page interval page since [] differ = refl
no_page interval page since (p ∷ ps) differ =
    let rest = filter (is_unknown_on page since) (map (λ named. ranked named interval) ps) in
    let unknown = not (knows since interval.node (index_of interval)) in
    ap (λ b. cond (b && unknown) (ranked p interval ∷ rest) rest) (All-head (λ named. eqb named page ≡ false) p ps differ)
    ∙ no_page interval page since ps (All-tail (λ named. eqb named page ≡ false) p ps differ)

-- of ascending pages, those that are one page: that page or none
one_page : (interval : IntervalRecord) (page : ℕ) (since : List ℕ) (pages : List ℕ) → IsRising pages
    → filter (is_unknown_on page since) (map (λ named. ranked named interval) pages)
    ≡ cond (list_any (λ named. eqb named page) pages && not (knows since interval.node (index_of interval))) (ranked page interval ∷ []) []
one_page interval page since [] rising = refl
one_page interval page since (p ∷ ps) rising =
    by_test (one_page interval page since ps (λ i j d less within. rising (suc i) (suc j) d (omega arith) (omega arith))) (eqb p page) refl
  where
    by_test : (filter (is_unknown_on page since) (map (λ named. ranked named interval) ps)
        ≡ cond (list_any (λ named. eqb named page) ps && not (knows since interval.node (index_of interval))) (ranked page interval ∷ []) [])
        → (b : Bool) → eqb p page ≡ b
        → filter (is_unknown_on page since) (map (λ named. ranked named interval) (p ∷ ps))
        ≡ cond (list_any (λ named. eqb named page) (p ∷ ps) && not (knows since interval.node (index_of interval))) (ranked page interval ∷ []) []
    by_test again true is =
        let unknown = not (knows since interval.node (index_of interval)) in
        let others : All (λ named. eqb named page ≡ false) ps =
        λ k d within.
        let above : p < get_or ps k d = rising zero (suc k) d (omega arith) (omega arith) in
        ne_eqb _ page (λ same. omega (arith, above, same, eqb-true p page is)) in
        let tail = filter (is_unknown_on page since) (map (λ named. ranked named interval) ps) in
        ap (λ b. cond (b && unknown) (ranked p interval ∷ tail) tail) is
        ∙ ap (λ (l : List (ℕ × Key)). cond unknown (ranked p interval ∷ l) l) (no_page interval page since ps others)
        ∙ ap (λ n. cond unknown (ranked n interval ∷ []) []) (eqb-true p page is)
        ∙ sym (ap (λ b. cond ((b || list_any (λ named. eqb named page) ps) && unknown) (ranked page interval ∷ []) []) is)
    by_test again false is =
        let unknown = not (knows since interval.node (index_of interval)) in
        let tail = filter (is_unknown_on page since) (map (λ named. ranked named interval) ps) in
        ap (λ b. cond (b && unknown) (ranked p interval ∷ tail) tail) is
        ∙ again
        ∙ sym (ap (λ b. cond ((b || list_any (λ named. eqb named page) ps) && unknown) (ranked page interval ∷ []) []) is)

-- the notices of a page that a time does not know are those of the intervals that are missing
pub unknown_is_missing : (page : ℕ) (since : List ℕ) (intervals : List IntervalRecord) → All IsInterval intervals
    → filter (is_unknown_on page since) (ranked_of intervals) ≡ map (ranked page) (filter (is_missing page since) intervals)
unknown_is_missing page since [] are = refl
unknown_is_missing page since (i ∷ is) are =
    let test = is_unknown_on page since in
    ap (filter test) (flat_map-cons ranked_pages i is)
    ∙ filter-append test (ranked_pages i) (ranked_of is)
    ∙ ap (λ (l : List (ℕ × Key)). l ++ filter test (ranked_of is)) (one_page i page since i.pages (All-head IsInterval i is are).ascending)
    ∙ ap (λ (l : List (ℕ × Key)). cond (is_missing page since i) (ranked page i ∷ []) [] ++ l) (unknown_is_missing page since is (All-tail IsInterval i is are))
    ∙ by_test (is_missing page since i)
  where
    by_test : (b : Bool) → cond b (ranked page i ∷ []) [] ++ map (ranked page) (filter (is_missing page since) is)
        ≡ map (ranked page) (cond b (i ∷ filter (is_missing page since) is) (filter (is_missing page since) is))
    by_test true = refl
    by_test false = refl

-- ---- what the links run through

pub noted_keys : (store : StoreRecord) (by_node : NodesRecord) (by_page : ChainsRecord) (notices : List (ℕ × Key))
    → IsLinkedUp store by_node by_page notices → map (λ notice. notice.1) notices ≡ notices_of store
noted_keys store by_node by_page notices linked =
    ap (map (λ (notice : ℕ × Key). notice.1)) linked.noted ∙ keys_of_all (intervals_of store)

pub noted_pages : (store : StoreRecord) (by_node : NodesRecord) (by_page : ChainsRecord) (notices : List (ℕ × Key))
    → IsLinkedUp store by_node by_page notices → by_page.keys ≡ pages_noted store
noted_pages store by_node by_page notices linked =
    linked.pages
    ∙ sym (map-map (λ (notice : ℕ × Key). notice.1) (λ (key : Key). key.page) notices)
    ∙ ap (map (λ (key : Key). key.page)) (noted_keys store by_node by_page notices linked)

-- as many as there are notices
pub noted_long : (store now : StoreRecord) (by_node : NodesRecord) (by_page : ChainsRecord) (notices : List (ℕ × Key))
    → IsLinkedUp store by_node by_page notices → store ≡ now → length by_page.keys ≡ length (notices_of now)
noted_long store now by_node by_page notices linked same =
    ap length (noted_pages store by_node by_page notices linked)
    ∙ length-map (notices_of store) (λ (key : Key). key.page)
    ∙ ap (λ (s : StoreRecord). length (notices_of s)) same

-- the key of a notice
pub key_at-noted : (store : StoreRecord) (by_node : NodesRecord) (by_page : ChainsRecord) (notices : List (ℕ × Key)) (at : ℕ)
    → IsLinkedUp store by_node by_page notices → key_at store at ≡ option_map (λ notice. notice.1) (slice_get notices at)
key_at-noted store by_node by_page notices at linked =
    ap (λ (l : List Key). slice_get l at) (sym (noted_keys store by_node by_page notices linked))
    ∙ slice_get-map (λ (notice : ℕ × Key). notice.1) notices at

-- what a time knows was added first, among the notices as they stand
pub known_first : (store : StoreRecord) (by_node : NodesRecord) (by_page : ChainsRecord) (notices : List (ℕ × Key)) (page : ℕ) (since : List ℕ)
    → IsLinkedUp store by_node by_page notices → KnowsTheFirst store page since → IsKnownFirst page since notices
known_first store by_node by_page notices page since linked first = λ i j d less within.
    let keys = map (λ (notice : ℕ × Key). notice.1) notices in
    let same : keys ≡ notices_of store = noted_keys store by_node by_page notices linked in
    let inside : j < length keys = omega (arith, within, length-map notices (λ (notice : ℕ × Key). notice.1)) in
    let a : get_or keys i d.1 ≡ (get_or notices i d).1 = get_or-map (λ (notice : ℕ × Key). notice.1) notices i d d.1 (omega (arith, less, within)) in
    let b : get_or keys j d.1 ≡ (get_or notices j d).1 = get_or-map (λ (notice : ℕ × Key). notice.1) notices j d d.1 within in
    let kept = subst (AllPairs (λ earlier later. earlier.page ≡ page → later.page ≡ page → knows_notice since later ≡ true
    → knows_notice since earlier ≡ true)) (sym same) first in
    λ earlier_on later_on known.
    ap (knows_notice since) (sym a)
    ∙ kept i j d.1 less inside (ap (λ (k : Key). k.page) a ∙ earlier_on) (ap (λ (k : Key). k.page) b ∙ later_on) (ap (knows_notice since) b ∙ known)

-- ---- links of a store that has nothing, and links that are the same

pub IsLinkedUp-none : (by_node : NodesRecord) (by_page : ChainsRecord) (notices : List (ℕ × Key)) (store : StoreRecord)
    → store.entries ≡ [] → notices ≡ [] → by_node.keys ≡ [] → by_node.lists ≡ length store.last → by_node.starts ≡ []
    → by_page.keys ≡ [] → by_page.lists ≡ store.pages → IsLinkedUp store by_node by_page notices
IsLinkedUp-none by_node by_page notices store entries none keys lists starts page_keys page_lists =
    let intervals : intervals_of store ≡ [] = ap (map interval_of) entries in
    record {
      sound = record {
        stamps = subst (All (λ i. length i.stamp ≡ length store.last)) (sym intervals) (λ k d within. absurd (omega (arith, within)));
        pages = subst (All (λ i. All (λ page. page < store.pages) i.pages)) (sym intervals) (λ k d within. absurd (omega (arith, within)));
        counted = subst (All (λ i. index_of i ≤ entry store.last i.node)) (sym intervals) (λ k d within. absurd (omega (arith, within)));
        ascending =
            subst (AllPairs (λ a b. a.node ≡ b.node → index_of a < index_of b)) (sym intervals)
            (λ i j d before within. absurd (omega (arith, within)));
      };
      intervals = subst (All IsInterval) (sym intervals) (λ k d within. absurd (omega (arith, within)));
      nodes = keys ∙ sym (ap (map (λ (i : IntervalRecord). i.node)) intervals);
      node_lists = lists;
      gapless = subst (HasNoGaps store.last) (sym intervals) tt;
      starts = subst (AreStarts by_node.starts) (sym intervals) (subst (λ s. AreStarts s []) (sym starts) AreStarts-none);
      noted = none ∙ sym (ap ranked_of intervals);
      pages = page_keys ∙ sym (ap (map page_named) none);
      page_lists = page_lists;
    }

pub IsLinkedUp-same : (by_node by_node' : NodesRecord) (by_page by_page' : ChainsRecord) (notices : List (ℕ × Key)) (store : StoreRecord)
    → IsLinkedUp store by_node by_page notices → by_node'.keys ≡ by_node.keys → by_node'.lists ≡ by_node.lists
    → by_node'.starts ≡ by_node.starts → by_page'.keys ≡ by_page.keys → by_page'.lists ≡ by_page.lists
    → IsLinkedUp store by_node' by_page' notices
IsLinkedUp-same by_node by_node' by_page by_page' notices store is keys lists starts page_keys page_lists = record {
  sound = is.sound;
  intervals = is.intervals;
  nodes = keys ∙ is.nodes;
  node_lists = lists ∙ is.node_lists;
  gapless = is.gapless;
  starts = subst (λ s. AreStarts s (intervals_of store)) (sym starts) is.starts;
  noted = is.noted;
  pages = page_keys ∙ is.pages;
  page_lists = page_lists ∙ is.page_lists;
}
