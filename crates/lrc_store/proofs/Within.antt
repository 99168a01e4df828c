-- The notices of one interval stand one behind another.
use Rattle.std.proofs.Common.{◌≡◌, ℕ, zero, suc, ◌+◌, ◌<◌, ◌∙◌, Bool, true, false, ◌&&◌, cond, eqb, eqb-true, Option, None, Some}
use Rattle.std.proofs.Common.{List, [], ◌∷◌, ◌++◌, length, get_or, map, take, drop, refl, ap, sym, subst, arith}
use Rattle.std.specs.List.{All, AllPairs, flat_map, slice_get}
use Rattle.std.specs.Option.{option_and_then}
use Rattle.std.proofs.lemmas.Bool.{eq-eqb, ne_eqb}
use Rattle.std.proofs.lemmas.Grind.{flat_map-append}
use Rattle.std.proofs.lemmas.List.{append_assoc, drop_more, get_or-drop, get_or-map, get_or_default}
use Rattle.std.proofs.lemmas.List.{length-append, length-drop, length-map, take-append-drop, take-map}
use Rattle.std.proofs.lemmas.List.Concat.{flat_map-cons}
use Rattle.std.proofs.lemmas.List.Elements.{All-append, All-head, All-tail}
use Rattle.std.proofs.lemmas.Option.{get_or_from_slice_get, slice_get-get_or, slice_get_within}
use Rattle.lrc_page.specs.Pages.{IsRising}
use Rattle.lrc_store.specs.declared.key.Key.{Key}
use Rattle.lrc_store.specs.Interval.{IntervalRecord, IsInterval, index_of}
use Rattle.lrc_store.specs.Lists.{Follows, counted_from, first_notice_of, is_of_one, key_at, keys_of, next_in_interval_of, notices_in, notices_of, places_in}
use Rattle.lrc_store.specs.Store.{StoreRecord, StoredRecord, IsStore, interval_of, intervals_of, key_of}
use Rattle.lrc_store.proofs.Starts.{count_of, count_of-more, count_of-entries}

-- ---- places in a row

pub counted_from-length : (start n : ℕ) → length (counted_from start n) ≡ n
counted_from-length start zero = refl
counted_from-length start (suc n) = ap suc (counted_from-length (start + 1) n)

pub counted_from-get_or : (start n k d : ℕ) → k < n → get_or (counted_from start n) k d ≡ start + k
counted_from-get_or start zero k d within = absurd (omega (arith, within))
counted_from-get_or start (suc n) zero d within = omega arith
counted_from-get_or start (suc n) (suc k) d within = counted_from-get_or (start + 1) n k d (omega (arith, within)) ∙ omega arith

pub counted_from-rises : (start n : ℕ) → AllPairs (λ a b. a < b) (counted_from start n)
counted_from-rises start n = λ i j d less within.
    let inside : j < n = omega (arith, within, counted_from-length start n) in
    omega (arith, less, counted_from-get_or start n i d (omega (arith, less, inside)), counted_from-get_or start n j d inside)

-- what stands behind the front of a list
slice_get-behind : {X : Type 0} (pre rest : List X) (k : ℕ) → slice_get (pre ++ rest) (length pre + k) ≡ slice_get rest k
slice_get-behind [] rest k = ap (slice_get rest) (omega arith)
slice_get-behind (x ∷ xs) rest k =
    ap (slice_get (x ∷ (xs ++ rest))) (let e : suc (length xs) + k ≡ suc (length xs + k) = omega arith in e) ∙ slice_get-behind xs rest k

-- ---- the next of the same interval, in any list of keys

abbrev next_to : ℕ → Option Key → Option Key → Option ℕ
next_to at here after = option_and_then (λ key. option_and_then (λ next. cond (is_of_one key next) (Some (at + 1)) None) after) here

abbrev next_by : List Key → ℕ → Option ℕ
next_by keys at = next_to at (slice_get keys at) (slice_get keys (at + 1))

-- a key is not of this interval
abbrev IsOther : IntervalRecord → Key → Type 0
IsOther i key = (eqb i.node key.node && eqb (index_of i) key.index) ≡ false

module _ (i : IntervalRecord) where
  abbrev keys_on : List ℕ → List Key
  keys_on pages = map (λ page. key_of page i) pages

  same_one : (p q : ℕ) → is_of_one (key_of p i) (key_of q i) ≡ true
  same_one p q = ap (λ b. b && eqb (index_of i) (index_of i)) (eq-eqb i.node i.node refl) ∙ eq-eqb (index_of i) (index_of i) refl

  -- behind a notice there is the next of the same interval, or none
  behind : (at page : ℕ) (pages : List ℕ) (rest : List Key) → All (IsOther i) rest
      → next_to at (Some (key_of page i)) (slice_get (keys_on pages ++ rest) 0) ≡ slice_get (counted_from (at + 1) (length pages)) 0
  behind at page [] [] others = refl
  behind at page [] (r ∷ rs) others = ap (λ b. cond b (Some (at + 1)) None) (All-head (IsOther i) r rs others)
  behind at page (q ∷ qs) rest others = ap (λ b. cond b (Some (at + 1)) None) (same_one page q)

  next_here : (pre : List Key) (page : ℕ) (pages : List ℕ) (rest : List Key) → All (IsOther i) rest
      → next_by (pre ++ (key_of page i ∷ (keys_on pages ++ rest))) (length pre) ≡ slice_get (counted_from (length pre + 1) (length pages)) 0
  next_here pre page pages rest others =
      let tail = key_of page i ∷ (keys_on pages ++ rest) in
      let first : slice_get (pre ++ tail) (length pre) ≡ Some (key_of page i) =
      ap (slice_get (pre ++ tail)) (let e : length pre ≡ length pre + 0 = omega arith in e) ∙ slice_get-behind pre tail 0 in
      let second : slice_get (pre ++ tail) (length pre + 1) ≡ slice_get (keys_on pages ++ rest) 0 = slice_get-behind pre tail 1 in
      ap (λ (found : Option Key). next_to (length pre) found (slice_get (pre ++ tail) (length pre + 1))) first
      ∙ ap (next_to (length pre) (Some (key_of page i))) second
      ∙ behind (length pre) page pages rest others

  -- following them from the first ends, and gives just their places
  follows_on : (pre : List Key) (pages : List ℕ) (rest : List Key) → All (IsOther i) rest
      → Follows (next_by (pre ++ (keys_on pages ++ rest))) (slice_get (counted_from (length pre) (length pages)) 0)
      (counted_from (length pre) (length pages))
  follows_on pre [] rest others = refl
  follows_on pre (page ∷ pages) rest others =
      let keys = pre ++ (key_of page i ∷ (keys_on pages ++ rest)) in
      let longer = pre ++ key_of page i ∷ [] in
      let same : longer ++ (keys_on pages ++ rest) ≡ keys = append_assoc pre (key_of page i ∷ []) (keys_on pages ++ rest) in
      let count : length longer ≡ length pre + 1 = omega (arith, length-append pre (key_of page i ∷ [])) in
      let again = follows_on longer pages rest others in
      let by_keys : Follows (next_by keys) (slice_get (counted_from (length longer) (length pages)) 0) (counted_from (length longer) (length pages)) =
      subst (λ (l : List Key). Follows (next_by l) (slice_get (counted_from (length longer) (length pages)) 0)
      (counted_from (length longer) (length pages))) same again in
      let by_count : Follows (next_by keys) (slice_get (counted_from (length pre + 1) (length pages)) 0) (counted_from (length pre + 1) (length pages)) =
      subst (λ n. Follows (next_by keys) (slice_get (counted_from n (length pages)) 0) (counted_from n (length pages))) count by_keys in (
        refl,
        subst (λ (f : Option ℕ). Follows (next_by keys) f (counted_from (length pre + 1) (length pages)))
            (sym (next_here pre page pages rest others)) by_count,
      )

-- what stands at places in a row
map_counted : (pre mid rest : List Key) → map (slice_get (pre ++ (mid ++ rest))) (counted_from (length pre) (length mid)) ≡ map Some mid
map_counted pre [] rest = refl
map_counted pre (key ∷ mid) rest =
    let keys = pre ++ (key ∷ (mid ++ rest)) in
    let longer = pre ++ key ∷ [] in
    let same : longer ++ (mid ++ rest) ≡ keys = append_assoc pre (key ∷ []) (mid ++ rest) in
    let count : length longer ≡ length pre + 1 = omega (arith, length-append pre (key ∷ [])) in
    let first : slice_get keys (length pre) ≡ Some key =
    ap (slice_get keys) (let e : length pre ≡ length pre + 0 = omega arith in e) ∙ slice_get-behind pre (key ∷ (mid ++ rest)) 0 in
    ap (λ (found : Option Key). found ∷ map (slice_get keys) (counted_from (length pre + 1) (length mid))) first
    ∙ ap (λ n. Some key ∷ map (slice_get keys) (counted_from n (length mid))) (sym count)
    ∙ ap (λ (l : List Key). Some key ∷ map (slice_get l) (counted_from (length longer) (length mid))) (sym same)
    ∙ ap (λ (l : List (Option Key)). Some key ∷ l) (map_counted longer mid rest)

-- ---- in a store

-- an interval of another node, or of another index
others_on : (i j : IntervalRecord) → (i.node ≡ j.node → index_of i < index_of j) → (pages : List ℕ)
    → All (IsOther i) (map (λ page. key_of page j) pages)
others_on i j above pages = λ k d within.
    let inside : k < length pages = omega (arith, within, length-map pages (λ page. key_of page j)) in
    let here : get_or (map (λ page. key_of page j) pages) k d ≡ key_of (get_or pages k 0) j = get_or-map (λ page. key_of page j) pages k 0 d inside in
    ap (λ (key : Key). eqb i.node key.node && eqb (index_of i) key.index) here ∙ by_test (eqb i.node j.node) refl
  where
    by_test : (b : Bool) → eqb i.node j.node ≡ b → (b && eqb (index_of i) (index_of j)) ≡ false
    by_test false is = refl
    by_test true is = ne_eqb (index_of i) (index_of j) (λ same. omega (arith, same, above (eqb-true i.node j.node is)))

others_in : (i : IntervalRecord) (js : List IntervalRecord) → All (λ j. i.node ≡ j.node → index_of i < index_of j) js
    → All (IsOther i) (flat_map keys_of js)
others_in i [] above = λ k d within. absurd (omega (arith, within))
others_in i (j ∷ js) above =
    subst (All (IsOther i)) (sym (flat_map-cons keys_of j js))
    (All-append (IsOther i) (keys_of j) (flat_map keys_of js)
    (others_on i j (All-head (λ other. i.node ≡ other.node → index_of i < index_of other) j js above) j.pages)
    (others_in i js (All-tail (λ other. i.node ≡ other.node → index_of i < index_of other) j js above)))

-- the notices before an interval's, the interval's, and those behind
split_at : (intervals : List IntervalRecord) (at : ℕ) (i : IntervalRecord) → at < length intervals → get_or intervals at i ≡ i
    → flat_map keys_of intervals ≡ flat_map keys_of (take at intervals) ++ (keys_of i ++ flat_map keys_of (drop (at + 1) intervals))
split_at intervals at i within is =
    ap (flat_map keys_of) (sym (take-append-drop at intervals) ∙ ap (λ (l : List IntervalRecord). take at intervals ++ l)
    (drop_more intervals at i within ∙ ap (λ (j : IntervalRecord). j ∷ drop (at + 1) intervals) is))
    ∙ flat_map-append keys_of (take at intervals) (i ∷ drop (at + 1) intervals)
    ∙ ap (λ (l : List Key). flat_map keys_of (take at intervals) ++ l) (flat_map-cons keys_of i (drop (at + 1) intervals))

module _ (store : StoreRecord) (at : ℕ) where
  -- following the links from an interval's first notice
  follows_some : (i : IntervalRecord) → IsStore store → at < length (intervals_of store) → get_or (intervals_of store) at i ≡ i
      → Follows (next_in_interval_of store)
      (slice_get (places_in (length (flat_map keys_of (take at (intervals_of store)))) (Some i)) 0)
      (places_in (length (flat_map keys_of (take at (intervals_of store)))) (Some i))
  follows_some i sound within is =
      let all = intervals_of store in
      let pre = flat_map keys_of (take at all) in
      let rest = flat_map keys_of (drop (at + 1) all) in
      let others = others_in i (drop (at + 1) all)
      (λ k d inside same.
      let there : get_or (drop (at + 1) all) k d ≡ get_or all (at + 1 + k) d = get_or-drop (at + 1) all k d in
      let far : at + 1 + k < length all = omega (arith, inside, length-drop (at + 1) all) in
      let here : get_or all at d ≡ i = get_or_default all at d i within ∙ is in
      let nodes : (get_or all at d).node ≡ (get_or all (at + 1 + k) d).node =
      ap (λ (j : IntervalRecord). j.node) here ∙ same ∙ ap (λ (j : IntervalRecord). j.node) there in
      let less = sound.ascending at (at + 1 + k) d (omega arith) far nodes in
      omega (arith, less, ap index_of here, ap index_of there)) in
      subst (λ (keys : List Key). Follows (next_by keys) (slice_get (counted_from (length pre) (length i.pages)) 0)
      (counted_from (length pre) (length i.pages)))
      (sym (split_at all at i within is)) (follows_on i pre i.pages rest others)

  follows_found : (found : Option IntervalRecord) → slice_get (intervals_of store) at ≡ found → IsStore store
      → Follows (next_in_interval_of store)
      (slice_get (places_in (length (flat_map keys_of (take at (intervals_of store)))) found) 0)
      (places_in (length (flat_map keys_of (take at (intervals_of store)))) found)
  follows_found None is sound = refl
  follows_found (Some i) is sound =
      follows_some i sound (slice_get_within (intervals_of store) at i is) (get_or_from_slice_get (intervals_of store) at i i is)

  pub follows_in : IsStore store → Follows (next_in_interval_of store) (first_notice_of store at) (notices_in store at)
  follows_in sound = follows_found (slice_get (intervals_of store) at) refl sound

  -- what stands at an interval's places
  pub keys_in : (i : IntervalRecord) → slice_get (intervals_of store) at ≡ Some i
      → map (key_at store) (notices_in store at) ≡ map Some (keys_of i)
  keys_in i is =
      let all = intervals_of store in
      let within = slice_get_within all at i is in
      let here = get_or_from_slice_get all at i i is in
      let pre = flat_map keys_of (take at all) in
      let rest = flat_map keys_of (drop (at + 1) all) in
      let places : notices_in store at ≡ counted_from (length pre) (length (keys_of i)) =
      ap (places_in (length pre)) is ∙ ap (counted_from (length pre)) (sym (length-map i.pages (λ page. key_of page i))) in
      ap (map (key_at store)) places
      ∙ ap (λ (l : List Key). map (slice_get l) (counted_from (length pre) (length (keys_of i)))) (split_at all at i within here)
      ∙ map_counted pre (keys_of i) rest

  pub notices_in-rises : AllPairs (λ a b. a < b) (notices_in store at)
  notices_in-rises = rises (slice_get (intervals_of store) at)
    where
      rises : (found : Option IntervalRecord) → AllPairs (λ a b. a < b) (places_in (length (flat_map keys_of (take at (intervals_of store)))) found)
      rises None = λ i j d less within. absurd (omega (arith, within))
      rises (Some i) = counted_from-rises (length (flat_map keys_of (take at (intervals_of store)))) (length i.pages)

-- ---- where the links begin

module _ (store : StoreRecord) (at : ℕ) (d : StoredRecord) where
  notices_in-here : at < length store.entries
      → notices_in store at ≡ counted_from (count_of (take at (intervals_of store))) (length (get_or store.entries at d).notices)
  notices_in-here within =
      let inside : at < length (intervals_of store) = omega (arith, within, length-map store.entries interval_of) in
      let here : slice_get (intervals_of store) at ≡ Some (interval_of (get_or store.entries at d)) =
      slice_get-get_or (intervals_of store) at (interval_of d) inside
      ∙ ap Some (get_or-map interval_of store.entries at d (interval_of d) within) in
      let start = count_of (take at (intervals_of store)) in
      ap (places_in start) here ∙ ap (counted_from start) (length-map (get_or store.entries at d).notices (λ notice. notice.page))

  pub first_notice-none : at < length store.entries → length (get_or store.entries at d).notices ≡ 0 → first_notice_of store at ≡ None
  first_notice-none within none =
      ap (λ (l : List ℕ). slice_get l 0) (notices_in-here within ∙ ap (counted_from (count_of (take at (intervals_of store)))) none)

  pub first_notice-some : at < length store.entries → 0 < length (get_or store.entries at d).notices
      → first_notice_of store at ≡ Some (count_of (take at (intervals_of store)))
  first_notice-some within some =
      let start = count_of (take at (intervals_of store)) in
      let count = length (get_or store.entries at d).notices in
      ap (λ (l : List ℕ). slice_get l 0) (notices_in-here within) ∙ first start count some
    where
      first : (start n : ℕ) → 0 < n → slice_get (counted_from start n) 0 ≡ Some start
      first start zero less = absurd (omega (arith, less))
      first start (suc n) less = refl

  pub first_notice-within : at < length store.entries → 0 < length (get_or store.entries at d).notices
      → count_of (take at (intervals_of store)) < length (notices_of store)
  first_notice-within within some =
      let more = count_of-more store.entries at d within in
      let most = count_of-entries store.entries (at + 1) in
      let same = ap count_of (take-map interval_of at store.entries) in
      omega (arith, more, most, same, some)

  -- an interval's pages ascend
  pub pages-rise : All IsInterval (intervals_of store) → (interval : IntervalRecord) → slice_get (intervals_of store) at ≡ Some interval
      → IsRising interval.pages
  pages-rise are interval is =
      subst (λ (i : IntervalRecord). IsRising i.pages) (get_or_from_slice_get (intervals_of store) at interval interval is)
      (are at interval (slice_get_within (intervals_of store) at interval is)).ascending
