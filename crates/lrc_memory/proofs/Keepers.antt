-- Which pages were named.
use Rattle.std.proofs.Common.{◌≡◌, ◌∙◌, ℕ, suc, ◌+◌, ◌-◌, ◌<◌, Bool, true, false, cond, eqb, ◌&&◌, ◌||◌, Option, Some}
use Rattle.std.proofs.Common.{None, List, [], ◌∷◌, ◌++◌, map, length, get_or, refl, ap, sym, arith}
use Rattle.std.specs.Prelude.{All, filter, flat_map, is_some}
use Rattle.std.specs.List.{list_any, range_with_len}
use Rattle.std.specs.Option.{ForSome, option_or}
use Rattle.std.proofs.lemmas.List.Elements.{All-filter}
use Rattle.std.proofs.lemmas.List.FromFn.{length-range_with_len, get_or-range_with_len, filter_of_map_range_with_len_more}
use Rattle.std.proofs.lemmas.Option.{get_or_from_slice_get}
use Rattle.lrc_page.specs.Pages.{last_page}
use Rattle.lrc_store.specs.declared.key.Key.{Key}
use Rattle.lrc_store.specs.Chains.{last_from}
use Rattle.lrc_store.specs.Interval.{IntervalRecord}
use Rattle.lrc_store.specs.Lists.{keys_of, pages_noted, first_on_page_of}
use Rattle.lrc_store.specs.Store.{StoreRecord, intervals_of, key_of}
use Rattle.lrc_protocol.specs.Times.{is_named}
use Rattle.lrc_protocol.specs.Barriers.{kept_pages}
use Rattle.lrc_memory.specs.View.{Kept, NodeMemory, node_seen, unmade}
use Rattle.lrc_memory.proofs.Overlays.{intervals-over}

some-last : (t : ℕ → Bool) (start : ℕ) (xs : List ℕ) → is_some (last_from t start xs) ≡ list_any t xs
some-last t start [] = refl
some-last t start (x ∷ xs) = either (last_from t (start + 1) xs) (t x) (some-last t (start + 1) xs)
  where
    either : (later : Option ℕ) (b : Bool) → is_some later ≡ list_any t xs
        → is_some (option_or later (cond b (Some start) None)) ≡ (b || list_any t xs)
    either None true is = refl
    either None false is = is
    either (Some n) true is = refl
    either (Some n) false is = is

any-append : (t : ℕ → Bool) (xs ys : List ℕ) → list_any t (xs ++ ys) ≡ (list_any t xs || list_any t ys)
any-append t [] ys = refl
any-append t (x ∷ xs) ys = ap (λ rest. t x || rest) (any-append t xs ys) ∙ either (t x)
  where
    either : (b : Bool) → (b || (list_any t xs || list_any t ys)) ≡ ((b || list_any t xs) || list_any t ys)
    either true = refl
    either false = refl

pages-of : (interval : IntervalRecord) (pages : List ℕ) → map (λ (key : Key). key.page) (map (λ page. key_of page interval) pages) ≡ pages
pages-of interval [] = refl
pages-of interval (p ∷ ps) = ap (λ rest. p ∷ rest) (pages-of interval ps)

map-joined : (ks ls : List Key) → map (λ (key : Key). key.page) (ks ++ ls) ≡ map (λ (key : Key). key.page) ks ++ map (λ (key : Key). key.page) ls
map-joined [] ls = refl
map-joined (k ∷ ks) ls = ap (λ rest. k.page ∷ rest) (map-joined ks ls)

noted-named : (page : ℕ) (intervals : List IntervalRecord)
    → list_any (λ other. eqb other page) (map (λ (key : Key). key.page) (flat_map keys_of intervals)) ≡ is_named intervals page
noted-named page [] = refl
noted-named page (i ∷ is) =
    ap (list_any (λ other. eqb other page))
    (map-joined (keys_of i) (flat_map keys_of is) ∙ ap (λ l. l ++ map (λ (key : Key). key.page) (flat_map keys_of is)) (pages-of i i.pages))
    ∙ any-append (λ other. eqb other page) i.pages (map (λ (key : Key). key.page) (flat_map keys_of is))
    ∙ ap (λ rest. list_any (λ other. eqb other page) i.pages || rest) (noted-named page is)

-- a page has a first notice just where it is named
pub first-named : (store : StoreRecord) (page : ℕ) → is_some (first_on_page_of store page) ≡ is_named (intervals_of store) page
first-named store page = some-last (λ other. eqb other page) 0 (pages_noted store) ∙ noted-named page (intervals_of store)

-- the kept pages among the first
abbrev pub kept_among : Kept → ℕ → List ℕ
kept_among kept count = filter (λ page. is_named (intervals_of kept.store) page && eqb (get_or kept.keepers page 0) kept.me) (range_with_len 0 count)

pub kept-seen : (kept : Kept) (n : NodeMemory) → node_seen kept ≡ n → kept_among kept (length kept.keepers) ≡ kept_pages n.me n.memory
kept-seen kept n is =
    ap (λ (is : List IntervalRecord). filter (λ page. is_named is page && eqb (get_or kept.keepers page 0) kept.me) (range_with_len 0 (length kept.keepers)))
    (sym (intervals-over (unmade kept.me kept.named kept.table) kept.store))
    ∙ ap (λ (n : NodeMemory). kept_pages n.me n.memory) is

-- ---- page by page

abbrev pub is_kept : StoreRecord → List ℕ → ℕ → ℕ → Bool
is_kept store keepers me page = is_named (intervals_of store) page && eqb (get_or keepers page 0) me

same : (xs : List ℕ) → map (λ k. k) xs ≡ xs
same [] = refl
same (x ∷ xs) = ap (λ rest. x ∷ rest) (same xs)

pub kept_more : (p : ℕ → Bool) (n : ℕ) (b : Bool) → p n ≡ b → filter p (range_with_len 0 (n + 1)) ≡ filter p (range_with_len 0 n) ++ cond b (n ∷ []) []
kept_more p n b is =
    let zero_plus : 0 + n ≡ n = omega arith in
    ap (filter p) (sym (same (range_with_len 0 (n + 1))))
    ∙ filter_of_map_range_with_len_more p (λ k. k) 0 n n zero_plus
    ∙ ap (λ l. filter p l ++ cond (p n) (n ∷ []) []) (same (range_with_len 0 n))
    ∙ ap (λ b. filter p (range_with_len 0 n) ++ cond b (n ∷ []) []) is

pub kept_below : (p : ℕ → Bool) (n : ℕ) → ForSome (last_page (filter p (range_with_len 0 n))) (λ last. last < n)
kept_below p n last is =
    let pages = filter p (range_with_len 0 n) in
    let all : All (λ k. k < n) pages = All-filter p (λ k. k < n) (range_with_len 0 n)
    (λ k d within.
    let below : k < n = omega (arith, length-range_with_len 0 n, within) in
    omega (arith, get_or-range_with_len 0 n k d below, below)) in
    by_length pages all is
  where
    by_length : (pages : List ℕ) → All (λ k. k < n) pages → last_page pages ≡ Some last → last < n
    by_length [] all is = absurd (cc)
    by_length (p ∷ ps) all is =
        let end = suc (length ps) - 1 in
        let at : get_or (p ∷ ps) end last ≡ last = get_or_from_slice_get (p ∷ ps) end last last is in
        let below : get_or (p ∷ ps) end last < n = all end last (omega arith) in
        omega (arith, at, below)

abbrev pub kept_with : StoreRecord → ℕ → List ℕ → List ℕ
kept_with store me keepers = filter (is_kept store keepers me) (range_with_len 0 (length keepers))
