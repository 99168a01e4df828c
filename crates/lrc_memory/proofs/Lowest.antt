-- The lowest node that names a page, along the page's list.
use Rattle.std.proofs.Common.{◌≡◌, ◌≢◌, ◌∙◌, ℕ, zero, suc, ◌+◌, ◌<◌, ◌≤◌, Bool, true, false, cond, eqb, eqb-true, ◌||◌, Option, Some}
use Rattle.std.proofs.Common.{None, List, [], ◌∷◌, ◌++◌, map, length, get_or, take, min, refl, ap, sym, subst, arith}
use Rattle.std.specs.Prelude.{filter, flat_map, slice_get, unwrap_or, option_map, filter_map}
use Rattle.std.specs.List.{list_any}
use Rattle.std.proofs.lemmas.List.{get_or-map, take-map, take_all}
use Rattle.std.proofs.lemmas.List.Elements.{filter-append}
use Rattle.lrc_store.specs.declared.key.Key.{Key}
use Rattle.lrc_store.specs.Chains.{last_at}
use Rattle.lrc_store.specs.Interval.{IntervalRecord}
use Rattle.lrc_store.specs.Lists.{keys_of, notices_of, pages_noted, first_on_page_of, next_on_page_of}
use Rattle.lrc_store.specs.Store.{StoreRecord, intervals_of, key_of}
use Rattle.lrc_store.proofs.Chained.{Reaches, reaches, picked_more, last_at-map}
use Rattle.lrc_protocol.specs.Times.{is_named}
use Rattle.lrc_protocol.specs.Barriers.{least, namers_of}
use Rattle.lrc_memory.proofs.Overlays.{map-append}

-- the lower of two, where either may be missing
abbrev pub joined : Option ℕ → Option ℕ → Option ℕ
joined None b = b
joined (Some x) b = Some (unwrap_or (option_map (min x) b) x)

joined-turned : (a b : Option ℕ) → joined a b ≡ joined b a
joined-turned None None = refl
joined-turned None (Some y) = refl
joined-turned (Some x) None = refl
joined-turned (Some x) (Some y) = ap Some (omega arith)

joined-apart : (a b c : Option ℕ) → joined (joined a b) c ≡ joined a (joined b c)
joined-apart None b c = refl
joined-apart (Some x) None c = refl
joined-apart (Some x) (Some y) None = refl
joined-apart (Some x) (Some y) (Some z) = ap Some (omega arith)

joined-none : (a : Option ℕ) → joined a None ≡ a
joined-none None = refl
joined-none (Some x) = refl

least-append : (xs ys : List ℕ) → least (xs ++ ys) ≡ joined (least xs) (least ys)
least-append [] ys = refl
least-append (x ∷ xs) ys = ap (joined (Some x)) (least-append xs ys) ∙ sym (joined-apart (Some x) (least xs) (least ys))

least-push : (a : Option ℕ) (xs : List ℕ) (x : ℕ) → joined a (least (xs ++ x ∷ [])) ≡ joined (joined (Some x) a) (least xs)
least-push a xs x =
    ap (joined a) (least-append xs (x ∷ []) ∙ joined-turned (least xs) (Some x))
    ∙ sym (joined-apart a (Some x) (least xs))
    ∙ ap (λ both. joined both (least xs)) (joined-turned a (Some x))

-- the nodes of the keys of a page
abbrev on_page : ℕ → Key → Bool
on_page page key = eqb key.page page

abbrev nodes_on : ℕ → List Key → List ℕ
nodes_on page keys = map (λ (key : Key). key.node) (filter (on_page page) keys)

nodes_on-append : (page : ℕ) (ks ls : List Key) → nodes_on page (ks ++ ls) ≡ nodes_on page ks ++ nodes_on page ls
nodes_on-append page ks ls =
    ap (map (λ (key : Key). key.node)) (filter-append (on_page page) ks ls)
    ∙ map-append (λ (key : Key). key.node) (filter (on_page page) ks) (filter (on_page page) ls)

-- an interval names a page or does not
own-least : (page : ℕ) (i : IntervalRecord) (pages : List ℕ)
    → least (nodes_on page (map (λ p. key_of p i) pages)) ≡ cond (list_any (λ named. eqb named page) pages) (Some i.node) None
own-least page i [] = refl
own-least page i (p ∷ ps) = either (eqb p page) (list_any (λ named. eqb named page) ps) (own-least page i ps)
  where
    either : (here later : Bool) → least (nodes_on page (map (λ p. key_of p i) ps)) ≡ cond later (Some i.node) None
        → least (map (λ (key : Key). key.node)
        (cond here (key_of p i ∷ filter (on_page page) (map (λ p. key_of p i) ps)) (filter (on_page page) (map (λ p. key_of p i) ps))))
        ≡ cond (here || later) (Some i.node) None
    either false later is = is
    either true false is = ap (joined (Some i.node)) is
    either true true is = ap (joined (Some i.node)) is ∙ ap Some (omega arith)

abbrev names : ℕ → IntervalRecord → Option ℕ
names page i = cond (is_named (i ∷ []) page) (Some i.node) None

least-named : (page : ℕ) (intervals : List IntervalRecord)
    → least (nodes_on page (flat_map keys_of intervals)) ≡ least (filter_map (names page) intervals)
least-named page [] = refl
least-named page (i ∷ is) =
    ap least (nodes_on-append page (keys_of i) (flat_map keys_of is))
    ∙ least-append (nodes_on page (keys_of i)) (nodes_on page (flat_map keys_of is))
    ∙ ap (λ first. joined first (least (nodes_on page (flat_map keys_of is)))) (own-least page i i.pages)
    ∙ ap (joined (cond (list_any (λ named. eqb named page) i.pages) (Some i.node) None)) (least-named page is)
    ∙ either (list_any (λ named. eqb named page) i.pages) refl
  where
    either : (b : Bool) → list_any (λ named. eqb named page) i.pages ≡ b
        → joined (cond (list_any (λ named. eqb named page) i.pages) (Some i.node) None) (least (filter_map (names page) is))
        ≡ least (filter_map (names page) (i ∷ is))
    either true is_so = cc (is_so)
    either false is_so = cc (is_so)

-- ---- the walk

none : Key
none = record { node = 0; index = 0; page = 0 }

pub has_key : (keys : List Key) (at : ℕ) → at < length keys → slice_get keys at ≢ None
has_key [] at within is = absurd (omega arith)
has_key (k ∷ ks) zero within is = absurd (cc)
has_key (k ∷ ks) (suc at) within is = has_key ks at (omega arith) is

module _ (store : StoreRecord) (page : ℕ) where
  abbrev notices : List Key
  notices = notices_of store

  -- the walk stands at a notice of the page's list, and of those after it this is the lowest node
  abbrev pub IsSought : Option ℕ → Option ℕ → Type 0
  IsSought next lowest =
      (bound : ℕ) × (bound ≤ length notices)
      × (next ≡ last_at (on_page page) (take bound notices))
      × (least (nodes_on page notices) ≡ joined lowest (least (nodes_on page (take bound notices))))

  reached : (next lowest : Option ℕ) (sought : IsSought next lowest) → Reaches (on_page page) (on_page page) notices sought.0 next
  reached next lowest sought =
      subst (Reaches (on_page page) (on_page page) notices sought.0) (sym sought.2)
      (reaches (on_page page) (on_page page) (λ key fails. fails) notices none sought.0 sought.1)

  pub seek_starts : (next : Option ℕ) → next ≡ first_on_page_of store page → IsSought next None
  seek_starts next is =
      let whole : take (length notices) notices ≡ notices = take_all (length notices) notices (omega arith) in (
        length notices,
        omega arith,
        is ∙ last_at-map (λ other. eqb other page) (λ (key : Key). key.page) notices ∙ ap (last_at (on_page page)) (sym whole),
        ap (λ (l : List Key). least (nodes_on page l)) (sym whole),
      )

  pub seek_within : (at : ℕ) (lowest : Option ℕ) → IsSought (Some at) lowest → at < length notices
  seek_within at lowest sought = let r = reached (Some at) lowest sought in omega (arith, r.0, sought.1)

  pub seek_goes_on : (at : ℕ) (lowest more next : Option ℕ) (key : Key) → IsSought (Some at) lowest → get_or notices at key ≡ key
      → next ≡ next_on_page_of store at → more ≡ joined (Some key.node) lowest → IsSought next more
  seek_goes_on at lowest more next key sought key_is is_next is_more =
      let within = seek_within at lowest sought in
      let r = reached (Some at) lowest sought in
      let here : get_or (pages_noted store) at 0 ≡ page =
      get_or-map (λ (key : Key). key.page) notices at key 0 within ∙ eqb-true _ _ (r.1 key) in
      let test : on_page page (get_or notices at key) ≡ true = r.1 key in
      let step : filter (on_page page) (take (at + 1) notices) ≡ filter (on_page page) (take at notices) ++ get_or notices at key ∷ [] =
      picked_more (on_page page) (on_page page) (λ key fails. fails) notices key at true within test in
      let nodes : nodes_on page (take sought.0 notices) ≡ nodes_on page (take at notices) ++ key.node ∷ [] =
      ap (map (λ (key : Key). key.node)) (r.2 ∙ step)
      ∙ map-append (λ (key : Key). key.node) (filter (on_page page) (take at notices)) (get_or notices at key ∷ [])
      ∙ ap (λ (k : Key). nodes_on page (take at notices) ++ k.node ∷ []) key_is in (
        at,
        omega (arith, within),
        is_next ∙ ap (λ k. last_at (λ other. eqb other k) (take at (pages_noted store))) here
            ∙ ap (last_at (λ other. eqb other page)) (take-map (λ (key : Key). key.page) at notices)
            ∙ last_at-map (λ other. eqb other page) (λ (key : Key). key.page) (take at notices),
        sought.3 ∙ ap (λ (l : List ℕ). joined lowest (least l)) nodes
            ∙ least-push lowest (nodes_on page (take at notices)) key.node
            ∙ ap (λ low. joined low (least (nodes_on page (take at notices)))) (sym is_more),
      )

  pub seek_ends : (lowest : Option ℕ) → IsSought None lowest → lowest ≡ least (namers_of store page)
  seek_ends lowest sought =
      sym (sought.3 ∙ ap (λ (l : List Key). joined lowest (least (map (λ (key : Key). key.node) l))) (reached None lowest sought) ∙ joined-none lowest)
      ∙ least-named page (intervals_of store)
