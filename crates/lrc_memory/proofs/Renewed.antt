-- New keepers, page by page.
use Rattle.std.proofs.Common.{◌≡◌, ◌≢◌, ◌∙◌, ℕ, ◌+◌, ◌<◌, ◌≤◌, ◌⊎◌, inl, inr, ⊎_elim, Bool, true, false, cond, Option, Some}
use Rattle.std.proofs.Common.{None, List, [], ◌∷◌, map, length, get_or, set, min, refl, ap, sym, subst, arith}
use Rattle.std.specs.Prelude.{All, filter_map, unwrap_or, option_map}
use Rattle.std.specs.List.{enumerate_from}
use Rattle.std.proofs.lemmas.Bool.{cases_eq, cases_lt}
use Rattle.std.proofs.lemmas.List.{ext_get_or, length-set, length-map, get_or-map, get_or-set_same, get_or-set_other}
use Rattle.std.proofs.lemmas.List.FromFn.{length-enumerate_from, get_or-enumerate_from}
use Rattle.std.proofs.lemmas.List.Elements.{All-head, All-tail, All-cons}
use Rattle.lrc_store.specs.Interval.{IntervalRecord}
use Rattle.lrc_store.specs.Store.{StoreRecord, intervals_of}
use Rattle.lrc_protocol.specs.Times.{is_named}
use Rattle.lrc_protocol.specs.Barriers.{least, namers_of, with_keepers}
use Rattle.lrc_memory.specs.View.{Kept, NodeMemory, IsKept, node_seen, unmade, with_known}
use Rattle.lrc_memory.proofs.Overlays.{intervals-over}

abbrev pub renewed : StoreRecord → List ℕ → List ℕ
renewed store keepers = map (λ place. unwrap_or (least (namers_of store place.0)) place.1) (enumerate_from 0 keepers)

pub record IsRenewed (store : StoreRecord) (old new : List ℕ) (i : ℕ) : Type 0 where
  pub long : length new ≡ length old
  pub done : (p : ℕ) → p < i → p < length old → get_or new p 0 ≡ unwrap_or (least (namers_of store p)) (get_or old p 0)
  pub rest : (p : ℕ) → i ≤ p → get_or new p 0 ≡ get_or old p 0

pub renew_starts : (store : StoreRecord) (old : List ℕ) → IsRenewed store old old 0
renew_starts store old = record {
  long = refl;
  done = λ p below within. absurd (omega arith);
  rest = λ p above. refl;
}

pub renew_keeps : (store : StoreRecord) (old new : List ℕ) (i : ℕ) → least (namers_of store i) ≡ None → IsRenewed store old new i
    → IsRenewed store old new (i + 1)
renew_keeps store old new i none so_far = record {
  long = so_far.long;
  done = λ p below within.
      ⊎_elim
      (λ (same : p ≡ i).
      so_far.rest p (omega (arith, same))
      ∙ sym (ap (λ found. unwrap_or found (get_or old p 0)) (ap (λ p. least (namers_of store p)) same ∙ none)))
      (λ (other : p ≢ i). so_far.done p (below_other p below other) within)
      (cases_eq p i);
  rest = λ p above. so_far.rest p (omega arith);
}
  where
    below_other : (p : ℕ) → p < i + 1 → p ≢ i → p < i
    below_other p below other = omega arith

pub renew_sets : (store : StoreRecord) (old new : List ℕ) (i node : ℕ) → least (namers_of store i) ≡ Some node → i < length old
    → IsRenewed store old new i → IsRenewed store old (set new i node) (i + 1)
renew_sets store old new i node found within_old so_far =
    let within : i < length new = omega (arith, so_far.long) in
    record {
      long = length-set new i node ∙ so_far.long;
      done = λ p below inside.
          ⊎_elim
          (λ (same : p ≡ i).
          ap (λ p. get_or (set new i node) p 0) same
          ∙ get_or-set_same new i node 0 within
          ∙ sym (ap (λ found. unwrap_or found (get_or old p 0)) (ap (λ p. least (namers_of store p)) same ∙ found)))
          (λ (other : p ≢ i). get_or-set_other new i p node 0 other ∙ so_far.done p (below_other p below other) inside)
          (cases_eq p i);
      rest = λ p above. get_or-set_other new i p node 0 (λ same. absurd (omega (arith, same, above))) ∙ so_far.rest p (omega arith);
    }
  where
    below_other : (p : ℕ) → p < i + 1 → p ≢ i → p < i
    below_other p below other = omega arith

place-at : (xs : List ℕ) (p : ℕ) → p < length xs → get_or (enumerate_from 0 xs) p (0, 0) ≡ (p, get_or xs p 0)
place-at xs p within =
    let zero_plus : 0 + p ≡ p = omega arith in
    get_or-enumerate_from 0 xs p (0, 0) within ∙ ap {B = ℕ × ℕ} (λ k. (k, get_or xs p 0)) zero_plus

pub renew_ends : (store : StoreRecord) (old new : List ℕ) (i : ℕ) → length old ≤ i → IsRenewed store old new i → new ≡ renewed store old
renew_ends store old new i past so_far =
    let f = λ (place : ℕ × ℕ). unwrap_or (least (namers_of store place.0)) place.1 in
    let long : length (enumerate_from 0 old) ≡ length old = length-enumerate_from 0 old in
    ext_get_or 0 new (renewed store old)
    (so_far.long ∙ sym (length-map (enumerate_from 0 old) f ∙ long))
    (λ p within.
    let below : p < length old = omega (arith, so_far.long, within) in
    so_far.done p (omega arith) below
    ∙ sym (get_or-map f (enumerate_from 0 old) p (0, 0) 0 (omega (arith, long)) ∙ ap f (place-at old p below)))

-- ---- the keepers are nodes

least-all : (P : ℕ → Type 0) (xs : List ℕ) (found : Option ℕ) → All P xs → least xs ≡ found → (d : ℕ) → P d → P (unwrap_or found d)
least-all P xs found all is d otherwise = rw (sym is) (by_list xs all)
  where
    lower : (x : ℕ) (rest : Option ℕ) → P x → P (unwrap_or rest x) → P (unwrap_or (option_map (min x) rest) x)
    lower x None here there = here
    lower x (Some y) here there = ⊎_elim (λ (same : min x y ≡ x). subst P (sym same) here) (λ (same : min x y ≡ y). subst P (sym same) there) (either x y)
      where
        either : (x y : ℕ) → (min x y ≡ x) ⊎ (min x y ≡ y)
        either x y = ⊎_elim (λ (less : x < y). inl (omega arith)) (λ (more : y ≤ x). inr (omega arith)) (cases_lt x y)

    by_list : (xs : List ℕ) → All P xs → P (unwrap_or (least xs) d)
    by_list [] all = otherwise
    by_list (x ∷ xs) all = lower x (least xs) (All-head P x xs all) (any xs x (All-tail P x xs all) (All-head P x xs all))
      where
        any : (ys : List ℕ) (e : ℕ) → All P ys → P e → P (unwrap_or (least ys) e)
        any [] e all here = here
        any (y ∷ ys) e all here = lower y (least ys) (All-head P y ys all) (any ys y (All-tail P y ys all) (All-head P y ys all))

namers-all : (P : ℕ → Type 0) (page : ℕ) (intervals : List IntervalRecord) → All (λ (i : IntervalRecord). P i.node) intervals
    → All P (filter_map (λ (i : IntervalRecord). cond (is_named (i ∷ []) page) (Some i.node) None) intervals)
namers-all P page [] all = λ k d within. absurd (omega arith)
namers-all P page (i ∷ is) all =
    either (namers-all P page is (All-tail (λ (i : IntervalRecord). P i.node) i is all)) (is_named (i ∷ []) page) refl
  where
    either : All P (filter_map (λ (i : IntervalRecord). cond (is_named (i ∷ []) page) (Some i.node) None) is)
        → (b : Bool) → is_named (i ∷ []) page ≡ b
        → All P (filter_map (λ (i : IntervalRecord). cond (is_named (i ∷ []) page) (Some i.node) None) (i ∷ is))
    either rest true named = rw named (All-cons P i.node _ (All-head (λ (i : IntervalRecord). P i.node) i is all) rest)
    either rest false named = rw named rest

renewed-all : (P : ℕ → Type 0) (store : StoreRecord) (keepers : List ℕ) → All (λ (i : IntervalRecord). P i.node) (intervals_of store) → All P keepers
    → All P (renewed store keepers)
renewed-all P store keepers makers all k d within =
    let f = λ (place : ℕ × ℕ). unwrap_or (least (namers_of store place.0)) place.1 in
    let long : length (enumerate_from 0 keepers) ≡ length keepers = length-enumerate_from 0 keepers in
    let inside : k < length keepers = omega (arith, long, length-map (enumerate_from 0 keepers) f, within) in
    let is : get_or (renewed store keepers) k d ≡ unwrap_or (least (namers_of store k)) (get_or keepers k 0) =
    get_or-map f (enumerate_from 0 keepers) k (0, 0) d (omega (arith, long)) ∙ ap f (place-at keepers k inside) in
    subst P (sym is) (least-all P (namers_of store k) _ (namers-all P k (intervals_of store) makers) refl (get_or keepers k 0) (all k 0 inside))

length-renewed : (store : StoreRecord) (keepers : List ℕ) → length (renewed store keepers) ≡ length keepers
length-renewed store keepers =
    length-map (enumerate_from 0 keepers) (λ (place : ℕ × ℕ). unwrap_or (least (namers_of store place.0)) place.1) ∙ length-enumerate_from 0 keepers

-- ---- as it is kept and seen

pub kept-renewed : (kept : Kept) (keepers : List ℕ) → IsKept kept → keepers ≡ renewed kept.store kept.keepers → IsKept (record kept { keepers = keepers })
kept-renewed kept keepers is are = record {
  pages = is.pages;
  since = is.since;
  named = is.named;
  keepers = ap length are ∙ length-renewed kept.store kept.keepers ∙ is.keepers;
  me = is.me;
  times = is.times;
  collected = is.collected;
  keeping = subst (All (λ keeper. keeper < length kept.store.last)) (sym are)
      (renewed-all (λ keeper. keeper < length kept.store.last) kept.store kept.keepers is.makers is.keeping);
  makers = is.makers;
  passed = is.passed;
  in_step = is.in_step;
  store = is.store;
  sized = is.sized;
  unmade = is.unmade;
}

pub seen-renewed : (kept : Kept) (keepers : List ℕ) (n : NodeMemory) → node_seen kept ≡ n → keepers ≡ renewed kept.store kept.keepers
    → node_seen (record kept { keepers = keepers }) ≡ with_known n (with_keepers n.memory)
seen-renewed kept keepers n is are =
    ap (λ (ks : List ℕ). node_seen (record kept { keepers = ks })) are
    ∙ ap (λ (intervals : List IntervalRecord). node_seen (record kept { keepers = from intervals }))
    (sym (intervals-over (unmade kept.me kept.named kept.table) kept.store))
    ∙ ap (λ (n : NodeMemory). with_known n (with_keepers n.memory)) is
  where
    from : List IntervalRecord → List ℕ
    from intervals =
        map (λ (place : ℕ × ℕ).
        unwrap_or (least (filter_map (λ (i : IntervalRecord). cond (is_named (i ∷ []) place.0) (Some i.node) None) intervals)) place.1)
        (enumerate_from 0 kept.keepers)
