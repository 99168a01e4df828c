-- What is asked of a maker is stored there: an interval that a copy lacks is one that its maker closed, and has not collected.
use Rattle.std.proofs.Common.{◌≡◌, ℕ, ◌<◌, ◌≤◌, List, [], ◌∷◌, Bool, true, is_some, sym, ap, subst, ◌∙◌, ⊎_elim, arith}
use Rattle.std.specs.Prelude.{◌==◌, not, is_none, All, Contains, filter, map, nat_lt}
use Rattle.std.specs.List.{list_any}
use Rattle.std.proofs.lemmas.Bool.{and_parts, cond_both, eqb-true, not-true, leb-false, false≢true}
use Rattle.std.proofs.lemmas.List.Elements.{All-nil, All-map, All-weaker, All-filter, All-contains, All-contains_itself}
use Rattle.lrc_time.specs.Time.{entry, knows}
use Rattle.lrc_store.specs.declared.key.Key.{Key}
use Rattle.lrc_store.specs.Interval.{IntervalRecord, index_of, by_weight}
use Rattle.lrc_store.specs.Order.{placed, ascending_part}
use Rattle.lrc_store.specs.Store.{intervals_of, notice_at, changes_at, is_missing, key_of, missing_of}
use Rattle.lrc_store.proofs.Orders.{Contains-first, Contains-later, cases_Contains, none_Contains}
use Rattle.lrc_protocol.specs.Pages.{Copy, valid, written, invalid, absent, copy_at, missing_at, missing_in, indices_of, unknown_of}
use Rattle.lrc_protocol.specs.Node.{Node}
use Rattle.lrc_node_laws.specs.Reached.{IsReached}
use Rattle.lrc_node_laws.specs.Remembered.{IsBetween}
use Rattle.lrc_node_laws.proofs.Keys.{IsNoticed, All-part, missing-noticed}
use Rattle.lrc_node_laws.proofs.Needs.{filter-both}
use Rattle.lrc_node_laws.proofs.Always.{is_store_at, between_at}
use Rattle.lrc_reading_laws.specs.Made.{StoresJust}

-- ---- a part of a list in order has what passes

in_placed : {X : Type 0} (before : X → X → Bool) (x : X) (xs : List X) (y : X) → Contains (x ∷ xs) y → Contains (placed before x xs) y
in_placed before x [] y there = there
in_placed before x (z ∷ zs) y there =
    cond_both (before x z) (x ∷ z ∷ zs) (z ∷ placed before x zs) (λ l. Contains l y)
    (λ e. there)
    (λ e. ⊎_elim
    (λ (same : x ≡ y). Contains-later z (placed before x zs) y (in_placed before x zs y (subst (Contains (x ∷ zs)) same (Contains-first x zs))))
    (λ rest. ⊎_elim
    (λ (same : z ≡ y). subst (Contains (z ∷ placed before x zs)) same (Contains-first z (placed before x zs)))
    (λ later. Contains-later z (placed before x zs) y (in_placed before x zs y (Contains-later x zs y later)))
    (cases_Contains z zs y rest))
    (cases_Contains x (z ∷ zs) y there))

in_part : {X : Type 0} (before : X → X → Bool) (test : X → Bool) (xs : List X) (y : X) → Contains xs y → test y ≡ true
    → Contains (ascending_part before test xs) y
in_part before test [] y there passes = absurd (none_Contains y there)
in_part before test (x ∷ xs) y there passes =
    let rest : List _ = ascending_part before test xs in
    cond_both (test x) (placed before x rest) rest (λ l. Contains l y)
    (λ e. in_placed before x rest y
    (⊎_elim
    (λ (same : x ≡ y). subst (Contains (x ∷ rest)) same (Contains-first x rest))
    (λ later. Contains-later x rest y (in_part before test xs y later passes))
    (cases_Contains x xs y there)))
    (λ e. ⊎_elim
    (λ (same : x ≡ y). absurd (false≢true (sym e ∙ ap test same ∙ passes)))
    (λ later. in_part before test xs y later passes)
    (cases_Contains x xs y there))

in_map : {X Y : Type 0} (f : X → Y) (xs : List X) (x : X) → Contains xs x → Contains (map f xs) (f x)
in_map f [] x there = absurd (none_Contains x there)
in_map f (y ∷ ys) x there =
    ⊎_elim
    (λ (same : y ≡ x). subst (Contains (f y ∷ map f ys)) (ap f same) (Contains-first (f y) (map f ys)))
    (λ later. Contains-later (f y) (map f ys) (f x) (in_map f ys x later))
    (cases_Contains y ys x there)

-- ---- at the maker

module _ (made : List IntervalRecord) (asker maker : Node) (r : IsReached asker) (s : IsReached maker) (asks : StoresJust made asker)
    (makes : StoresJust made maker)
    (upto : (i : IntervalRecord) → Contains made i → i.node ≡ maker.setting.me → index_of i ≤ entry maker.locks.time maker.setting.me)
    (newest : entry maker.memory.collected maker.setting.me ≤ entry asker.memory.collected maker.setting.me) (page : ℕ) where
  -- the maker has an interval with this index, and it names the page
  Named : ℕ → Type 0
  Named index = is_some (notice_at maker.memory.store (record { node = maker.setting.me; index = index; page = page })) ≡ true

  Stored : Key → Type 0
  Stored key = key.node ≡ maker.setting.me → Named key.index

  -- an interval that the asker stores and its copy lacks
  interval_stored : (since : List ℕ) → entry asker.memory.collected maker.setting.me ≤ entry since maker.setting.me → (i : IntervalRecord)
      → Contains (intervals_of asker.memory.store) i → is_missing page since i ≡ true → Stored (key_of page i)
  unfolding Stored Named
  interval_stored since above i there missing mine =
      let parts : _ = and_parts (list_any (λ named. named == page) i.pages) (not (knows since i.node (index_of i))) missing in
      let lacks : entry since i.node < index_of i = leb-false (index_of i) (entry since i.node) (not-true (knows since i.node (index_of i)) parts.1) in
      let here : entry since maker.setting.me < index_of i = subst (λ k. entry since k < index_of i) mine lacks in
      let was : _ = (asks i).0 there in
      let most : index_of i ≤ entry maker.locks.time maker.setting.me = upto i was.0 mine in
      let stored : Contains (intervals_of maker.memory.store) i =
      (makes i).1 (
        was.0,
        subst (λ k. entry maker.memory.collected k < index_of i) (sym mine) (omega (arith, newest, above, here)),
        subst (λ k. index_of i ≤ entry maker.locks.time k) (sym mine) most,
      ) in
      subst (λ k. is_some (notice_at maker.memory.store (record { node = k; index = index_of i; page = page })) ≡ true) mine
      (All-contains (λ (key : Key). (key.page ≡ page) × IsNoticed maker.memory.store key) (missing_of maker.memory.store page since) (key_of page i)
      (missing-noticed maker.memory.store page since (is_store_at maker s))
      (in_map (key_of page) (ascending_part by_weight (is_missing page since) (intervals_of maker.memory.store)) i
      (in_part by_weight (is_missing page since) (intervals_of maker.memory.store) i stored missing))).1

  missing_stored : (since : List ℕ) → entry asker.memory.collected maker.setting.me ≤ entry since maker.setting.me
      → All Stored (missing_of asker.memory.store page since)
  missing_stored since above =
      All-map Stored (key_of page) (ascending_part by_weight (is_missing page since) (intervals_of asker.memory.store))
      (All-part by_weight (is_missing page since) (Contains (intervals_of asker.memory.store)) (λ i. Stored (key_of page i))
      (λ i there missing. interval_stored since above i there missing)
      (intervals_of asker.memory.store) (All-contains_itself (intervals_of asker.memory.store)))

  lacking_stored : (copy : Copy) → IsBetween asker.locks.time asker.memory page copy → All Stored (missing_in asker.memory page copy)
  lacking_stored (valid values) b = All-nil Stored
  lacking_stored (written values twin) b = All-nil Stored
  lacking_stored (invalid values since) b = missing_stored since (b.0 maker.setting.me)
  lacking_stored absent b = missing_stored asker.memory.collected (omega arith)

  -- what is asked of the maker
  pub asked_stored : All (λ index. is_some (notice_at maker.memory.store (record { node = maker.setting.me; index = index; page = page })) ≡ true)
      (indices_of (unknown_of asker.memory.store (missing_at asker.memory page)) maker.setting.me)
  unfolding Stored Named
  asked_stored =
      let keys : List Key = unknown_of asker.memory.store (missing_at asker.memory page) in
      let mine : Key → Bool = λ (key : Key). key.node == maker.setting.me in
      All-part nat_lt (λ index. true) Named Named (λ index named e. named) (map (λ (key : Key). key.index) (filter mine keys))
      (All-map Named (λ (key : Key). key.index) (filter mine keys)
      (All-weaker (λ (key : Key). Stored key × (mine key ≡ true)) (λ (key : Key). Named key.index)
      (λ key is. is.0 (eqb-true key.node maker.setting.me is.1)) (filter mine keys)
      (filter-both mine Stored keys
      (All-filter (λ (key : Key). is_none (changes_at asker.memory.store key)) Stored (missing_at asker.memory page)
      (lacking_stored (copy_at asker.memory page) (between_at asker r page))))))
