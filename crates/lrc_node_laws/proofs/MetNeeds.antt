-- Where all has come that a page needs, all changes that its copy lacks are known.
use Rattle.std.proofs.Common.{◌≡◌, ℕ, zero, suc, ◌+◌, ◌<◌, ◌≤◌, List, [], ◌∷◌, true, refl, sym, subst, ◌∙◌, inl, inr, arith}
use Rattle.std.specs.Prelude.{Option, Some, None, is_none, All, Contains, not, filter_map, slice_index_or}
use Rattle.std.specs.List.{range_with_len, cons_option}
use Rattle.std.proofs.lemmas.Bool.{and_parts, cases_Bool, cases_eq}
use Rattle.std.proofs.lemmas.List.Elements.{All-nil, All-map, All-contains_itself}
use Rattle.lrc_store.specs.declared.key.Key.{Key}
use Rattle.lrc_store.specs.Interval.{IntervalRecord, by_weight}
use Rattle.lrc_store.specs.Store.{StoreRecord, intervals_of, changes_at, is_missing, key_of, missing_of}
use Rattle.lrc_store.proofs.Orders.{none_Contains, filter-Contains}
use Rattle.lrc_protocol.specs.Pages.{Copy, valid, written, invalid, absent, Memory, copy_at, missing_in, Asked, Need, indices_of, some_asked}
use Rattle.lrc_protocol.specs.Pages.{asked_of, unknown_of, is_due, is_empty_list, is_met}
use Rattle.lrc_node_laws.specs.Ranges.{InRange, HasRanges}
use Rattle.lrc_node_laws.specs.Needs.{FitsNeed}
use Rattle.lrc_node_laws.proofs.Keys.{IsKnown, All-part}
use Rattle.lrc_node_laws.proofs.Asking.{index-contained}

-- nothing is left where nothing was chosen
chosen-none : {X Y : Type 0} (f : X → Option Y) (x : X) (xs : List X) → filter_map f (x ∷ xs) ≡ [] → (f x ≡ None) × (filter_map f xs ≡ [])
chosen-none f x xs e = by_choice (f x) refl e
  where
    by_choice : (o : Option _) → f x ≡ o → cons_option o (filter_map f xs) ≡ [] → (f x ≡ None) × (filter_map f xs ≡ [])
    by_choice None c e = (c, e)
    by_choice (Some y) c e = cc

range-none : {Y : Type 0} (f : ℕ → Option Y) (a n : ℕ) → filter_map f (range_with_len a n) ≡ [] → (k : ℕ) → a ≤ k → k < a + n → f k ≡ None
range-none f a zero e k low high = absurd (omega arith)
range-none f a (suc n) e k low high =
    let both : (f a ≡ None) × (filter_map f (range_with_len (a + 1) n) ≡ []) = chosen-none f a (range_with_len (a + 1) n) e in
    elim (cases_eq a k) [
      | inl here ↦ subst (λ m. f m ≡ None) here both.0
      | inr other ↦ range-none f (a + 1) n both.1 k (omega arith) (omega arith)
    ]

asked-none : (maker : ℕ) (indices : List ℕ) → some_asked maker indices ≡ None → indices ≡ []
asked-none maker [] e = refl
asked-none maker (index ∷ indices) e = cc

-- where nothing is asked of makers that there are, there is no key
no-keys : (nodes : ℕ) (keys : List Key) → asked_of nodes keys ≡ [] → (key : Key) → key.node < nodes → Contains keys key → ⊥
no-keys nodes keys e key lt there =
    let none : indices_of keys key.node ≡ [] =
    asked-none key.node (indices_of keys key.node) (range-none (λ maker. some_asked maker (indices_of keys maker)) 0 nodes e key.node (omega arith)
    (omega (arith, lt))) in
    none_Contains key.index (subst (λ l. Contains l key.index) none (index-contained keys key.node key there refl))

-- keys are of nodes that there are
missing-below : (nodes pages page : ℕ) (since : List ℕ) (store : StoreRecord) → All (InRange nodes pages) (intervals_of store)
    → All (λ (key : Key). key.node < nodes) (missing_of store page since)
missing-below nodes pages page since store h =
    All-map (λ (key : Key). key.node < nodes) (key_of page) _
    (All-part by_weight (is_missing page since) (InRange nodes pages) (λ (i : IntervalRecord). i.node < nodes) (λ i r e. r.node) (intervals_of store) h)

pub lacking-below : (nodes pages page : ℕ) (memory : Memory) (copy : Copy) → All (InRange nodes pages) (intervals_of memory.store)
    → All (λ (key : Key). key.node < nodes) (missing_in memory page copy)
lacking-below nodes pages page memory (valid values) h = All-nil (λ (key : Key). key.node < nodes)
lacking-below nodes pages page memory (written values twin) h = All-nil (λ (key : Key). key.node < nodes)
lacking-below nodes pages page memory (invalid values since) h = missing-below nodes pages page since memory.store h
lacking-below nodes pages page memory absent h = missing-below nodes pages page memory.collected memory.store h

nothing-asked : (asked : List Asked) → is_empty_list asked ≡ true → asked ≡ []
nothing-asked [] e = refl
nothing-asked (a ∷ asked) e = cc

pub met-known : (nodes pages words : ℕ) (memory : Memory) (need : Need) → HasRanges nodes pages memory → FitsNeed nodes pages words memory need
    → is_met need ≡ true
    → All (λ (key : Key). IsKnown memory.store key) need.missing
met-known nodes pages words memory need r f met =
    let none : asked_of nodes (unknown_of memory.store need.missing) ≡ [] =
    sym f.asked ∙ nothing-asked need.asked (and_parts (not (is_due need.base)) _ met).1 in
    let below : All (λ (key : Key). key.node < nodes) need.missing =
    subst (All (λ (key : Key). key.node < nodes)) (sym f.missing) (lacking-below nodes pages need.page memory (copy_at memory need.page) r.intervals) in
    λ k d within.
    let key : Key = slice_index_or need.missing k d in
    elim (cases_Bool (is_none (changes_at memory.store key))) [
      | inr known ↦ known
      | inl unknown ↦
          absurd (no-keys nodes (unknown_of memory.store need.missing) none key (below k d within)
          ((filter-Contains (λ (key : Key). is_none (changes_at memory.store key)) need.missing key).1 (All-contains_itself need.missing k d within, unknown)))
    ]
