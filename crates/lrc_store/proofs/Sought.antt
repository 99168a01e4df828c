-- The interval of a node and an index is where its node's list has it.
use Rattle.std.proofs.Common.{◌≡◌, ℕ, ◌+◌, ◌-◌, ◌<◌, ◌≤◌, ◌∙◌, true, eqb, eqb-true, Option, None, Some}
use Rattle.std.proofs.Common.{List, length, get_or, map, drop, refl, ap, sym, subst, arith}
use Rattle.std.specs.List.{AllPairs, Contains, position, slice_get}
use Rattle.std.proofs.lemmas.Bool.{and_parts, true≢false}
use Rattle.std.proofs.lemmas.List.{get_or-map, length-map}
use Rattle.std.proofs.lemmas.List.Quantifiers.{position-Some}
use Rattle.std.proofs.lemmas.Option.{get_or_from_slice_get, slice_get_within}
use Rattle.lrc_time.specs.Time.{entry}
use Rattle.lrc_store.specs.Interval.{IntervalRecord, index_of}
use Rattle.lrc_store.specs.Lists.{list_of}
use Rattle.lrc_store.specs.Rows.{HasNoGaps, count_of_node}
use Rattle.lrc_store.specs.Store.{StoredRecord, interval_of, is_at}
use Rattle.lrc_store.proofs.ListPlaces.{list_of-exactly}
use Rattle.lrc_store.proofs.Places.{fails-position_none}
use Rattle.lrc_store.proofs.Rowed.{HasNoGaps-at, found_from_last}
use Rattle.lrc_store.proofs.Stores.{once}

-- what is in a list of places is a place
pub listed_within : (keys : List ℕ) (key back at : ℕ) → slice_get (list_of keys key) back ≡ Some at → at < length keys
listed_within keys key back at is =
    let there : Contains (list_of keys key) at =
    (back, slice_get_within (list_of keys key) back at is, get_or_from_slice_get (list_of keys key) back at at is) in
    ((list_of-exactly keys key at).0 there).0

module _ (node index : ℕ) (entries : List StoredRecord) where
  -- the interval stands in its node's list as far behind the last as its index says
  pub sought_there : (last keys : List ℕ) (at : ℕ) (d : StoredRecord) → keys ≡ map (λ i. i.node) (map interval_of entries)
      → HasNoGaps last (map interval_of entries) → at < length entries → is_at node index (get_or entries at d) ≡ true
      → (index ≤ entry last node) × (slice_get (list_of keys node) (entry last node - index) ≡ Some at)
  sought_there last keys at d linked gapless within is =
      let all = map interval_of entries in
      let i = interval_of (get_or entries at d) in
      let inside : at < length all = omega (arith, within, length-map entries interval_of) in
      let here : get_or all at (interval_of d) ≡ i = get_or-map interval_of entries at d (interval_of d) within in
      let parts = and_parts (eqb i.node node) (eqb (index_of i) index) is in
      let of_node : (get_or all at (interval_of d)).node ≡ node = ap (λ (j : IntervalRecord). j.node) here ∙ eqb-true i.node node parts.0 in
      let of_index : index_of (get_or all at (interval_of d)) ≡ index = ap index_of here ∙ eqb-true (index_of i) index parts.1 in
      let count = count_of_node node (drop (at + 1) all) in
      let sum : index_of (get_or all at (interval_of d)) + count ≡ entry last node =
      subst (λ n. index_of (get_or all at (interval_of d)) + count_of_node n (drop (at + 1) all) ≡ entry last n) of_node
      (HasNoGaps-at last all at (interval_of d) gapless inside) in
      let behind : slice_get (list_of keys node) count ≡ Some at =
      ap (λ (l : List ℕ). slice_get (list_of l node) count) linked
      ∙ subst (λ n. slice_get (list_of (map (λ j. j.node) all) n) (count_of_node n (drop (at + 1) all)) ≡ Some at) of_node
      (found_from_last all at (interval_of d) inside) in
      let back : entry last node - index ≡ count = omega (arith, sum, of_index) in
      (omega (arith, sum, of_index), ap (slice_get (list_of keys node)) back ∙ behind)

  -- where no interval has the node and the index there is no place
  pub sought_nowhere : (d : StoredRecord) → ((at : ℕ) → at < length entries → is_at node index (get_or entries at d) ≡ true → ⊥)
      → position (is_at node index) entries ≡ None
  sought_nowhere d never = by_found (position (is_at node index) entries) refl
    where
      by_found : (r : Option ℕ) → position (is_at node index) entries ≡ r → position (is_at node index) entries ≡ None
      by_found None is = is
      by_found (Some k) is =
          let passed = position-Some (is_at node index) entries k d is in
          absurd (never k passed.0 passed.1)

  -- there is just one place
  pub sought_found : AllPairs (λ a b. a.node ≡ b.node → index_of a < index_of b) (map interval_of entries)
      → (at : ℕ) (d : StoredRecord) → at < length entries → is_at node index (get_or entries at d) ≡ true
      → position (is_at node index) entries ≡ Some at
  sought_found ascending at d within is = by_found (position (is_at node index) entries) refl
    where
      by_found : (r : Option ℕ) → position (is_at node index) entries ≡ r → position (is_at node index) entries ≡ Some at
      by_found None none = absurd (true≢false (sym is ∙ fails-position_none (is_at node index) entries none at d within))
      by_found (Some k) some =
          let passed = position-Some (is_at node index) entries k d some in
          some ∙ ap Some (once entries ascending node index k at d passed.0 within passed.1 is)
