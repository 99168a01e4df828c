-- What comes for pages fits what they need, and leaves what is still needed.
use Rattle.std.proofs.Common.{◌≡◌, ℕ, ◌<◌, List, [], ◌∷◌, Bool, true, false, length, refl, sym, ap, subst, ◌∙◌, ⊎_elim, arith}
use Rattle.std.specs.Prelude.{Some, All, Contains, not, ◌==◌, fold, map, filter, slice_index_or, slice_set, if◌then◌else◌}
use Rattle.std.specs.List.{list_any, range_with_len}
use Rattle.std.proofs.lemmas.Bool.{and_parts, cases_eq, cases_Bool, eqb-true, eq-eqb, false≢true}
use Rattle.std.proofs.lemmas.Option.{same_Some}
use Rattle.std.proofs.lemmas.List.{get_or-set_same, get_or-set_other, length-set}
use Rattle.std.proofs.lemmas.List.Elements.{All-nil, All-map, All-weaker}
use Rattle.lrc_store.specs.declared.key.Key.{Key}
use Rattle.lrc_store.specs.Interval.{by_weight}
use Rattle.lrc_store.specs.Order.{ascending_part}
use Rattle.lrc_store.specs.Store.{StoreRecord, IsStore, intervals_of, is_missing, key_of}
use Rattle.lrc_store.proofs.Orders.{cases_Contains, none_Contains, filter-Contains}
use Rattle.lrc_envelope.specs.Records.{IndexedChangesRecord}
use Rattle.lrc_protocol.specs.Pages.{Copy, valid, written, invalid, absent, is_readable, Memory, copy_at, missing_at, missing_in, all_applied, Base}
use Rattle.lrc_protocol.specs.Pages.{unneeded, due, come, Asked, Need, indices_of, some_asked, asked_of, unknown_of, asks_just, awaits_changes}
use Rattle.lrc_protocol.specs.Pages.{is_due_from, awaits_page, changes_came, page_came, first_values, repaired, with_part}
use Rattle.lrc_protocol.specs.Barriers.{with_base, clean_memory}
use Rattle.lrc_node_laws.specs.Needs.{FitsBase, FitsNeed}
use Rattle.lrc_node_laws.proofs.Tests.{same_numbers}
use Rattle.lrc_node_laws.proofs.Lists.{All-chosen}
use Rattle.lrc_node_laws.proofs.Stores.{parts-same}
use Rattle.lrc_node_laws.proofs.Keys.{IsNoticed, missing-noticed}
use Rattle.lrc_node_laws.proofs.Asking.{asked-left, unknown-other, unknown-left, not_of}
use Rattle.lrc_node_laws.proofs.Needs.{any_fits}

-- ---- what a copy lacks

pub lacking-noticed : (memory : Memory) (page : ℕ) (copy : Copy) → IsStore memory.store
    → All (λ (key : Key). (key.page ≡ page) × IsNoticed memory.store key) (missing_in memory page copy)
lacking-noticed memory page (valid values) s = All-nil (λ (key : Key). (key.page ≡ page) × IsNoticed memory.store key)
lacking-noticed memory page (written values twin) s = All-nil (λ (key : Key). (key.page ≡ page) × IsNoticed memory.store key)
lacking-noticed memory page (invalid values since) s = missing-noticed memory.store page since s
lacking-noticed memory page absent s = missing-noticed memory.store page memory.collected s

pub lacking-same : (memory : Memory) (store : StoreRecord) (page : ℕ) (copy : Copy) → intervals_of store ≡ intervals_of memory.store
    → missing_in (record memory { store = store }) page copy ≡ missing_in memory page copy
lacking-same memory store page (valid values) e = refl
lacking-same memory store page (written values twin) e = refl
lacking-same memory store page (invalid values since) e = ap (λ l. map (key_of page) (ascending_part by_weight (is_missing page since) l)) e
lacking-same memory store page absent e = ap (λ l. map (key_of page) (ascending_part by_weight (is_missing page memory.collected) l)) e

-- ---- which changes are asked of a maker

asked-by : (keys : List Key) (maker : ℕ) (indices : List ℕ) (asked : Asked) → indices_of keys maker ≡ indices → some_asked maker indices ≡ Some asked
    → (asked.indices ≡ indices_of keys asked.maker)
asked-by keys maker [] asked e s = cc
asked-by keys maker (index ∷ indices) asked e s =
    let is : record { maker = maker; indices = index ∷ indices } ≡ asked = same_Some _ asked s in
    subst (λ (a : Asked). a.indices ≡ indices_of keys a.maker) is (sym e)

pub asked-indices : (nodes : ℕ) (keys : List Key) → All (λ (asked : Asked). asked.indices ≡ indices_of keys asked.maker) (asked_of nodes keys)
asked-indices nodes keys =
    All-chosen (λ maker. Unit {0}) (λ (asked : Asked). asked.indices ≡ indices_of keys asked.maker) (λ maker. some_asked maker (indices_of keys maker))
    (λ maker asked u s. asked-by keys maker (indices_of keys maker) asked refl s) (range_with_len 0 nodes) (λ k d within. tt)

pub asks-just : (keys : List Key) (from : ℕ) (indices : List ℕ) (asked : Asked) → asked.indices ≡ indices_of keys asked.maker
    → asks_just from indices asked ≡ true → indices ≡ indices_of keys from
asks-just keys from indices asked is e =
    let parts : _ = and_parts _ _ e in
    sym (same_numbers asked.indices indices parts.1) ∙ is ∙ ap (indices_of keys) (eqb-true asked.maker from parts.0)

-- an awaited reply has just the changes that are not known
pub asked-exactly : (nodes pages words : ℕ) (memory : Memory) (needs : List Need) (page from : ℕ) (indices : List ℕ)
    → All (FitsNeed nodes pages words memory) needs → list_any (awaits_changes page from indices) needs ≡ true
    → indices ≡ indices_of (unknown_of memory.store (missing_at memory page)) from
asked-exactly nodes pages words memory needs page from indices h e =
    any_fits (FitsNeed nodes pages words memory) (awaits_changes page from indices) (indices ≡ indices_of (unknown_of memory.store (missing_at memory page)) from)
    (λ need fits awaited.
    let parts : _ = and_parts _ _ awaited in
    let here : need.page ≡ page = eqb-true need.page page parts.0 in
    let keys : List Key = unknown_of memory.store need.missing in
    let just : indices ≡ indices_of keys from =
    any_fits (λ (asked : Asked). asked.indices ≡ indices_of keys asked.maker) (asks_just from indices) (indices ≡ indices_of keys from)
    (λ asked is e. asks-just keys from indices asked is e) need.asked
    (subst (All (λ (asked : Asked). asked.indices ≡ indices_of keys asked.maker)) (sym fits.asked) (asked-indices nodes keys)) parts.1 in
    just ∙ ap (λ l. indices_of (unknown_of memory.store l) from) (fits.missing ∙ ap (missing_at memory) here))
    needs h e

-- ---- a maker's changes came

module _ (nodes pages words : ℕ) (memory : Memory) (from page : ℕ) (parts : List IndexedChangesRecord) (s : IsStore memory.store)
    (asked : map (λ (part : IndexedChangesRecord). part.index) parts ≡ indices_of (unknown_of memory.store (missing_at memory page)) from) where
  abbrev now : Memory
  now = record memory { store = fold (with_part from page) memory.store parts }

  still-lacking : (need : Need) → need.missing ≡ missing_at memory need.page → need.missing ≡ missing_at now need.page
  still-lacking need e =
      e ∙ sym (lacking-same memory (fold (with_part from page) memory.store parts) need.page (copy_at memory need.page)
      (parts-same from page parts memory.store).intervals)

  noticed : (need : Need) → need.missing ≡ missing_at memory need.page → All (λ (key : Key). (key.page ≡ need.page) × IsNoticed memory.store key) need.missing
  noticed need e =
      subst (All (λ (key : Key). (key.page ≡ need.page) × IsNoticed memory.store key)) (sym e)
      (lacking-noticed memory need.page (copy_at memory need.page) s)

  changes-by : (need : Need) (b : Bool) → (need.page == page) ≡ b → FitsNeed nodes pages words memory need
      → FitsNeed nodes pages words now
      (if b then record need { asked = filter (λ (asked : Asked). not (asked.maker == from)) need.asked } else need)
  changes-by need true e h =
      let here : need.page ≡ page = eqb-true need.page page e in
      let left : unknown_of now.store need.missing ≡ filter (not_of from) (unknown_of memory.store need.missing) =
      unknown-left from page parts memory.store need.missing
      (All-weaker (λ (key : Key). (key.page ≡ need.page) × IsNoticed memory.store key) (λ (key : Key). (key.page ≡ page) × IsNoticed memory.store key)
      (λ key is. (is.0 ∙ here, is.1)) need.missing (noticed need h.missing))
      (asked ∙ ap (λ l. indices_of (unknown_of memory.store l) from) (ap (missing_at memory) (sym here) ∙ sym h.missing)) in
      record {
        in_range = h.in_range;
        base = h.base;
        missing = still-lacking need h.missing;
        asked =
            ap (filter (λ (asked : Asked). not (asked.maker == from))) h.asked
            ∙ asked-left nodes (unknown_of memory.store need.missing) from
            ∙ ap (asked_of nodes) (sym left);
      }
  changes-by need false e h =
      let same : unknown_of now.store need.missing ≡ unknown_of memory.store need.missing =
      unknown-other from page parts memory.store need.missing
      (All-weaker (λ (key : Key). (key.page ≡ need.page) × IsNoticed memory.store key) (λ (key : Key). key.page ≡ page → ⊥)
      (λ key is p. false≢true (sym e ∙ eq-eqb need.page page (sym is.0 ∙ p))) need.missing (noticed need h.missing)) in
      record {
        in_range = h.in_range;
        base = h.base;
        missing = still-lacking need h.missing;
        asked = h.asked ∙ ap (asked_of nodes) (sym same);
      }

  pub changes-fit : (needs : List Need) → All (FitsNeed nodes pages words memory) needs
      → All (FitsNeed nodes pages words now) (map (changes_came page from) needs)
  changes-fit needs h =
      All-map (FitsNeed nodes pages words now) (changes_came page from) needs
      (All-weaker (FitsNeed nodes pages words memory) (λ need. FitsNeed nodes pages words now (changes_came page from need))
      (λ need fits. changes-by need (need.page == page) refl fits) needs h)

-- ---- a base copy came

due-come : (nodes words keeper : ℕ) (values : List ℕ) (copy : Copy) (base : Base) → FitsBase nodes words copy base → is_due_from keeper base ≡ true
    → length values ≡ words → FitsBase nodes words copy (come values)
due-come nodes words keeper values (valid old) base h e long = absurd h
due-come nodes words keeper values (written old twin) base h e long = absurd h
due-come nodes words keeper values (invalid old since) unneeded h e long = absurd (false≢true e)
due-come nodes words keeper values (invalid old since) (due asked) h e long = absurd h
due-come nodes words keeper values (invalid old since) (come other) h e long = absurd h
due-come nodes words keeper values absent base h e long = long

page-by : (nodes pages words : ℕ) (memory : Memory) (page : ℕ) (values : List ℕ) → FitsBase nodes words (copy_at memory page) (come values)
    → (need : Need) (b : Bool) → (need.page == page) ≡ b → FitsNeed nodes pages words memory need
    → FitsNeed nodes pages words memory (if b then record need { base = come values } else need)
page-by nodes pages words memory page values came need true e h = record {
  in_range = h.in_range;
  base = subst (λ p. FitsBase nodes words (copy_at memory p) (come values)) (sym (eqb-true need.page page e)) came;
  missing = h.missing;
  asked = h.asked;
}
page-by nodes pages words memory page values came need false e h = h

pub page-fits : (nodes pages words : ℕ) (memory : Memory) (needs : List Need) (page from : ℕ) (values : List ℕ)
    → All (FitsNeed nodes pages words memory) needs → list_any (awaits_page page from) needs ≡ true → length values ≡ words
    → All (FitsNeed nodes pages words memory) (map (page_came page values) needs)
page-fits nodes pages words memory needs page from values h e long =
    let came : FitsBase nodes words (copy_at memory page) (come values) =
    any_fits (FitsNeed nodes pages words memory) (awaits_page page from) (FitsBase nodes words (copy_at memory page) (come values))
    (λ need fits awaited.
    let parts : _ = and_parts _ _ awaited in
    subst (λ p. FitsBase nodes words (copy_at memory p) (come values)) (eqb-true need.page page parts.0)
    (due-come nodes words from values (copy_at memory need.page) need.base fits.base parts.1 long))
    needs h e in
    All-map (FitsNeed nodes pages words memory) (page_came page values) needs
    (All-weaker (FitsNeed nodes pages words memory) (λ need. FitsNeed nodes pages words memory (page_came page values need))
    (λ need fits. page-by nodes pages words memory page values came need (need.page == page) refl fits) needs h)

-- ---- pages are mended

pub is-mended : (memory : Memory) (need : Need) (page : ℕ) → need.page ≡ page → page < length memory.copies
    → is_readable (copy_at (repaired memory need) page) ≡ true
is-mended memory need page e lt =
    let mend : Copy = valid (all_applied memory.store (first_values (copy_at memory need.page) need.base) need.missing) in
    ap is_readable (subst (λ p. slice_index_or (slice_set memory.copies p mend) page absent ≡ mend) (sym e) (get_or-set_same memory.copies page mend absent lt))

not-mended : (memory : Memory) (need : Need) (page : ℕ) → (need.page ≡ page → ⊥) → copy_at (repaired memory need) page ≡ copy_at memory page
not-mended memory need page ne = get_or-set_other memory.copies need.page page _ absent (λ e. ne (sym e))

still-readable : (needs : List Need) (memory : Memory) (page : ℕ) → page < length memory.copies → is_readable (copy_at memory page) ≡ true
    → is_readable (copy_at (fold repaired memory needs) page) ≡ true
still-readable [] memory page lt r = r
still-readable (need ∷ needs) memory page lt r =
    still-readable needs (repaired memory need) page (omega (
      arith,
      lt,
      length-set memory.copies need.page
          (valid (all_applied memory.store (first_values (copy_at memory need.page) need.base) need.missing)),
    ))
    (⊎_elim
    (λ (here : need.page ≡ page). is-mended memory need page here lt)
    (λ other. ap is_readable (not-mended memory need page other) ∙ r)
    (cases_eq need.page page))

now-readable : (needs : List Need) (memory : Memory) (page : ℕ) → page < length memory.copies → Contains (map (λ (need : Need). need.page) needs) page
    → is_readable (copy_at (fold repaired memory needs) page) ≡ true
now-readable [] memory page lt there = absurd (none_Contains page there)
now-readable (need ∷ needs) memory page lt there =
    let within : page < length (repaired memory need).copies =
    omega (arith, lt, length-set memory.copies need.page (valid (all_applied memory.store (first_values (copy_at memory need.page) need.base) need.missing))) in
    ⊎_elim
    (λ (here : need.page ≡ page). still-readable needs (repaired memory need) page within (is-mended memory need page here lt))
    (λ later. now-readable needs (repaired memory need) page within later)
    (cases_Contains need.page (map (λ (need : Need). need.page) needs) page there)

pub bases-copies : (kept : List ℕ) (memory : Memory) → (fold with_base memory kept).copies ≡ memory.copies
bases-copies [] memory = refl
bases-copies (page ∷ kept) memory = bases-copies kept (with_base memory page)

-- of pages of which those that are not readable are mended, all are readable then
pub clean-readable : (memory : Memory) (needs : List Need) (kept : List ℕ) (page : ℕ) → page < length memory.copies → Contains kept page
    → map (λ (need : Need). need.page) needs ≡ filter (λ page. not (is_readable (copy_at memory page))) kept
    → is_readable (copy_at (clean_memory needs kept memory) page) ≡ true
clean-readable memory needs kept page lt there e =
    ap (λ (copies : List Copy). is_readable (slice_index_or copies page absent)) (bases-copies kept (fold repaired memory needs))
    ∙ ⊎_elim
    (λ (r : is_readable (copy_at memory page) ≡ true). still-readable needs memory page lt r)
    (λ (r : is_readable (copy_at memory page) ≡ false).
    now-readable needs memory page lt
    (subst (λ l. Contains l page) (sym e)
    ((filter-Contains (λ page. not (is_readable (copy_at memory page))) kept page).1 (there, ap not r))))
    (cases_Bool (is_readable (copy_at memory page)))
