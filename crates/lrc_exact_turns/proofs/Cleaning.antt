-- A node in a collection to which all has come repairs the pages that it keeps, and keeps base copies of them: these have what the collection
-- leaves.
use Rattle.std.proofs.Common.{◌≡◌, ℕ, ◌<◌, ◌&&◌, List, [], ◌∷◌, Bool, true, false, length, map, refl, sym, ap, subst, ◌∙◌, inl, inr, arith}
use Rattle.std.specs.Prelude.{◌==◌, Option, Some, None, All, Contains, not, fold, slice_index, slice_index_or, if◌then◌else◌}
use Rattle.std.specs.List.{list_all, range_with_len}
use Rattle.std.proofs.lemmas.Bool.{cases_Bool, and_parts, eqb-true, eq-eqb, not-true, false≢true, true≢false}
use Rattle.std.proofs.lemmas.List.{get_or-set_same, get_or-set_other, length-set}
use Rattle.std.proofs.lemmas.List.Elements.{All-contains, All-contains_itself, All-nil}
use Rattle.std.proofs.lemmas.Option.{same_Some}
use Rattle.lrc_page.specs.declared.size.Size.{Size}
use Rattle.lrc_page.specs.Page.{words_of}
use Rattle.lrc_store.specs.Store.{StoredRecord, intervals_of}
use Rattle.lrc_store.proofs.Orders.{Contains-first, Contains-later, cases_Contains, none_Contains, filter-Contains}
use Rattle.lrc_copies.specs.Stamps.{AreStamped}
use Rattle.lrc_protocol.specs.Times.{is_named}
use Rattle.lrc_protocol.specs.Pages.{Copy, valid, written, invalid, absent, is_readable, values_of, Need, is_met, first_values, repaired}
use Rattle.lrc_protocol.specs.Pages.{Memory, copy_at, keeper_at, all_applied}
use Rattle.lrc_protocol.specs.Barriers.{Collection, base_at, clean_memory}
use Rattle.lrc_protocol.specs.Node.{upkeep, discard, needs_of}
use Rattle.lrc_node_laws.specs.Needs.{FitsKept, FitsNeed}
use Rattle.lrc_node_laws.proofs.Awaited.{All-unmap}
use Rattle.lrc_node_laws.proofs.Change.{View, pages_in}
use Rattle.lrc_node_laws.proofs.Indices.{Ascends}
use Rattle.lrc_node_laws.proofs.Needs.{any_fits}
use Rattle.lrc_node_laws.proofs.Ranges.{SameRest, clean-same, mends-same}
use Rattle.lrc_node_laws.proofs.Replies.{bases-copies}
use Rattle.lrc_node_laws.proofs.Tests.{each_passes}
use Rattle.lrc_reading_laws.specs.Written.{made_stamps, word_on}
use Rattle.lrc_reading_laws.proofs.Closed.Stored.{from_range}
use Rattle.lrc_reading_laws.proofs.Fitting.Copies.{Stored, base-other, base-kept}
use Rattle.lrc_reading_laws.proofs.Fitting.First.{list_any-in}
use Rattle.lrc_reading_laws.proofs.Fitting.Later.{AtView}
use Rattle.lrc_reading_laws.proofs.Fitting.Repair.{from_map, into_map}
use Rattle.lrc_reading_laws.proofs.Stamped.Lists.{AreFound}
use Rattle.lrc_exact.specs.Memory.{Word}
use Rattle.lrc_exact.specs.Rule.{Shape, Knowledge, State, with_learned}
use Rattle.lrc_exact_made.specs.Copies.{shape_of, HasWord}
use Rattle.lrc_exact_collected.specs.Keepers.{StoresWhatIsKnown}
use Rattle.lrc_exact_pages.specs.Pages.{HasPages, IsNamedBetween}
use Rattle.lrc_exact_collecting.specs.Left.{left_after}
use Rattle.lrc_exact_collecting.specs.Kept.{with_kept, IsRepairedTo, stays, is_made, IsKeeping}
use Rattle.lrc_exact_collecting.proofs.Keeping.{keeps_pages}
use Rattle.lrc_exact_collecting.proofs.Leaving.{named_stored, left_own}
use Rattle.lrc_exact_turns.proofs.Stands.{is_among, IsLeft, NeedIsLeft, Stands}
use Rattle.lrc_exact_turns.proofs.Mending.{need_values}

-- ---- members

pub among-in : (pages : List ℕ) (page : ℕ) → is_among pages page ≡ true → Contains pages page
among-in pages page e =
    any_fits (Contains pages) (λ k. k == page) (Contains pages page) (λ k c here. subst (Contains pages) (eqb-true k page here) c) pages
    (All-contains_itself pages) e

-- ---- pages that are repaired one after another

-- one that is not among them stays
mends-other : (needs : List Need) (memory : Memory) (page : ℕ) → ((need : Need) → Contains needs need → need.page ≡ page → ⊥)
    → copy_at (fold repaired memory needs) page ≡ copy_at memory page
mends-other [] memory page none = refl
mends-other (need ∷ needs) memory page none =
    mends-other needs (repaired memory need) page (λ n c. none n (Contains-later need needs n c))
    ∙ get_or-set_other memory.copies need.page page _ absent (λ e. none need (Contains-first need needs) (sym e))

abbrev made_of : Memory → Need → Copy
made_of memory need = valid (all_applied memory.store (first_values (copy_at memory need.page) need.base) need.missing)

mends-here : (needs : List Need) (memory : Memory) (need : Need) → Contains needs need → Ascends (map (λ (need : Need). need.page) needs)
    → need.page < length memory.copies → copy_at (fold repaired memory needs) need.page ≡ made_of memory need
mends-here [] memory need c asc lt = absurd (none_Contains need c)
mends-here (n ∷ needs) memory need c asc lt =
    elim (cases_Contains n needs need c) [
      | inl here ↦
          subst (λ (m : Need). m.page < length memory.copies → copy_at (fold repaired (repaired memory n) needs) m.page ≡ made_of memory m) here
          (λ within.
          mends-other needs (repaired memory n) n.page (λ m there e. let less = above m there in omega arith)
          ∙ get_or-set_same memory.copies n.page (made_of memory n) absent within) lt
      | inr later ↦
          let less = above need later in
          let long = length-set memory.copies n.page (made_of memory n) in
          mends-here needs (repaired memory n) need later asc.1 (omega arith)
          ∙ ap (λ copy. valid (all_applied memory.store (first_values copy need.base) need.missing))
          (get_or-set_other memory.copies n.page need.page (made_of memory n) absent (λ e. omega arith))
    ]
  where
    above : (m : Need) → Contains needs m → n.page < m.page
    above m there =
        All-contains (λ (m : Need). n.page < m.page) needs m (All-unmap (λ page. n.page < page) (λ (m : Need). m.page) needs asc.0) there

-- a value with the mark off is the value
pub looked_value : (word : Word) (b : Bool) → (if b then record word { mark = None } else word).value ≡ word.value
looked_value word true = refl
looked_value word false = refl

-- the values of a readable copy that is not written are those of the exact memory
pub readable_is : (made : List StoredRecord) (time : List ℕ) (page offset : ℕ) (copy : Copy) (word : Word) (before : Option ℕ) → is_readable copy ≡ true
    → HasWord made time page offset copy word before → slice_index (values_of copy) offset ≡ word.value
readable_is made time page offset (valid values) word before r f = sym (ap (λ (w : Word). w.value) f.0)
readable_is made time page offset (written values twin) word before r f = sym (ap (λ (w : Word). w.value) f.0)
readable_is made time page offset (invalid values since) word before r f = absurd (false≢true r)
readable_is made time page offset absent word before r f = absurd (false≢true r)

module _ (nodes collect : ℕ) (made : List StoredRecord) (left later : ℕ → ℕ) (all : Knowledge) (arrived : ℕ → Option State) (state : State) (v : View)
    (a : AtView v) (collection : Collection) (needs : List Need) (w : v.wait ≡ upkeep collection needs) (met : list_all is_met needs ≡ true)
    (b : AtView (record v { wait = discard collection; memory = clean_memory needs collection.kept v.memory }))
    (stored : Stored made v.time v.memory.collected v.memory.store) (stamped : AreStamped made_stamps nodes made) (found : AreFound made)
    (time_is : all.time ≡ v.time) (stores : StoresWhatIsKnown v.size nodes made v.memory.collected all v.memory.store)
    (among : v.setting.me < nodes) (here : arrived v.setting.me ≡ Some state)
    (later_is : later ≡ left_after (shape_of nodes v.size collect) state.dropped all arrived left)
    (h : Stands v.size nodes collect made left later all v.setting.me v.time (upkeep collection needs) v.memory state) where
  abbrev size : Size
  size = v.size

  abbrev shape : Shape
  shape = shape_of nodes size collect

  abbrev learned : State
  learned = with_learned nodes all state

  abbrev kept : ℕ → Bool
  kept = is_among collection.kept

  abbrev clean : Memory
  clean = clean_memory needs collection.kept v.memory

  rest : SameRest v.memory clean
  rest = clean-same needs collection.kept v.memory

  its_kept : FitsKept v.setting.me v.memory (upkeep collection needs)
  its_kept = subst (FitsKept v.setting.me v.memory) w a.needed.kept

  ascends : Ascends (map (λ (need : Need). need.page) needs)
  ascends = subst (λ w. Ascends (map (λ (need : Need). need.page) (needs_of w))) w a.needed.apart

  -- ---- the pages that are kept

  abbrev is_kept : ℕ → Bool
  is_kept page = is_named (intervals_of v.memory.store) page && (keeper_at v.memory page == v.setting.me)

  kept_parts : (page : ℕ) → kept page ≡ true
      → Contains (range_with_len 0 (length v.memory.keepers)) page × (is_kept page ≡ true)
  kept_parts page e =
      (filter-Contains is_kept (range_with_len 0 (length v.memory.keepers)) page).0
      (subst (λ pages. Contains pages page) its_kept.0 (among-in collection.kept page e))

  within : (page : ℕ) → kept page ≡ true → page < length v.memory.copies
  within page e =
      let in_range = (from_range 0 (length v.memory.keepers) page (kept_parts page e).0).1 in
      let copies = a.ranged.memory.copies in
      let keepers = a.ranged.memory.keepers in
      omega arith

  named : (page : ℕ) → kept page ≡ true → IsNamedBetween made page v.memory.collected v.time
  named page e =
      subst (IsNamedBetween made page v.memory.collected) time_is
      (named_stored size nodes made v.memory.collected all v.memory page stores
      (and_parts (is_named (intervals_of v.memory.store) page) (keeper_at v.memory page == v.setting.me) (kept_parts page e).1).0)

  -- ---- copies

  same_copies : (page : ℕ) → copy_at clean page ≡ copy_at (fold repaired v.memory needs) page
  same_copies page =
      ap (λ (copies : List Copy). slice_index_or copies page absent) (bases-copies collection.kept (fold repaired v.memory needs))

  -- a page that is needed is kept, and may not be read
  needed : (need : Need) → Contains needs need → (Contains collection.kept need.page) × (not (is_readable (copy_at v.memory need.page)) ≡ true)
  needed need there =
      (filter-Contains (λ page. not (is_readable (copy_at v.memory page))) collection.kept need.page).0
      (subst (λ pages. Contains pages need.page) its_kept.1 (into_map (λ (need : Need). need.page) needs need there))

  abbrev Repaired : ℕ → Bool → Copy → Type 0
  Repaired page is copy = IsRepairedTo size learned page is (copy_at v.memory page) copy

  its_need : (page : ℕ) → kept page ≡ true → is_readable (copy_at v.memory page) ≡ false
      → (need : Need) × Contains needs need × (need.page ≡ page)
  its_need page e away =
      from_map (λ (need : Need). need.page) needs page
      (subst (λ pages. Contains pages page) (sym its_kept.1)
      ((filter-Contains (λ page. not (is_readable (copy_at v.memory page))) collection.kept page).1 (among-in collection.kept page e, ap not away)))

  abbrev Fits : Need → Type 0
  Fits need = FitsNeed v.setting.nodes (pages_in v) (words_of size) v.memory need

  each_fits : (need : Need) → Contains needs need → Fits need
  each_fits need there = All-contains Fits needs need (subst (λ w. All Fits (needs_of w)) w a.needed.each) there

  no_need : (page : ℕ) → is_readable (copy_at v.memory page) ≡ true → (need : Need) → Contains needs need → need.page ≡ page → ⊥
  no_need page readable need there e =
      true≢false (sym (ap (λ p. is_readable (copy_at v.memory p)) e ∙ readable) ∙ not-true (is_readable (copy_at v.memory need.page)) (needed need there).1)

  of_need : (page : ℕ) → kept page ≡ true → is_readable (copy_at v.memory page) ≡ false
      → (need : Need) × Contains needs need × (need.page ≡ page) → Repaired page (kept page) (copy_at clean page)
  of_need page is away (need, there, e) =
      let lt : need.page < length v.memory.copies = subst (λ p. p < length v.memory.copies) (sym e) (within page is) in
      let met_it : is_met need ≡ true =
      All-contains (λ (need : Need). is_met need ≡ true) needs need (each_passes is_met (λ need. is_met need ≡ true) (λ need e. e) needs met) there in
      let copy : copy_at clean need.page ≡ made_of v.memory need = same_copies need.page ∙ mends-here needs v.memory need there ascends lt in
      subst (λ p. kept p ≡ true → is_readable (copy_at v.memory p) ≡ false → Repaired p (kept p) (copy_at clean p)) e
      (λ is away.
      subst (Repaired need.page (kept need.page)) (sym copy)
      (is_made (all_applied v.memory.store (first_values (copy_at v.memory need.page) need.base) need.missing) is away
      (need_values nodes collect made left learned v a stored stamped found h.pages need (each_fits need there) met_it
      (All-contains (NeedIsLeft size left) needs need h.needs there)))) is away

  repaired_page : (page : ℕ) → Repaired page (kept page) (copy_at clean page)
  repaired_page page =
      elim (cases_Bool (is_readable (copy_at v.memory page))) [
        | inl readable ↦
            subst (Repaired page (kept page)) (sym (same_copies page ∙ mends-other needs v.memory page (no_need page readable)))
            (stays (λ is. readable))
        | inr away ↦
            elim (cases_Bool (kept page)) [
              | inl is ↦ of_need page is away (its_need page is away)
              | inr not ↦
                  subst (Repaired page (kept page))
                  (sym (same_copies page
                  ∙ mends-other needs v.memory page (λ need there e.
                  false≢true (sym not ∙ subst (λ p. kept p ≡ true) e (in-among collection.kept need.page (needed need there).0)))))
                  (stays (λ is. absurd (false≢true (sym not ∙ is))))
            ]
      ]
    where
      in-among : (pages : List ℕ) (page : ℕ) → Contains pages page → is_among pages page ≡ true
      in-among pages page c = list_any-in (λ k. k == page) pages page c (eq-eqb page page refl)

  keeping : IsKeeping size made v.time v.memory clean learned kept
  keeping = record {
    long = rest.copies;
    collected = rest.collected;
    within = within;
    named = named;
    repaired = repaired_page;
  }

  clean_pages : HasPages size made (λ page offset. left (word_on size page offset)) v.time clean (with_kept shape kept learned)
  clean_pages = keeps_pages size nodes collect made (λ page offset. left (word_on size page offset)) v.time v.memory clean learned kept h.pages keeping

  -- ---- base copies

  -- a page that is kept has its copy's values
  kept-left : (page : ℕ) (values : List ℕ) → base_at clean page ≡ Some values → kept page ≡ true → IsLeft size later page values
  kept-left page values e is offset lt =
      let mended : Memory = fold repaired v.memory needs in
      let long : length mended.bases ≡ length v.memory.bases = (mends-same needs v.memory).bases in
      let bases = a.ranged.memory.bases in
      let copies = a.ranged.memory.copies in
      let lt_page = within page is in
      let readable : is_readable (copy_at clean page) ≡ true =
      any_fits (λ k. is_readable (copy_at clean k) ≡ true) (λ k. k == page) (is_readable (copy_at clean page) ≡ true)
      (λ k r here. subst (λ p. is_readable (copy_at clean p) ≡ true) (eqb-true k page here) r) collection.kept b.needed.kept.1 is in
      let base_is : Some (values_of (copy_at mended page)) ≡ Some values = sym (base-kept collection.kept mended page (omega arith) is) ∙ e in
      let values_are : values_of (copy_at clean page) ≡ values = ap values_of (same_copies page) ∙ same_Some _ values base_is in
      ap (λ vs. slice_index vs offset) (sym values_are)
      ∙ readable_is made v.time page offset (copy_at clean page) ((with_kept shape kept learned).words (word_on size page offset))
      (learned.before (word_on size page offset)) readable (clean_pages.exact.copies page offset lt)
      ∙ left_own size nodes collect left v.setting.me state all arrived kept page offset lt among here (h.own page is)
      ∙ ap (λ f. f (word_on size page offset)) (sym later_is)

  -- any other has what it had
  other-left : (page : ℕ) (values : List ℕ) → base_at clean page ≡ Some values → kept page ≡ false → IsLeft size left page values
  other-left page values e not =
      h.bases page values
      (ap (λ (bases : List (Option (List ℕ))). slice_index_or bases page None) (sym (bases_are needs v.memory))
      ∙ sym (base-other collection.kept (fold repaired v.memory needs) page not)
      ∙ e)
    where
      bases_are : (needs : List Need) (memory : Memory) → (fold repaired memory needs).bases ≡ memory.bases
      bases_are [] memory = refl
      bases_are (need ∷ needs) memory = bases_are needs (repaired memory need)

  by_kept : (page : ℕ) (values : List ℕ) → base_at clean page ≡ Some values → (b : Bool) → kept page ≡ b
      → IsLeft size (if b then later else left) page values
  by_kept page values e true is = kept-left page values e is
  by_kept page values e false not = other-left page values e not

  pub cleans_so : Stands size nodes collect made left later all v.setting.me v.time (discard collection) clean state
  cleans_so = record {
    pages = clean_pages;
    bases = λ page values e. by_kept page values e (kept page) refl;
    needs = All-nil (NeedIsLeft size left);
    own = h.own;
  }
