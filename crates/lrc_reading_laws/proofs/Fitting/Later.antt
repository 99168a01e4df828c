-- Pages that are mended fit the node's time, and so do base copies of clean pages; a write leaves the twin.
use Rattle.std.proofs.Common.{◌≡◌, ℕ, ◌<◌, List, [], ◌∷◌, Bool, true, false, length, map, refl, sym, ap, subst, ◌∙◌, arith}
use Rattle.std.specs.Prelude.{Option, Some, None, All, ◌==◌, fold, is_none, not, slice_index_or, if◌then◌else◌}
use Rattle.std.specs.List.{list_all, list_any}
use Rattle.std.proofs.lemmas.Bool.{and_parts, eqb-true, not-true}
use Rattle.std.proofs.lemmas.Option.{same_Some}
use Rattle.std.proofs.lemmas.List.{get_or-set_other}
use Rattle.std.proofs.lemmas.List.Elements.{All-nil, All-head, All-tail}
use Rattle.lrc_program.specs.declared.Program.{Program}
use Rattle.lrc_time.specs.Time.{Covers}
use Rattle.lrc_time.proofs.Times.{covers-refl}
use Rattle.lrc_page.specs.Page.{words_of}
use Rattle.lrc_page.specs.Place.{page_of, offset_of}
use Rattle.lrc_store.specs.declared.key.Key.{Key}
use Rattle.lrc_store.specs.Store.{StoredRecord, changes_at}
use Rattle.lrc_protocol.specs.Pages.{Copy, valid, written, invalid, absent, is_readable, values_of, Base, unneeded, due, come, Need, is_due}
use Rattle.lrc_protocol.specs.Pages.{is_met, first_values, repaired, Memory, copy_at, missing_in, all_applied}
use Rattle.lrc_protocol.specs.Barriers.{Collection, base_at, clean_memory}
use Rattle.lrc_protocol.specs.Node.{nothing, access, upkeep, discard, needs_of, OptionsRecord}
use Rattle.lrc_node_laws.specs.Needs.{FitsBase, FitsNeed}
use Rattle.lrc_node_laws.specs.Ranges.{CollectsAt}
use Rattle.lrc_node_laws.specs.Remembered.{IsBetween}
use Rattle.lrc_node_laws.specs.Stored.{StoresExactly}
use Rattle.lrc_node_laws.specs.Waits.{IsQuiet}
use Rattle.lrc_node_laws.proofs.Always.{ranged, exact, all_quiet, needed, whole, between}
use Rattle.lrc_node_laws.proofs.Awaited.{All-unmap}
use Rattle.lrc_node_laws.proofs.Change.{View, Walk, pages_in}
use Rattle.lrc_node_laws.proofs.Indices.{Ascends}
use Rattle.lrc_node_laws.proofs.MetNeeds.{met-known}
use Rattle.lrc_node_laws.proofs.Needed.{Needed}
use Rattle.lrc_node_laws.proofs.Opened.{unwritten-at}
use Rattle.lrc_node_laws.proofs.Ranges.{Ranged, SameRest, clean-same}
use Rattle.lrc_node_laws.proofs.Reach.{first_view}
use Rattle.lrc_node_laws.proofs.Remembered.{Between}
use Rattle.lrc_node_laws.proofs.Replies.{bases-copies}
use Rattle.lrc_node_laws.proofs.Tests.{each_passes}
use Rattle.lrc_node_laws.proofs.Whole.{Whole, met-long}
use Rattle.lrc_node_laws.proofs.Needs.{any_fits}
use Rattle.lrc_reading_laws.proofs.Laws.{bound_in}
use Rattle.lrc_node_laws.proofs.Turning.{Later, moves, puts, cleans, mends}
use Rattle.lrc_reading_laws.proofs.Fitting.Copies.{Wrote, FitsTime, CopyFits, BaseFits, Fit, Facts, Stored, set_fits}
use Rattle.lrc_reading_laws.proofs.Fitting.Copies.{write_fits, readable_fits, base-within, base-other, base-kept}
use Rattle.lrc_reading_laws.proofs.Fitting.Repair.{repair_fits}

-- what holds of one node, also within a turn
pub record AtView (v : View) : Type 0 where
  pub ranged : Ranged v
  pub exact : StoresExactly v.time v.memory
  pub quiet : IsQuiet v.wait v.memory
  pub needed : Needed v
  pub whole : Whole v.setting.nodes (words_of v.size) v.memory
  pub between : Between v

pub at_view : (program : Program) (nodes : ℕ) (options : OptionsRecord) (me : ℕ) (among : me < nodes) (v : View)
    → Walk (first_view program nodes options me among) v → AtView v
at_view program nodes options me among v w = record {
  ranged = ranged program nodes options me among v w;
  exact = exact program nodes options me among v w;
  quiet = all_quiet program nodes options me among v w;
  needed = needed program nodes options me among v w;
  whole = whole program nodes options me among v w;
  between = between program nodes options me among v w;
}

-- the store is the same before what follows
pub stored-before : (made : List StoredRecord) (v after : View) → Later v after
    → Stored made after.time after.memory.collected after.memory.store → Stored made v.time v.memory.collected v.memory.store
stored-before made v _ (moves course e) s = s
stored-before made v _ (puts word value e) s = s
stored-before made v _ (cleans collection needs e met) s =
    let same : SameRest v.memory (clean_memory needs collection.kept v.memory) = clean-same needs collection.kept v.memory in
    subst (λ collected. Stored made v.time collected v.memory.store) same.collected
    (subst (Stored made v.time (clean_memory needs collection.kept v.memory).collected) same.store s)
stored-before made v _ (mends need e met) s = s

-- ---- one page

module _ (count words : ℕ) (wrote : Wrote) (made : List StoredRecord) (facts : Facts count words wrote made) (nodes : ℕ) (time : List ℕ) (memory : Memory)
    (s : Stored made time memory.collected memory.store) (below : Covers time memory.collected) where
  mend-fits : (page : ℕ) (copy : Copy) (base : Base) → FitsBase nodes words copy base → is_due base ≡ false → length (first_values copy base) ≡ words
      → CopyFits wrote made time page copy → BaseFits wrote made memory.collected page base → IsBetween time memory page copy
      → All (λ (key : Key). is_none (changes_at memory.store key) ≡ false) (missing_in memory page copy)
      → FitsTime wrote made time page (all_applied memory.store (first_values copy base) (missing_in memory page copy))
  mend-fits page (invalid values since) unneeded f d long c b w k =
      repair_fits made facts.found page words (wrote page) (facts.untouched page) memory.store memory.collected time since s.is_store s.just w.0
      s.known k count values facts.stamped long (facts.sound page) c.1 s.time_cut w.1 c.0
  mend-fits page absent (come values) f d long c b w k =
      repair_fits made facts.found page words (wrote page) (facts.untouched page) memory.store memory.collected time memory.collected s.is_store s.just
      (covers-refl memory.collected) s.known k count values facts.stamped long (facts.sound page) s.collected_cut s.time_cut below b
  mend-fits page absent (due keeper) f d long c b w k = cc
  mend-fits page absent unneeded f d long c b w k = absurd f
  mend-fits page (invalid values since) (due keeper) f d long c b w k = absurd f
  mend-fits page (invalid values since) (come other) f d long c b w k = absurd f
  mend-fits page (valid values) base f d long c b w k = absurd f
  mend-fits page (written values twin) base f d long c b w k = absurd f

-- what a page is mended to
abbrev MendsTo : Wrote → List StoredRecord → List ℕ → Memory → Need → Type 0
MendsTo wrote made time memory need =
    FitsTime wrote made time need.page (all_applied memory.store (first_values (copy_at memory need.page) need.base) need.missing)

-- pages are mended one after another
all_mended : (wrote : Wrote) (made : List StoredRecord) (time : List ℕ) (needs : List Need) (memory : Memory)
    → ((page : ℕ) → CopyFits wrote made time page (copy_at memory page)) → All (MendsTo wrote made time memory) needs
    → Ascends (map (λ (need : Need). need.page) needs) → (page : ℕ) → CopyFits wrote made time page (copy_at (fold repaired memory needs) page)
all_mended wrote made time [] memory h m apart = h
all_mended wrote made time (need ∷ needs) memory h m apart =
    let mend : Copy = valid (all_applied memory.store (first_values (copy_at memory need.page) need.base) need.missing) in
    let others : All (λ (other : Need). need.page < other.page) needs =
    All-unmap (λ page. need.page < page) (λ (other : Need). other.page) needs apart.0 in
    let rest : All (MendsTo wrote made time memory) needs = All-tail (MendsTo wrote made time memory) need needs m in
    all_mended wrote made time needs (repaired memory need)
    (set_fits wrote made time memory.copies need.page mend (All-head (MendsTo wrote made time memory) need needs m) h)
    (λ k d within.
    let other : Need = slice_index_or needs k d in
    let later : need.page < other.page = others k d within in
    subst (λ copy. FitsTime wrote made time other.page (all_applied memory.store (first_values copy other.base) other.missing))
    (sym (get_or-set_other memory.copies need.page other.page mend absent (λ e. omega (arith, later, e)))) (rest k d within))
    apart.1

mends-bases : (needs : List Need) (memory : Memory) → (fold repaired memory needs).bases ≡ memory.bases
mends-bases [] memory = refl
mends-bases (need ∷ needs) memory = mends-bases needs (repaired memory need)

-- ---- what follows in a turn

module _ (count : ℕ) (wrote : Wrote) (made : List StoredRecord) (v : View) (facts : Facts count (words_of v.size) wrote made) (a : AtView v)
    (s : Stored made v.time v.memory.collected v.memory.store) (h : Fit wrote made v.time v.wait v.memory) where
  abbrev Needs : Need → Type 0
  Needs need = FitsNeed v.setting.nodes (pages_in v) (words_of v.size) v.memory need

  need-mends : (need : Need) → Needs need → is_met need ≡ true → BaseFits wrote made v.memory.collected need.page need.base
      → MendsTo wrote made v.time v.memory need
  need-mends need f met b =
      let parts : _ = and_parts (not (is_due need.base)) _ met in
      subst (λ keys. FitsTime wrote made v.time need.page (all_applied v.memory.store (first_values (copy_at v.memory need.page) need.base) keys)) (sym f.missing)
      (mend-fits count (words_of v.size) wrote made facts v.setting.nodes v.time v.memory s a.exact.below need.page (copy_at v.memory need.page) need.base
      f.base (not-true (is_due need.base) parts.0)
      (met-long v.setting.nodes (pages_in v) (words_of v.size) v.memory need a.whole.copies f met)
      (h.copies need.page) b (a.between need.page)
      (subst (All (λ (key : Key). is_none (changes_at v.memory.store key) ≡ false)) f.missing
      (met-known v.setting.nodes (pages_in v) (words_of v.size) v.memory need a.ranged.memory f met)))

  mends-fit : (need : Need) → v.wait ≡ access need → is_met need ≡ true → Fit wrote made v.time nothing (repaired v.memory need)
  mends-fit need w met =
      let f : Needs need = All-head Needs need [] (subst (λ w. All Needs (needs_of w)) w a.needed.each) in
      let Comes : Need → Type 0 = λ need. BaseFits wrote made v.memory.collected need.page need.base in
      record {
        copies =
            set_fits wrote made v.time v.memory.copies need.page _
            (need-mends need f met (All-head Comes need [] (subst (λ w. All Comes (needs_of w)) w h.needs))) h.copies;
        bases = λ page values e. subst (λ w. FitsTime wrote made (bound_in w v.memory.collected page) page values) w (h.bases page values e);
        needs = All-nil (λ (need : Need). BaseFits wrote made v.memory.collected need.page need.base);
      }

  module _ (collection : Collection) (needs : List Need) (w : v.wait ≡ upkeep collection needs) (met : list_all is_met needs ≡ true)
      (b : AtView (record v { wait = discard collection; memory = clean_memory needs collection.kept v.memory })) where
    abbrev clean : Memory
    clean = clean_memory needs collection.kept v.memory

    abbrev mended_all : Memory
    mended_all = fold repaired v.memory needs

    same_copies : (page : ℕ) → copy_at clean page ≡ copy_at mended_all page
    same_copies page = ap (λ (copies : List Copy). slice_index_or copies page absent) (bases-copies collection.kept mended_all)

    clean-copies : (page : ℕ) → CopyFits wrote made v.time page (copy_at clean page)
    clean-copies page =
        let Comes : Need → Type 0 = λ need. BaseFits wrote made v.memory.collected need.page need.base in
        let each : All Needs needs = subst (λ w. All Needs (needs_of w)) w a.needed.each in
        let came : All Comes needs = subst (λ w. All Comes (needs_of w)) w h.needs in
        let all_met : All (λ (need : Need). is_met need ≡ true) needs = each_passes is_met (λ need. is_met need ≡ true) (λ need e. e) needs met in
        subst (CopyFits wrote made v.time page) (sym (same_copies page))
        (all_mended wrote made v.time needs v.memory h.copies
        (λ k d within. need-mends (slice_index_or needs k d) (each k d within) (all_met k d within) (came k d within))
        (subst (λ w. Ascends (map (λ (need : Need). need.page) (needs_of w))) w a.needed.apart) page)

    -- a page that is kept has its copy's values
    kept-fits : (page : ℕ) (values : List ℕ) → base_at clean page ≡ Some values → list_any (λ kept. kept == page) collection.kept ≡ true
        → FitsTime wrote made v.time page values
    kept-fits page values e kept =
        let rest : SameRest v.memory clean = clean-same needs collection.kept v.memory in
        let within : page < length clean.bases = base-within clean page values e in
        let long : length mended_all.bases ≡ length v.memory.bases = ap length (mends-bases needs v.memory) in
        let is : Some (values_of (copy_at mended_all page)) ≡ Some values =
        sym (base-kept collection.kept mended_all page (omega (arith, within, long, rest.bases)) kept) ∙ e in
        let readable : is_readable (copy_at clean page) ≡ true =
        any_fits (λ k. is_readable (copy_at clean k) ≡ true) (λ k. k == page) (is_readable (copy_at clean page) ≡ true)
        (λ k r here. subst (λ p. is_readable (copy_at clean p) ≡ true) (eqb-true k page here) r) collection.kept b.needed.kept.1 kept in
        subst (FitsTime wrote made v.time page) (ap values_of (same_copies page) ∙ same_Some _ values is)
        (readable_fits wrote made v.time page (copy_at clean page) readable (unwritten-at clean page b.quiet) (clean-copies page))

    -- any other has what it had
    other-fits : (page : ℕ) (values : List ℕ) → base_at clean page ≡ Some values → list_any (λ kept. kept == page) collection.kept ≡ false
        → FitsTime wrote made clean.collected page values
    other-fits page values e other =
        let rest : SameRest v.memory clean = clean-same needs collection.kept v.memory in
        let was : base_at v.memory page ≡ Some values =
        ap (λ (bases : List (Option (List ℕ))). slice_index_or bases page None) (sym (mends-bases needs v.memory))
        ∙ sym (base-other collection.kept mended_all page other)
        ∙ e in
        subst (λ collected. FitsTime wrote made collected page values) (sym rest.collected)
        (subst (λ w. FitsTime wrote made (bound_in w v.memory.collected page) page values) w (h.bases page values was))

    by_kept : (page : ℕ) (values : List ℕ) → base_at clean page ≡ Some values → (b : Bool) → list_any (λ kept. kept == page) collection.kept ≡ b
        → FitsTime wrote made (if b then collection.time else clean.collected) page values
    by_kept page values e true kept =
        let now : collection.time ≡ v.time = subst (CollectsAt v.time) w a.ranged.present in
        subst (λ time. FitsTime wrote made time page values) (sym now) (kept-fits page values e kept)
    by_kept page values e false other = other-fits page values e other

    cleans-fit : Fit wrote made v.time (discard collection) clean
    cleans-fit = record {
      copies = clean-copies;
      bases = λ page values e. by_kept page values e (list_any (λ kept. kept == page) collection.kept) refl;
      needs = All-nil (λ (need : Need). BaseFits wrote made clean.collected need.page need.base);
    }

pub later-fit : (count : ℕ) (wrote : Wrote) (made : List StoredRecord) (v after : View) → Later v after → Facts count (words_of v.size) wrote made
    → AtView v → AtView after → Stored made v.time v.memory.collected v.memory.store → Fit wrote made v.time v.wait v.memory
    → Fit wrote made after.time after.wait after.memory
later-fit count wrote made v _ (moves course e) facts a b s h = h
later-fit count wrote made v _ (puts word value e) facts a b s h =
    let page : ℕ = page_of word v.size in
    record {
      copies =
          set_fits wrote made v.time v.memory.copies page _
          (write_fits wrote made v.time page (offset_of word v.size) value (copy_at v.memory page) (h.copies page)) h.copies;
      bases = h.bases;
      needs = h.needs;
    }
later-fit count wrote made v _ (cleans collection needs e met) facts a b s h = cleans-fit count wrote made v facts a s h collection needs e met b
later-fit count wrote made v _ (mends need e met) facts a b s h = mends-fit count wrote made v facts a s h need e met
