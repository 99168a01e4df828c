-- What is needed of pages, kept by every change.
use Rattle.std.proofs.Common.{◌≡◌, ℕ, ◌<◌, List, [], Bool, true, false, length, refl, sym, ap, subst, ◌∙◌, arith}
use Rattle.std.specs.Prelude.{All, Contains, not, ◌==◌, ◌&&◌, fold, map, filter, slice_index, if◌then◌else◌}
use Rattle.std.specs.List.{range_with_len}
use Rattle.std.proofs.lemmas.List.Elements.{All-nil, All-cons, All-weaker, All-contains_itself}
use Rattle.lrc_page.specs.Page.{words_of}
use Rattle.lrc_store.specs.Store.{IsStore, intervals_of}
use Rattle.lrc_protocol.specs.Times.{is_named}
use Rattle.lrc_protocol.specs.Pages.{is_readable, Memory, copy_at, keeper_at, with_written_word, come, Need, need_of, changes_came, page_came}
use Rattle.lrc_protocol.specs.Pages.{with_part}
use Rattle.lrc_protocol.specs.Barriers.{kept_pages, with_keepers, clean_memory}
use Rattle.lrc_protocol.specs.Node.{Wait, upkeep, needs_of}
use Rattle.lrc_protocol.specs.Turn.{with_needs}
use Rattle.lrc_node_laws.specs.Ranges.{HasRanges}
use Rattle.lrc_node_laws.specs.Stored.{StoresExactly}
use Rattle.lrc_node_laws.specs.Needs.{FitsNeed, FitsKept}
use Rattle.lrc_node_laws.proofs.Stores.{parts-same}
use Rattle.lrc_node_laws.proofs.Indices.{Ascends}
use Rattle.lrc_node_laws.proofs.Change.{View, pages_in, kept_in, needs_in, Change, receives, manages, moves, puts, closes, learns, resumes}
use Rattle.lrc_node_laws.proofs.Change.{begins, cleans, discards, misses, mends, gets_changes, gets_page, is_settled}
use Rattle.lrc_node_laws.proofs.Ranges.{Ranged, SameRest, clean-same, keeps-ranges}
use Rattle.lrc_node_laws.proofs.Exact.{is_store}
use Rattle.lrc_node_laws.proofs.Needs.{need-fits, needs-fit, needs-with, kept-below, kept-ascends, ascends-filter}
use Rattle.lrc_node_laws.proofs.Needs.{pages_needed, same_pages, open-settled, settled-needs, settled-kept, kept-same}
use Rattle.lrc_node_laws.proofs.Replies.{changes-fit, page-fits, asked-exactly, clean-readable}

pub record Needed (v : View) : Type 0 where
  pub each : All (FitsNeed v.setting.nodes (pages_in v) (words_of v.size) v.memory) (needs_of v.wait)
  pub apart : Ascends (map (λ (need : Need). need.page) (needs_of v.wait))
  pub kept : FitsKept v.setting.me v.memory v.wait

-- who waits so needs nothing
idle : (v : View) → is_settled v.wait ≡ true → Needed v
idle v s = record {
  each = subst (All (FitsNeed v.setting.nodes (pages_in v) (words_of v.size) v.memory)) (sym (settled-needs v.wait s))
      (All-nil (FitsNeed v.setting.nodes (pages_in v) (words_of v.size) v.memory));
  apart = subst (λ needs. Ascends (map (λ (need : Need). need.page) needs)) (sym (settled-needs v.wait s)) tt;
  kept = settled-kept v.setting.me v.memory v.wait s;
}

pub changed_page : (page from : ℕ) (need : Need) → (changes_came page from need).page ≡ need.page
changed_page page from need = by_test (need.page == page)
  where
    by_test : (b : Bool) → (if b then record need { asked = filter (λ asked. not (asked.maker == from)) need.asked } else need).page ≡ need.page
    by_test true = refl
    by_test false = refl

pub sent_page : (page : ℕ) (values : List ℕ) (need : Need) → (page_came page values need).page ≡ need.page
sent_page page values need = by_test (need.page == page)
  where
    by_test : (b : Bool) → (if b then record need { base = come values } else need).page ≡ need.page
    by_test true = refl
    by_test false = refl

-- the same pages are needed
apart-with : (change : Need → Need) → ((need : Need) → (change need).page ≡ need.page) → (w : Wait)
    → Ascends (map (λ (need : Need). need.page) (needs_of w)) → Ascends (map (λ (need : Need). need.page) (needs_of (with_needs change w)))
apart-with change same w h =
    subst (λ needs. Ascends (map (λ (need : Need). need.page) needs)) (sym (needs-with change w))
    (subst Ascends (sym (same_pages change same (needs_of w))) h)

-- pages are kept by the store's intervals and the keepers
kept-by : (me : ℕ) (a b : Memory) → intervals_of b.store ≡ intervals_of a.store → b.keepers ≡ a.keepers → kept_pages me b ≡ kept_pages me a
kept-by me a b i k =
    ap (λ l. filter (λ page. is_named l page && (keeper_at b page == me)) (range_with_len 0 (length b.keepers))) i
    ∙ ap (λ (l : List ℕ). filter (λ page. is_named (intervals_of a.store) page && (slice_index l page == me)) (range_with_len 0 (length l))) k

pub needed-kept : (v after : View) → Change v after → Ranged v → StoresExactly v.time v.memory → Needed v → Needed after
needed-kept v _ (receives from numbers) r s h = record { each = h.each; apart = h.apart; kept = h.kept }
needed-kept v _ (manages before manager e many) r s h = record { each = h.each; apart = h.apart; kept = h.kept }
needed-kept v _ (moves course n) r s h = record { each = h.each; apart = h.apart; kept = h.kept }
needed-kept v _ (puts word value w) r s h = idle (record v { memory = with_written_word v.size word value v.memory }) (ap is_settled w)
needed-kept v _ (closes wait w x) r s h = idle _ x
needed-kept v _ (learns time intervals o news) r s h = idle _ (open-settled v.wait o)
needed-kept v _ (resumes o) r s h = idle _ refl
needed-kept v _ (begins before time w t c long) r s h =
    let unread : ℕ → Bool = λ page. not (is_readable (copy_at (with_keepers v.memory) page)) in
    let keeping : HasRanges v.setting.nodes (pages_in v) (with_keepers v.memory) = keeps-ranges v.setting.nodes (pages_in v) v.memory r.memory in
    let pages : map (λ (need : Need). need.page) (needs_in v) ≡ filter unread (kept_in v) =
    pages_needed v.setting.nodes (with_keepers v.memory) (filter unread (kept_in v)) in
    record {
      each = needs-fit v.setting.me v.setting.nodes (pages_in v) (words_of v.size) (with_keepers v.memory) keeping;
      apart = subst Ascends (sym pages) (ascends-filter unread (kept_in v) (kept-ascends v.setting.me (with_keepers v.memory)));
      kept = (refl, pages);
    }
needed-kept v _ (cleans collection needs w met) r s h =
    let kept : FitsKept v.setting.me v.memory (upkeep collection needs) = subst (FitsKept v.setting.me v.memory) w h.kept in
    let same : SameRest v.memory (clean_memory needs collection.kept v.memory) = clean-same needs collection.kept v.memory in
    record {
      each = All-nil (FitsNeed v.setting.nodes (pages_in v) (words_of v.size) (clean_memory needs collection.kept v.memory));
      apart = tt;
      kept = (
        kept.0 ∙ sym (kept-by v.setting.me v.memory (clean_memory needs collection.kept v.memory) (ap intervals_of same.store) same.keepers),
        All-weaker (λ page. (page < pages_in v) × Contains collection.kept page)
            (λ page. is_readable (copy_at (clean_memory needs collection.kept v.memory) page) ≡ true)
            (λ page is. clean-readable v.memory needs collection.kept page (omega (arith, is.0, r.memory.copies)) is.1 kept.1)
            collection.kept
            (λ k d within. (
              subst (All (λ page. page < pages_in v)) (sym kept.0) (kept-below v.setting.me (pages_in v) v.memory r.memory.keepers) k d within,
              All-contains_itself collection.kept k d within,
            )),
      );
    }
needed-kept v _ (discards collection w) r s h = idle _ refl
needed-kept v _ (misses page w lt b n) r s h = record {
  each =
      All-cons (FitsNeed v.setting.nodes (pages_in v) (words_of v.size) v.memory) (need_of v.setting.nodes v.memory page) []
      (need-fits v.setting.nodes (pages_in v) (words_of v.size) v.memory page r.memory lt b)
      (All-nil (FitsNeed v.setting.nodes (pages_in v) (words_of v.size) v.memory));
  apart = (All-nil (λ y. page < y), tt);
  kept = tt;
}
needed-kept v _ (mends need w met) r s h = idle _ refl
needed-kept v _ (gets_changes from m e) r s h =
    let now : Memory = record v.memory { store = fold (with_part from m.page) v.memory.store m.parts } in
    let store_is : IsStore v.memory.store = is_store v.setting.nodes (pages_in v) v.time v.memory r.memory s in
    record {
      each =
          subst (All (FitsNeed v.setting.nodes (pages_in v) (words_of v.size) now)) (sym (needs-with (changes_came m.page from) v.wait))
          (changes-fit v.setting.nodes (pages_in v) (words_of v.size) v.memory from m.page m.parts store_is
          (asked-exactly v.setting.nodes (pages_in v) (words_of v.size) v.memory (needs_of v.wait) m.page from _ h.each e.asked)
          (needs_of v.wait) h.each);
      apart = apart-with (changes_came m.page from) (changed_page m.page from) v.wait h.apart;
      kept =
          kept-same v.setting.me (changes_came m.page from) v.memory now (changed_page m.page from)
          (kept-by v.setting.me v.memory now (parts-same from m.page m.parts v.memory.store).intervals refl) refl v.wait h.kept;
    }
needed-kept v _ (gets_page from page values e) r s h = record {
  each =
      subst (All (FitsNeed v.setting.nodes (pages_in v) (words_of v.size) v.memory)) (sym (needs-with (page_came page values) v.wait))
      (page-fits v.setting.nodes (pages_in v) (words_of v.size) v.memory (needs_of v.wait) page from values h.each e.asked e.whole);
  apart = apart-with (page_came page values) (sent_page page values) v.wait h.apart;
  kept = kept-same v.setting.me (page_came page values) v.memory v.memory (sent_page page values) refl refl v.wait h.kept;
}
