-- Copies, twins and base copies are a page long, and every change keeps them so.
use Rattle.std.proofs.Common.{◌≡◌, ℕ, ◌<◌, ◌≤◌, List, [], ◌∷◌, Bool, true, false, length, refl, sym, ap, subst, ◌∙◌, ⊎_elim, arith}
use Rattle.std.specs.Prelude.{Option, Some, None, All, ◌==◌, fold, map, slice_index_or, slice_set, if◌then◌else◌}
use Rattle.std.proofs.lemmas.Bool.{and_parts, cases_eq, cases_lt, not-true}
use Rattle.std.proofs.lemmas.List.{get_or-set_same, get_or-set_other, get_or_past, length-set}
use Rattle.std.proofs.lemmas.List.Elements.{All-head, All-tail, All-map, All-set, All-weaker, All-get_or, All-contains_itself}
use Rattle.lrc_page.specs.Page.{words_of}
use Rattle.lrc_page.specs.Place.{page_of, offset_of}
use Rattle.lrc_page.proofs.ChangeLists.{length-fold-applied}
use Rattle.lrc_protocol.specs.Times.{is_named}
use Rattle.lrc_protocol.specs.Pages.{Copy, valid, written, invalid, absent, is_readable, values_of, after_write, closed, invalidated, dropped}
use Rattle.lrc_protocol.specs.Pages.{Memory, copy_at, keeper_at, changes_or_none, all_applied, Base, unneeded, due, come, Need, is_due, is_met}
use Rattle.lrc_protocol.specs.Pages.{first_values, repaired}
use Rattle.lrc_protocol.specs.Barriers.{with_base, clean_memory}
use Rattle.lrc_protocol.specs.Node.{upkeep, needs_of}
use Rattle.lrc_node_laws.specs.Ranges.{IsWholeCopy, IsWholeBase}
use Rattle.lrc_node_laws.specs.Needs.{FitsBase, FitsNeed, FitsKept}
use Rattle.lrc_node_laws.proofs.Tests.{each_passes}
use Rattle.lrc_node_laws.proofs.Lists.{All-placed}
use Rattle.lrc_node_laws.proofs.Ranges.{Ranged}
use Rattle.lrc_node_laws.proofs.Needs.{kept-below}
use Rattle.lrc_node_laws.proofs.Replies.{bases-copies, clean-readable}
use Rattle.lrc_node_laws.proofs.Needed.{Needed}
use Rattle.lrc_node_laws.proofs.Change.{View, pages_in, Change, receives, manages, moves, puts, closes, learns, resumes}
use Rattle.lrc_node_laws.proofs.Change.{begins, cleans, discards, misses, mends, gets_changes, gets_page}

-- ---- one copy

whole-at : (nodes words : ℕ) (copies : List Copy) (page : ℕ) → All (IsWholeCopy nodes words) copies → IsWholeCopy nodes words (slice_index_or copies page absent)
whole-at nodes words copies page h =
    ⊎_elim
    (λ (lt : page < length copies). All-get_or (IsWholeCopy nodes words) copies page absent lt h)
    (λ (le : length copies ≤ page). subst (IsWholeCopy nodes words) (sym (get_or_past copies page absent le)) tt)
    (cases_lt page (length copies))

write-whole : (nodes words offset value : ℕ) (copy : Copy) → IsWholeCopy nodes words copy → IsWholeCopy nodes words (after_write copy offset value)
write-whole nodes words offset value (valid values) h = (length-set values offset value ∙ h, h)
write-whole nodes words offset value (written values twin) h = (length-set values offset value ∙ h.0, h.1)
write-whole nodes words offset value (invalid values since) h = h
write-whole nodes words offset value absent h = tt

closed-whole : (nodes words : ℕ) (copy : Copy) → IsWholeCopy nodes words copy → IsWholeCopy nodes words (closed copy)
closed-whole nodes words (valid values) h = h
closed-whole nodes words (written values twin) h = h.0
closed-whole nodes words (invalid values since) h = h
closed-whole nodes words absent h = tt

invalidated-whole : (nodes words : ℕ) (before : List ℕ) (copy : Copy) → length before ≡ nodes → IsWholeCopy nodes words copy
    → IsWholeCopy nodes words (invalidated before copy)
invalidated-whole nodes words before (valid values) long h = (h, long)
invalidated-whole nodes words before (written values twin) long h = h
invalidated-whole nodes words before (invalid values since) long h = h
invalidated-whole nodes words before absent long h = tt

invalidated_if : (nodes words : ℕ) (before : List ℕ) (b : Bool) (copy : Copy) → length before ≡ nodes → IsWholeCopy nodes words copy
    → IsWholeCopy nodes words (if b then invalidated before copy else copy)
invalidated_if nodes words before true copy long h = invalidated-whole nodes words before copy long h
invalidated_if nodes words before false copy long h = h

dropped-whole : (nodes words : ℕ) (copy : Copy) → IsWholeCopy nodes words copy → IsWholeCopy nodes words (dropped copy)
dropped-whole nodes words (valid values) h = h
dropped-whole nodes words (written values twin) h = h
dropped-whole nodes words (invalid values since) h = tt
dropped-whole nodes words absent h = tt

pub readable-long : (nodes words : ℕ) (copy : Copy) → is_readable copy ≡ true → IsWholeCopy nodes words copy → length (values_of copy) ≡ words
readable-long nodes words (valid values) r h = h
readable-long nodes words (written values twin) r h = h.0
readable-long nodes words (invalid values since) r h = cc
readable-long nodes words absent r h = cc

base_if : (words : ℕ) (b : Bool) (base : Option (List ℕ)) → IsWholeBase words base → IsWholeBase words (if b then base else None)
base_if words true base h = h
base_if words false base h = tt

-- ---- pages are mended

-- what a need has come with is a page long
pub first-long : (nodes words : ℕ) (copy : Copy) (base : Base) → FitsBase nodes words copy base → is_due base ≡ false → IsWholeCopy nodes words copy
    → length (first_values copy base) ≡ words
first-long nodes words absent (come values) f d h = f
first-long nodes words absent (due keeper) f d h = cc
first-long nodes words absent unneeded f d h = absurd f
first-long nodes words (invalid values since) unneeded f d h = h.0
first-long nodes words (invalid values since) (due keeper) f d h = absurd f
first-long nodes words (invalid values since) (come other) f d h = absurd f
first-long nodes words (valid values) base f d h = absurd f
first-long nodes words (written values twin) base f d h = absurd f

-- also once its page was mended
then-long : (words : ℕ) (copy : Copy) (base : Base) (values : List ℕ) → length (first_values copy base) ≡ words → length values ≡ words
    → length (first_values (valid values) base) ≡ words
then-long words copy (come other) values h long = h
then-long words copy (due keeper) values h long = long
then-long words copy unneeded values h long = long

mended-long : (words : ℕ) (memory : Memory) (need : Need) → length (first_values (copy_at memory need.page) need.base) ≡ words
    → length (all_applied memory.store (first_values (copy_at memory need.page) need.base) need.missing) ≡ words
mended-long words memory need h =
    length-fold-applied (first_values (copy_at memory need.page) need.base) (map (changes_or_none memory.store) need.missing) ∙ h

mended-whole : (nodes words : ℕ) (memory : Memory) (need : Need) → length (first_values (copy_at memory need.page) need.base) ≡ words
    → All (IsWholeCopy nodes words) memory.copies → All (IsWholeCopy nodes words) (repaired memory need).copies
mended-whole nodes words memory need long h =
    All-set (IsWholeCopy nodes words) memory.copies need.page (valid (all_applied memory.store (first_values (copy_at memory need.page) need.base) need.missing))
    (mended-long words memory need long) h

-- of the copy at a place, once another place is written
other-long : (words : ℕ) (memory : Memory) (need other : Need) → length (first_values (copy_at memory need.page) need.base) ≡ words
    → length (first_values (copy_at memory other.page) other.base) ≡ words → length (first_values (copy_at (repaired memory need) other.page) other.base) ≡ words
other-long words memory need other h g =
    let values : List ℕ = all_applied memory.store (first_values (copy_at memory need.page) need.base) need.missing in
    ⊎_elim
    (λ (here : need.page ≡ other.page).
    ⊎_elim
    (λ (lt : need.page < length memory.copies).
    let it : copy_at (repaired memory need) need.page ≡ valid values = get_or-set_same memory.copies need.page (valid values) absent lt in
    subst (λ p. length (first_values (copy_at (repaired memory need) p) other.base) ≡ words) here
    (ap (λ c. length (first_values c other.base)) it ∙ then-long words (copy_at memory other.page) other.base values g (mended-long words memory need h)))
    (λ (le : length memory.copies ≤ need.page).
    let past : copy_at (repaired memory need) other.page ≡ absent =
    get_or_past (slice_set memory.copies need.page (valid values)) other.page absent
    (omega (arith, here, le, length-set memory.copies need.page (valid values))) in
    let was : copy_at memory other.page ≡ absent = get_or_past memory.copies other.page absent (omega (arith, here, le)) in
    ap (λ c. length (first_values c other.base)) (past ∙ sym was) ∙ g)
    (cases_lt need.page (length memory.copies)))
    (λ differ.
    let same : copy_at (repaired memory need) other.page ≡ copy_at memory other.page =
    get_or-set_other memory.copies need.page other.page (valid values) absent (λ e. differ (sym e)) in
    ap (λ c. length (first_values c other.base)) same ∙ g)
    (cases_eq need.page other.page)

mends-whole : (nodes words : ℕ) (needs : List Need) (memory : Memory)
    → All (λ (need : Need). length (first_values (copy_at memory need.page) need.base) ≡ words) needs
    → All (IsWholeCopy nodes words) memory.copies → All (IsWholeCopy nodes words) (fold repaired memory needs).copies
mends-whole nodes words [] memory f h = h
mends-whole nodes words (need ∷ needs) memory f h =
    let P : Need → Type 0 = λ need. length (first_values (copy_at memory need.page) need.base) ≡ words in
    let first : length (first_values (copy_at memory need.page) need.base) ≡ words = All-head P need needs f in
    mends-whole nodes words needs (repaired memory need)
    (All-weaker P (λ (other : Need). length (first_values (copy_at (repaired memory need) other.page) other.base) ≡ words)
    (λ other g. other-long words memory need other first g) needs (All-tail P need needs f))
    (mended-whole nodes words memory need first h)

bases-whole : (words : ℕ) (kept : List ℕ) (memory : Memory) → All (λ page. length (values_of (copy_at memory page)) ≡ words) kept
    → All (IsWholeBase words) memory.bases → All (IsWholeBase words) (fold with_base memory kept).bases
bases-whole words [] memory f h = h
bases-whole words (page ∷ kept) memory f h =
    let P : ℕ → Type 0 = λ page. length (values_of (copy_at memory page)) ≡ words in
    bases-whole words kept (with_base memory page) (All-tail P page kept f)
    (All-set (IsWholeBase words) memory.bases page (Some (values_of (copy_at memory page))) (All-head P page kept f) h)

mends-bases : (needs : List Need) (memory : Memory) → (fold repaired memory needs).bases ≡ memory.bases
mends-bases [] memory = refl
mends-bases (need ∷ needs) memory = mends-bases needs (repaired memory need)

-- ---- every change

pub record Whole (nodes words : ℕ) (memory : Memory) : Type 0 where
  pub copies : All (IsWholeCopy nodes words) memory.copies
  pub bases : All (IsWholeBase words) memory.bases

met-base : (need : Need) → is_met need ≡ true → is_due need.base ≡ false
met-base need e = not-true (is_due need.base) (and_parts _ _ e).0

-- what is met begins with a page
pub met-long : (nodes pages words : ℕ) (memory : Memory) (need : Need) → All (IsWholeCopy nodes words) memory.copies → FitsNeed nodes pages words memory need
    → is_met need ≡ true → length (first_values (copy_at memory need.page) need.base) ≡ words
met-long nodes pages words memory need h f e =
    first-long nodes words (copy_at memory need.page) need.base f.base (met-base need e) (whole-at nodes words memory.copies need.page h)

pub whole-kept : (v after : View) → Change v after → Ranged v → Needed v → Whole v.setting.nodes (words_of v.size) v.memory
    → Whole after.setting.nodes (words_of after.size) after.memory
whole-kept v _ (receives from numbers) r n h = h
whole-kept v _ (manages before manager e many) r n h = h
whole-kept v _ (moves course e) r n h = h
whole-kept v _ (puts word value w) r n h = record {
  copies =
      All-set (IsWholeCopy v.setting.nodes (words_of v.size)) v.memory.copies (page_of word v.size) _
      (write-whole v.setting.nodes (words_of v.size) (offset_of word v.size) value (copy_at v.memory (page_of word v.size))
      (whole-at v.setting.nodes (words_of v.size) v.memory.copies (page_of word v.size) h.copies)) h.copies;
  bases = h.bases;
}
whole-kept v _ (closes wait w s) r n h = record {
  copies =
      All-map (IsWholeCopy v.setting.nodes (words_of v.size)) closed v.memory.copies
      (All-weaker (IsWholeCopy v.setting.nodes (words_of v.size)) (λ copy. IsWholeCopy v.setting.nodes (words_of v.size) (closed copy))
      (λ copy x. closed-whole v.setting.nodes (words_of v.size) copy x) v.memory.copies h.copies);
  bases = h.bases;
}
whole-kept v _ (learns time intervals o news) r n h = record {
  copies =
      All-placed (IsWholeCopy v.setting.nodes (words_of v.size)) (IsWholeCopy v.setting.nodes (words_of v.size))
      (λ place. if is_named intervals place.0 then invalidated v.time place.1 else place.1)
      (λ page copy x. invalidated_if v.setting.nodes (words_of v.size) v.time (is_named intervals page) copy r.time x) 0 v.memory.copies h.copies;
  bases = h.bases;
}
whole-kept v _ (resumes o) r n h = h
whole-kept v _ (begins before time w t c long) r n h = record { copies = h.copies; bases = h.bases }
whole-kept v _ (cleans collection needs w met) r n h =
    let nodes : ℕ = v.setting.nodes in
    let words : ℕ = words_of v.size in
    let each : All (FitsNeed nodes (pages_in v) words v.memory) needs = subst (λ w. All (FitsNeed nodes (pages_in v) words v.memory) (needs_of w)) w n.each in
    let kept : FitsKept v.setting.me v.memory (upkeep collection needs) = subst (FitsKept v.setting.me v.memory) w n.kept in
    let came : All (λ (need : Need). is_met need ≡ true) needs = each_passes is_met (λ need. is_met need ≡ true) (λ need e. e) needs met in
    let copies : All (IsWholeCopy nodes words) (fold repaired v.memory needs).copies =
    mends-whole nodes words needs v.memory
    (λ k d within. met-long nodes (pages_in v) words v.memory (slice_index_or needs k d) h.copies (each k d within) (came k d within)) h.copies in
    let below : All (λ page. page < pages_in v) collection.kept =
    subst (All (λ page. page < pages_in v)) (sym kept.0) (kept-below v.setting.me (pages_in v) v.memory r.memory.keepers) in
    let same : (clean_memory needs collection.kept v.memory).copies ≡ (fold repaired v.memory needs).copies =
    bases-copies collection.kept (fold repaired v.memory needs) in
    record {
      copies = subst (All (IsWholeCopy nodes words)) (sym same) copies;
      bases =
          bases-whole words collection.kept (fold repaired v.memory needs)
          (λ k d within.
          let page : ℕ = slice_index_or collection.kept k d in
          readable-long nodes words (copy_at (fold repaired v.memory needs) page)
          (ap (λ (copies : List Copy). is_readable (slice_index_or copies page absent)) (sym same)
          ∙ clean-readable v.memory needs collection.kept page (omega (arith, below k d within, r.memory.copies))
          (All-contains_itself collection.kept k d within) kept.1)
          (whole-at nodes words (fold repaired v.memory needs).copies page copies))
          (subst (All (IsWholeBase words)) (sym (mends-bases needs v.memory)) h.bases);
    }
whole-kept v _ (discards collection w) r n h = record {
  copies =
      All-map (IsWholeCopy v.setting.nodes (words_of v.size)) dropped v.memory.copies
      (All-weaker (IsWholeCopy v.setting.nodes (words_of v.size)) (λ copy. IsWholeCopy v.setting.nodes (words_of v.size) (dropped copy))
      (λ copy x. dropped-whole v.setting.nodes (words_of v.size) copy x) v.memory.copies h.copies);
  bases =
      All-placed (IsWholeBase (words_of v.size)) (IsWholeBase (words_of v.size))
      (λ (place : ℕ × Option (List ℕ)). if keeper_at v.memory place.0 == v.setting.me then place.1 else None)
      (λ page base x. base_if (words_of v.size) (keeper_at v.memory page == v.setting.me) base x) 0 v.memory.bases h.bases;
}
whole-kept v _ (misses page w lt b x) r n h = h
whole-kept v _ (mends need w met) r n h =
    let fits : FitsNeed v.setting.nodes (pages_in v) (words_of v.size) v.memory need =
    All-head (FitsNeed v.setting.nodes (pages_in v) (words_of v.size) v.memory) need []
    (subst (λ w. All (FitsNeed v.setting.nodes (pages_in v) (words_of v.size) v.memory) (needs_of w)) w n.each) in
    record {
      copies =
          mended-whole v.setting.nodes (words_of v.size) v.memory need
          (met-long v.setting.nodes (pages_in v) (words_of v.size) v.memory need h.copies fits met) h.copies;
      bases = h.bases;
    }
whole-kept v _ (gets_changes from m e) r n h = record { copies = h.copies; bases = h.bases }
whole-kept v _ (gets_page from page values e) r n h = h
