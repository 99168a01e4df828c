-- Pages that a node keeps in a collection: once all has come they can be repaired, and then base copies can be kept.
use Rattle.std.proofs.Common.{◌≡◌, ◌≢◌, ℕ, ◌<◌, ◌≤◌, Bool, true, false, List, [], ◌∷◌, get_or, take}
use Rattle.std.proofs.Common.{length, map, fold, refl, sym, ◌∙◌, ap, subst, arith, eq-eqb}
use Rattle.std.specs.Prelude.{All, AllPairs, None, not, filter, flat_map, slice_index_or}
use Rattle.std.specs.List.{list_all}
use Rattle.std.proofs.lemmas.Bool.{and_parts}
use Rattle.std.proofs.lemmas.List.{get_or-take, get_or_default, get_or-set_other, length-map, get_or-map, length-take-le}
use Rattle.std.proofs.lemmas.List.Elements.{All-nil, All-head, All-tail, All-append, All-filter, All-get_or, All-contains_itself}
use Rattle.lrc_page.specs.declared.size.Size.{Size}
use Rattle.lrc_page.specs.Page.{words_of}
use Rattle.lrc_page.specs.Place.{pages_of}
use Rattle.lrc_store.specs.declared.key.Key.{Key}
use Rattle.lrc_memory.specs.Turns.{is_mendable}
use Rattle.lrc_protocol.specs.Pages.{Copy, valid, written, invalid, absent, is_readable, changes_of, Base, unneeded, due, come, Need, need_of}
use Rattle.lrc_protocol.specs.Pages.{is_due, is_met, repaired, Memory, copy_at, keeper_at}
use Rattle.lrc_protocol.specs.Barriers.{Collection, kept_pages, with_base, with_keepers}
use Rattle.lrc_protocol.specs.Node.{Letter, upkeep, Node, with_memory}
use Rattle.lrc_protocol.specs.Turn.{requests_of, needs_of_kept}
use Rattle.lrc_node_laws.specs.Needs.{FitsBase, FitsNeed}
use Rattle.lrc_node_laws.specs.Ranges.{HasRanges}
use Rattle.lrc_node_laws.proofs.Needs.{ascends-filter, kept-ascends, kept-below, needs-fit, pages_needed}
use Rattle.lrc_node_laws.specs.Waits.{NoneWritten}
use Rattle.lrc_node_laws.proofs.Awaited.{ascends-pairs}
use Rattle.lrc_node_laws.proofs.Change.{View, view_of, cleans}
use Rattle.lrc_node_laws.proofs.Indices.{Ascends}
use Rattle.lrc_node_laws.proofs.Quiet.{quiet-kept}
use Rattle.lrc_node_laws.proofs.Ranges.{keeps-ranges, mends-same}
use Rattle.lrc_node_laws.proofs.Replies.{bases-copies, clean-readable}
use Rattle.lrc_node_laws.proofs.Tests.{each_passes}
use Rattle.lrc_node.specs.Keeping.{CanMend, CanKeep, CanClean, CanCollect}
use Rattle.lrc_node.specs.State.{AreFor}
use Rattle.lrc_node.proofs.Misses.{lacking_of_page, requests_for}

-- ---- one page after another

-- to repair other pages leaves a copy as it is
other_copies : (needs : List Need) (memory : Memory) (page : ℕ) → All (λ (n : Need). n.page ≢ page) needs
    → copy_at (fold repaired memory needs) page ≡ copy_at memory page
other_copies [] memory page h = refl
other_copies (need ∷ needs) memory page h =
    other_copies needs (repaired memory need) page (All-tail (λ (n : Need). n.page ≢ page) need needs h)
    ∙ get_or-set_other memory.copies need.page page _ absent (λ e. All-head (λ (n : Need). n.page ≢ page) need needs h (sym e))

before_apart : (needs : List Need) (k : ℕ) (d : Need) → AllPairs (λ (a b : Need). a.page ≢ b.page) needs → k < length needs
    → All (λ (n : Need). n.page ≢ (get_or needs k d).page) (take k needs)
before_apart needs k d h lt = λ i e within.
    let before : i < k = omega (arith, within, length-take-le k needs (omega (arith, lt))) in
    subst (λ (n : Need). n.page ≢ (get_or needs k d).page)
    (sym (get_or-take k needs i e before ∙ get_or_default needs i e d (omega (arith, before, lt)))) (h i k d before lt)

-- each page can be repaired once those before it are
pub can_mend_next : (size : Size) (memory : Memory) (needs : List Need) (k : ℕ) (d : Need) → AllPairs (λ (a b : Need). a.page ≢ b.page) needs
    → All (CanMend size memory) needs → k < length needs → CanMend size (fold repaired memory (take k needs)) (get_or needs k d)
can_mend_next size memory needs k d apart can lt =
    let it : CanMend size memory (get_or needs k d) = can k d lt in
    record {
      page = omega (arith, it.page, (mends-same (take k needs) memory).copies);
      fit = ap (λ copy. is_mendable size copy (get_or needs k d).base)
          (other_copies (take k needs) memory (get_or needs k d).page (before_apart needs k d apart lt)) ∙ it.fit;
      of_page = it.of_page;
    }

-- a base copy of each page can be kept once those before it are
pub can_keep_next : (memory : Memory) (pages : List ℕ) (page : ℕ) → CanKeep memory page → CanKeep (fold with_base memory pages) page
can_keep_next memory pages page can =
    let same : (fold with_base memory pages).copies ≡ memory.copies = bases-copies pages memory in
    record {
      within = subst (λ (copies : List Copy). page < length copies) (sym same) can.within;
      readable = subst (λ (copies : List Copy). is_readable (slice_index_or copies page absent) ≡ true) (sym same) can.readable;
      closed = subst (λ (copies : List Copy). changes_of (slice_index_or copies page absent) ≡ None) (sym same) can.closed;
    }

-- ---- all pages

pub fits_met : (size : Size) (nodes : ℕ) (copy : Copy) (base : Base) → FitsBase nodes (words_of size) copy base → is_due base ≡ false
    → is_mendable size copy base ≡ true
fits_met size nodes (valid values) base f d = absurd f
fits_met size nodes (written values twin) base f d = absurd f
fits_met size nodes (invalid values since) unneeded f d = refl
fits_met size nodes (invalid values since) (due keeper) f d = absurd f
fits_met size nodes (invalid values since) (come others) f d = absurd f
fits_met size nodes absent unneeded f d = absurd f
fits_met size nodes absent (due keeper) f d = cc
fits_met size nodes absent (come values) f d = eq-eqb (length values) (words_of size) f

pub not_true : (b : Bool) → not b ≡ true → b ≡ false
not_true true e = cc
not_true false e = refl

-- a need that fits the memory can be repaired once all has come
pub can_mend : (size : Size) (nodes pages : ℕ) (memory : Memory) (need : Need) → length memory.copies ≡ pages
    → FitsNeed nodes pages (words_of size) memory need → is_met need ≡ true → CanMend size memory need
can_mend size nodes pages memory need long fits met = record {
  page = subst (λ n. need.page < n) (sym long) fits.in_range;
  fit = fits_met size nodes (copy_at memory need.page) need.base fits.base (not_true (is_due need.base) (and_parts _ _ met).0);
  of_page = subst (All (λ (key : Key). key.page ≡ need.page)) (sym fits.missing) (lacking_of_page memory need.page);
}

pub apart_pairs : (needs : List Need) → AllPairs (λ (a b : ℕ). a < b) (map (λ (need : Need). need.page) needs)
    → AllPairs (λ (a b : Need). a.page ≢ b.page) needs
apart_pairs needs h = λ i j d before within same.
    let pages : List ℕ = map (λ (need : Need). need.page) needs in
    let lt : get_or pages i d.page < get_or pages j d.page = h i j d.page before (rw length-map within) in
    let at_i : get_or pages i d.page ≡ (get_or needs i d).page = get_or-map (λ (need : Need). need.page) needs i d d.page (omega arith) in
    let at_j : get_or pages j d.page ≡ (get_or needs j d).page = get_or-map (λ (need : Need). need.page) needs j d d.page within in
    omega arith

none_written : (node : Node) (memory : Memory) (kept : List ℕ) (needs : List Need) → list_all is_met needs ≡ true → NoneWritten memory
    → NoneWritten (fold repaired memory needs)
none_written node memory kept needs met none =
    let collection : Collection = record { time = []; kept = kept } in
    let v : View = record (view_of node) { wait = upkeep collection needs; memory = memory } in
    subst (All (λ copy. changes_of copy ≡ None)) (bases-copies kept (fold repaired memory needs)) (quiet-kept v _ (cleans collection needs refl met) none)

-- a node that has arrived, has nothing written, and needs just those of the pages that it keeps that may not be read, can clean
-- its copies once all has come
pub can_clean : (node : Node) (pages : ℕ) (kept : List ℕ) (needs : List Need) → 1 ≤ node.barrier.episode → length node.memory.copies ≡ pages
    → Ascends (map (λ (need : Need). need.page) needs)
    → All (FitsNeed node.setting.nodes pages (words_of node.options.size) node.memory) needs
    → All (λ page. page < pages) kept
    → map (λ (need : Need). need.page) needs ≡ filter (λ page. not (is_readable (copy_at node.memory page))) kept
    → NoneWritten node.memory → list_all is_met needs ≡ true → CanClean node kept needs
can_clean node pages kept needs arrived long ascends fits below same none met =
    let mets : All (λ (need : Need). is_met need ≡ true) needs = each_passes is_met (λ (need : Need). is_met need ≡ true) (λ need t. t) needs met in
    let after : Memory = fold repaired node.memory needs in
    record {
      arrived = arrived;
      apart = apart_pairs needs (ascends-pairs (map (λ (need : Need). need.page) needs) ascends);
      mends = λ k d within. can_mend node.options.size node.setting.nodes pages node.memory (get_or needs k d) long (fits k d within) (mets k d within);
      keeps = λ k d within.
          let page : ℕ = get_or kept k d in
          let lt : page < length node.memory.copies = omega (arith, below k d within, long) in
          let there : page < length after.copies = omega (arith, lt, (mends-same needs node.memory).copies) in
          record {
            within = there;
            readable =
                subst (λ (copies : List Copy). is_readable (slice_index_or copies page absent) ≡ true) (bases-copies kept after)
                (clean-readable node.memory needs kept page lt (All-contains_itself kept k d within) same);
            closed = All-get_or (λ copy. changes_of copy ≡ None) after.copies page absent there (none_written node node.memory kept needs met none);
          };
    }

-- ---- a collection begins

kept_needs_below : (node : Node) → CanCollect node
    → All (λ page. page < pages_of node.setting.words node.options.size) (kept_pages node.setting.me (with_keepers node.memory))
kept_needs_below node can =
    let pages : ℕ = pages_of node.setting.words node.options.size in
    let keeping : HasRanges node.setting.nodes pages (with_keepers node.memory) = keeps-ranges node.setting.nodes pages node.memory can.ranges in
    kept-below node.setting.me pages (with_keepers node.memory) keeping.keepers

-- the pages that a node keeps are the memory's
pub kept_within : (node : Node) → CanCollect node → All (λ page. page < length node.memory.copies) (kept_pages node.setting.me (with_keepers node.memory))
kept_within node can = subst (λ n. All (λ page. page < n) (kept_pages node.setting.me (with_keepers node.memory)))
    (sym can.ranges.copies) (kept_needs_below node can)

-- where all has come at once, its copies can be cleaned
pub begins_clean : (node : Node) → CanCollect node
    → list_all is_met (needs_of_kept (with_memory node (with_keepers node.memory)) (kept_pages node.setting.me (with_keepers node.memory))) ≡ true
    → CanClean (with_memory node (with_keepers node.memory)) (kept_pages node.setting.me (with_keepers node.memory))
    (needs_of_kept (with_memory node (with_keepers node.memory)) (kept_pages node.setting.me (with_keepers node.memory)))
begins_clean node can met =
    let keeping : Memory = with_keepers node.memory in
    let pages : ℕ = pages_of node.setting.words node.options.size in
    let kept : List ℕ = kept_pages node.setting.me keeping in
    let unread : ℕ → Bool = λ page. not (is_readable (copy_at keeping page)) in
    let ranges : HasRanges node.setting.nodes pages keeping = keeps-ranges node.setting.nodes pages node.memory can.ranges in
    let needs : List Need = needs_of_kept (with_memory node keeping) kept in
    let same : map (λ (need : Need). need.page) needs ≡ filter unread kept = pages_needed node.setting.nodes keeping (filter unread kept) in
    can_clean (with_memory node keeping) pages kept needs can.arrived ranges.copies
    (subst Ascends (sym same) (ascends-filter unread kept (kept-ascends node.setting.me keeping)))
    (needs-fit node.setting.me node.setting.nodes pages (words_of node.options.size) keeping ranges)
    (kept_needs_below node can) same can.closed met

all_requests : (nodes : ℕ) (memory : Memory) (pages : List ℕ) → All (λ page. keeper_at memory page < nodes) pages
    → AreFor nodes (flat_map requests_of (map (need_of nodes memory) pages))
all_requests nodes memory [] h = All-nil (λ (letter : Letter). letter.to < nodes)
all_requests nodes memory (page ∷ pages) h =
    All-append (λ (letter : Letter). letter.to < nodes) (requests_of (need_of nodes memory page)) (flat_map requests_of (map (need_of nodes memory) pages))
    (requests_for nodes memory page (All-head (λ page. keeper_at memory page < nodes) page pages h))
    (all_requests nodes memory pages (All-tail (λ page. keeper_at memory page < nodes) page pages h))

-- the requests go to nodes
pub begins_for : (node : Node) → CanCollect node
    → AreFor node.setting.nodes (flat_map requests_of
    (needs_of_kept (with_memory node (with_keepers node.memory)) (kept_pages node.setting.me (with_keepers node.memory))))
begins_for node can =
    let keeping : Memory = with_keepers node.memory in
    let pages : ℕ = pages_of node.setting.words node.options.size in
    let kept : List ℕ = kept_pages node.setting.me keeping in
    let unread : ℕ → Bool = λ page. not (is_readable (copy_at keeping page)) in
    let ranges : HasRanges node.setting.nodes pages keeping = keeps-ranges node.setting.nodes pages node.memory can.ranges in
    all_requests node.setting.nodes keeping (filter unread kept)
    (All-filter unread (λ page. keeper_at keeping page < node.setting.nodes) kept
    (λ k d within. All-get_or (λ keeper. keeper < node.setting.nodes) keeping.keepers (get_or kept k d) 0
    (omega (arith, kept_needs_below node can k d within, ranges.keepers)) ranges.keeping))
