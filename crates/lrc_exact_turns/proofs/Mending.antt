-- A page whose changes and base copy have come is repaired to what the exact memory has.
use Rattle.std.proofs.Common.{◌≡◌, ℕ, ◌<◌, List, true, false, length, refl, sym, ap, subst, ◌∙◌, inl, inr, arith}
use Rattle.std.specs.Prelude.{None, is_none, slice_index, All, Contains, not}
use Rattle.std.proofs.lemmas.Bool.{cases_lt, and_parts, not-true, true≢false}
use Rattle.lrc_time.specs.Time.{entry, weight_of, Covers}
use Rattle.lrc_time.proofs.Times.{weight-covers_strictly, covers-refl}
use Rattle.lrc_page.specs.declared.size.Size.{Size}
use Rattle.lrc_page.specs.Page.{words_of}
use Rattle.lrc_store.specs.declared.key.Key.{Key}
use Rattle.lrc_store.specs.Store.{StoredRecord, changes_at, missing_of}
use Rattle.lrc_copies.specs.Stamps.{stamp_index, AreStamped}
use Rattle.lrc_copies.proofs.Stamping.{le-covered}
use Rattle.lrc_protocol.specs.Pages.{Copy, valid, written, invalid, absent, changes_of, Base, unneeded, due, come, Need, is_due, is_met}
use Rattle.lrc_protocol.specs.Pages.{first_values, repaired, copy_at, missing_in, all_applied}
use Rattle.lrc_node_laws.specs.Needs.{FitsBase, FitsNeed}
use Rattle.lrc_node_laws.specs.Ranges.{IsWholeCopy}
use Rattle.lrc_node_laws.specs.Remembered.{IsBetween}
use Rattle.lrc_node_laws.proofs.Change.{View, pages_in}
use Rattle.lrc_node_laws.proofs.MetNeeds.{met-known}
use Rattle.lrc_reading_laws.specs.Written.{made_stamps, word_on}
use Rattle.lrc_reading_laws.proofs.Fitting.Copies.{Stored}
use Rattle.lrc_reading_laws.proofs.Fitting.First.{whole-long}
use Rattle.lrc_reading_laws.proofs.Fitting.Later.{AtView}
use Rattle.lrc_reading_laws.proofs.Stamped.Lists.{AreFound, found_once}
use Rattle.lrc_exact.specs.Rule.{State, accessed}
use Rattle.lrc_exact_made.specs.Copies.{shape_of, HasWord}
use Rattle.lrc_exact_made.specs.Steps.{KnowsMissing}
use Rattle.lrc_exact_made.proofs.Repairing.{repairs_exactly}
use Rattle.lrc_exact_pages.specs.Pages.{HasPages}
use Rattle.lrc_exact_pages.proofs.Accessing.{mends_pages, repairs_dropped}
use Rattle.lrc_exact_turns.proofs.Stands.{NeedIsLeft}

-- ---- intervals of one node weigh more and more

-- one with a lower index of the same node weighs less
lower_less : (nodes : ℕ) (made : List StoredRecord) → AreStamped made_stamps nodes made → (x y : StoredRecord) → Contains made x → Contains made y
    → x.node ≡ y.node → stamp_index made_stamps x < stamp_index made_stamps y → weight_of x.stamp < weight_of y.stamp
lower_less nodes made stamped x y c d same lt =
    let at_y : entry y.stamp x.node ≡ stamp_index made_stamps y = ap (entry y.stamp) same in
    let covers : Covers y.stamp x.stamp = stamped.cuts y d x c (le-covered made_stamps y.stamp x (omega arith)) in
    weight-covers_strictly y.stamp x.stamp (stamped.long y d ∙ sym (stamped.long x c)) covers
    (λ e.
    let one : entry y.stamp x.node ≡ entry x.stamp x.node = ap (λ t. entry t x.node) e in
    omega arith)

apart : (nodes : ℕ) (made : List StoredRecord) → AreStamped made_stamps nodes made → AreFound made
    → (x y : StoredRecord) → Contains made x → Contains made y → x.node ≡ y.node → weight_of x.stamp ≡ weight_of y.stamp → x ≡ y
apart nodes made stamped found x y c d same weight =
    elim (cases_lt (stamp_index made_stamps x) (stamp_index made_stamps y)) [
      | inl less ↦ let w = lower_less nodes made stamped x y c d same less in absurd (omega arith)
      | inr most ↦
          elim (cases_lt (stamp_index made_stamps y) (stamp_index made_stamps x)) [
            | inl more ↦ let w = lower_less nodes made stamped y x d c (sym same) more in absurd (omega arith)
            | inr least ↦ found_once made x y found c d same (omega arith)
          ]
    ]

-- ---- one page

module _ (nodes collect : ℕ) (made : List StoredRecord) (left : ℕ → ℕ) (state : State) (v : View) (a : AtView v)
    (stored : Stored made v.time v.memory.collected v.memory.store) (stamped : AreStamped made_stamps nodes made) (found : AreFound made)
    (h : HasPages v.size made (λ page offset. left (word_on v.size page offset)) v.time v.memory state) where
  abbrev size : Size
  size = v.size

  abbrev pub Needs : Need → Type 0
  Needs need = FitsNeed v.setting.nodes (pages_in v) (words_of size) v.memory need

  -- what a page is repaired to
  abbrev mended : Copy → Base → List Key → List ℕ
  mended copy base missing = all_applied v.memory.store (first_values copy base) missing

  module _ (need : Need) (fits : Needs need) (met : is_met need ≡ true) (is_left : NeedIsLeft size left need) where
    all_known : All (λ (key : Key). is_none (changes_at v.memory.store key) ≡ false) need.missing
    all_known = met-known v.setting.nodes (pages_in v) (words_of size) v.memory need a.ranged.memory fits met

    within : need.page < length v.memory.copies
    within = let pages = a.ranged.memory.copies in let lt = fits.in_range in omega arith

    knows : (since : List ℕ) → Covers since v.memory.collected → (copy : Copy) → copy_at v.memory need.page ≡ copy
        → missing_in v.memory need.page copy ≡ missing_of v.memory.store need.page since
        → KnowsMissing made need.page v.memory.collected since v.time v.memory.store
    knows since above copy e lacking = record {
      is_store = stored.is_store;
      just = stored.just;
      above = above;
      known = stored.known;
      all_known =
          subst (All (λ (key : Key). is_none (changes_at v.memory.store key) ≡ false))
          (fits.missing ∙ ap (missing_in v.memory need.page) e ∙ lacking) all_known;
      found = found;
      apart = apart nodes made stamped found;
    }

    -- an invalid copy, which needs no base copy
    of_invalid : (values since : List ℕ) → copy_at v.memory need.page ≡ invalid values since → (base : Base)
        → FitsBase v.setting.nodes (words_of size) (invalid values since) base
        → (offset : ℕ) → offset < words_of size
        → slice_index (mended (invalid values since) base (missing_of v.memory.store need.page since)) offset
        ≡ (state.words (word_on size need.page offset)).value
    of_invalid values since e unneeded f offset lt =
        let long : IsWholeCopy v.setting.nodes (words_of size) (invalid values since) =
        whole-long v.setting.nodes (words_of size) v.memory.copies need.page (invalid values since) e a.whole.copies in
        let long_values = long.0 in
        let between : IsBetween v.time v.memory need.page (invalid values since) =
        subst (IsBetween v.time v.memory need.page) e (a.between need.page) in
        let word : HasWord made v.time need.page offset (invalid values since) (state.words (word_on size need.page offset))
        (state.before (word_on size need.page offset)) =
        subst
        (λ copy. HasWord made v.time need.page offset copy (state.words (word_on size need.page offset)) (state.before (word_on size need.page offset)))
        e (h.exact.copies need.page offset lt) in
        repairs_exactly made need.page v.memory.collected since v.time v.memory.store (knows since between.0 (invalid values since) e refl) values offset
        (state.words (word_on size need.page offset)) (omega arith) word.0
    of_invalid values since e (due keeper) f offset lt = absurd f
    of_invalid values since e (come other) f offset lt = absurd f

    -- a copy that was dropped, whose base copy came
    of_absent : copy_at v.memory need.page ≡ absent → (base : Base) → need.base ≡ base → FitsBase v.setting.nodes (words_of size) absent base
        → (offset : ℕ) → offset < words_of size
        → slice_index (mended absent base (missing_of v.memory.store need.page v.memory.collected)) offset
        ≡ (state.words (word_on size need.page offset)).value
    of_absent e unneeded b f offset lt = absurd f
    of_absent e (due keeper) b f offset lt =
        let parts = and_parts (not (is_due need.base)) _ met in
        absurd (true≢false (sym (ap is_due b) ∙ not-true (is_due need.base) parts.0))
    of_absent e (come values) b f offset lt =
        repairs_dropped size nodes collect made (λ page offset. left (word_on size page offset)) v.time v.memory state h need.page values within e
        (knows v.memory.collected (covers-refl v.memory.collected) absent e refl) f (is_left values b) offset lt

    is_mended : (copy : Copy) → copy_at v.memory need.page ≡ copy → FitsBase v.setting.nodes (words_of size) copy need.base → (offset : ℕ)
        → offset < words_of size
        → slice_index (mended copy need.base (missing_in v.memory need.page copy)) offset ≡ (state.words (word_on size need.page offset)).value
    is_mended (valid values) e f offset lt = absurd f
    is_mended (written values twin) e f offset lt = absurd f
    is_mended (invalid values since) e f offset lt = of_invalid values since e need.base f offset lt
    is_mended absent e f offset lt = of_absent e need.base refl f offset lt

    not_written : (copy : Copy) (base : Base) → FitsBase v.setting.nodes (words_of size) copy base → changes_of copy ≡ None
    not_written (valid values) base f = absurd f
    not_written (written values twin) base f = absurd f
    not_written (invalid values since) base f = refl
    not_written absent base f = refl

    pub need_values : (offset : ℕ) → offset < words_of size
        → slice_index (mended (copy_at v.memory need.page) need.base need.missing) offset ≡ (state.words (word_on size need.page offset)).value
    need_values offset lt =
        ap (λ keys. slice_index (mended (copy_at v.memory need.page) need.base keys) offset) fits.missing
        ∙ is_mended (copy_at v.memory need.page) refl fits.base offset lt

    pub mends : HasPages size made (λ page offset. left (word_on size page offset)) v.time (repaired v.memory need)
        (accessed (shape_of nodes size collect) need.page state)
    mends =
        mends_pages size nodes collect made (λ page offset. left (word_on size page offset)) v.time v.memory state h need.page
        (mended (copy_at v.memory need.page) need.base need.missing) within
        (not_written (copy_at v.memory need.page) need.base fits.base) need_values
