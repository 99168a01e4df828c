-- Where the notices of intervals begin.
use Rattle.std.proofs.Common.{◌≡◌, ℕ, ◌+◌, ◌<◌, ◌≤◌, ◌∙◌, List, [], ◌∷◌, ◌++◌, length, get_or, map, take, drop, refl, ap, sym, ⊎_elim, arith}
use Rattle.std.specs.List.{flat_map}
use Rattle.std.proofs.lemmas.Bool.{cases_lt}
use Rattle.std.proofs.lemmas.Grind.{flat_map-append}
use Rattle.std.proofs.lemmas.List.{append-nil, get_or_append_left, get_or_push, get_or-map, length-append, length-map}
use Rattle.std.proofs.lemmas.List.{take_more, take_all, take-append-le, take-append-drop, take-map}
use Rattle.std.proofs.lemmas.List.Concat.{flat_map-cons}
use Rattle.lrc_store.specs.Interval.{IntervalRecord}
use Rattle.lrc_store.specs.Lists.{keys_of}
use Rattle.lrc_store.specs.Nodes.{AreStarts}
use Rattle.lrc_store.specs.Store.{StoredRecord, interval_of, key_of}

-- how many notices intervals have
abbrev pub count_of : List IntervalRecord → ℕ
count_of intervals = length (flat_map keys_of intervals)

pub count_of-append : (before after : List IntervalRecord) → count_of (before ++ after) ≡ count_of before + count_of after
count_of-append before after =
    ap length (flat_map-append keys_of before after) ∙ length-append (flat_map keys_of before) (flat_map keys_of after)

pub count_of-push : (intervals : List IntervalRecord) (interval : IntervalRecord)
    → count_of (intervals ++ interval ∷ []) ≡ count_of intervals + length interval.pages
count_of-push intervals interval =
    let one : count_of (interval ∷ []) ≡ length interval.pages =
    ap length (flat_map-cons keys_of interval [] ∙ append-nil (keys_of interval)) ∙ length-map interval.pages (λ page. key_of page interval) in
    omega (arith, count_of-append intervals (interval ∷ []), one)

pub count_of-taken : (intervals : List IntervalRecord) (n : ℕ) → count_of (take n intervals) ≤ count_of intervals
count_of-taken intervals n =
    let whole = ap count_of (take-append-drop n intervals) in
    omega (arith, whole, count_of-append (take n intervals) (drop n intervals))

-- one stored interval more
pub count_of-more : (entries : List StoredRecord) (n : ℕ) (d : StoredRecord) → n < length entries
    → count_of (map interval_of (take (n + 1) entries)) ≡ count_of (map interval_of (take n entries)) + length (get_or entries n d).notices
count_of-more entries n d within =
    let intervals = map interval_of entries in
    let here : get_or intervals n (interval_of d) ≡ interval_of (get_or entries n d) = get_or-map interval_of entries n d (interval_of d) within in
    let more : take (n + 1) intervals ≡ take n intervals ++ interval_of (get_or entries n d) ∷ [] =
    take_more intervals n (interval_of d) (omega (arith, within, length-map entries interval_of))
    ∙ ap (λ i. take n intervals ++ i ∷ []) here in
    let after = ap count_of (sym (take-map interval_of (n + 1) entries) ∙ more) in
    let before = ap count_of (take-map interval_of n entries) in
    let pushed = count_of-push (take n intervals) (interval_of (get_or entries n d)) in
    let pages = length-map (get_or entries n d).notices (λ notice. notice.page) in
    omega (arith, after, before, pushed, pages)

pub count_of-entries : (entries : List StoredRecord) (n : ℕ)
    → count_of (map interval_of (take n entries)) ≤ count_of (map interval_of entries)
count_of-entries entries n =
    let most = count_of-taken (map interval_of entries) n in
    let same = ap count_of (take-map interval_of n entries) in
    omega (arith, most, same)

pub AreStarts-none : AreStarts [] []
AreStarts-none = record { count = refl; each = λ at d within. absurd (omega (arith, within)) }

-- one interval more: its notices begin behind all others
pub AreStarts-push : (starts : List ℕ) (intervals : List IntervalRecord) (interval : IntervalRecord) (start : ℕ)
    → AreStarts starts intervals → start ≡ count_of intervals → AreStarts (starts ++ start ∷ []) (intervals ++ interval ∷ [])
AreStarts-push starts intervals interval start are is = record {
  count = omega (arith, are.count, length-append starts (start ∷ []), length-append intervals (interval ∷ []));
  each = λ at d within.
      ⊎_elim
      (λ (old : at < length intervals).
      get_or_append_left starts (start ∷ []) d at (omega (arith, old, are.count))
      ∙ are.each at d old
      ∙ ap count_of (sym (take-append-le at intervals (interval ∷ []) (omega (arith, old)))))
      (λ (new : length intervals ≤ at).
      let last : at ≡ length intervals = omega (arith, within, new, length-append intervals (interval ∷ [])) in
      get_or_push starts start d at (omega (arith, last, are.count))
      ∙ is
      ∙ ap count_of (sym (take-append-le at intervals (interval ∷ []) (omega (arith, last)) ∙ take_all at intervals (omega (arith, last)))))
      (cases_lt at (length intervals));
}
