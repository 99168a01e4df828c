-- Keys that are missing may be asked for.
use Rattle.std.proofs.Common.{⊎_elim, ◌≡◌, ◌≢◌, ℕ, ◌<◌, ◌≤◌, Bool, true, List, [], map, length, get_or, sym, ap, ◌∙◌, subst, arith}
use Rattle.std.specs.Prelude.{not, ◌==◌}
use Rattle.std.specs.List.{Contains, filter, list_any}
use Rattle.std.proofs.lemmas.Bool.{true≢false, and_parts, not-true, leb-false, cases_order}
use Rattle.std.proofs.lemmas.List.{length-map, get_or-map, get_or_default}
use Rattle.std.proofs.lemmas.List.Elements.{All-filter, Contains-get_or}
use Rattle.std.proofs.lemmas.List.Kept.{AllPairs-filter}
use Rattle.lrc_time.specs.Time.{entry, knows}
use Rattle.lrc_store.specs.declared.key.Key.{Key}
use Rattle.lrc_store.specs.Interval.{IntervalRecord, index_of, by_weight}
use Rattle.lrc_store.specs.Store.{StoreRecord, IsStore, IsMissing, intervals_of, is_missing, key_of}
use Rattle.lrc_store.proofs.Ranks.{IsStrictWeakOrder-by_weight}
use Rattle.lrc_need.specs.Need.{AreAskable}

-- some of them may be asked for, if all may
pub filter-AreAskable : (test : Key → Bool) (keys : List Key) → AreAskable keys → AreAskable (filter test keys)
filter-AreAskable test keys are = record {
  begun = All-filter test (λ (key : Key). 1 ≤ key.index) keys are.begun;
  once = AllPairs-filter (λ (a b : Key). a.node ≡ b.node → a.index ≢ b.index) test keys are.once;
}

-- two stored intervals of one node and index are one
one_place : (store : StoreRecord) (a b : IntervalRecord) → IsStore store → Contains (intervals_of store) a → Contains (intervals_of store) b
    → a.node ≡ b.node → index_of a ≡ index_of b → a ≡ b
one_place store a b sound at_a at_b nodes indices =
    let xs = intervals_of store in
    let i = at_a.0 in
    let j = at_b.0 in
    let is_a : get_or xs i a ≡ a = at_a.2 in
    let is_b : get_or xs j b ≡ b = at_b.2 in
    let also_b : get_or xs j a ≡ b = get_or_default xs j a b at_b.1 ∙ is_b in
    let also_a : get_or xs i b ≡ a = get_or_default xs i b a at_a.1 ∙ is_a in
    ⊎_elim
    (λ same. sym is_a ∙ ap (λ k. get_or xs k a) same ∙ also_b)
    (λ other. ⊎_elim
    (λ below.
    let rises = sound.ascending i j a below at_b.1 (ap (λ (x : IntervalRecord). x.node) is_a ∙ nodes ∙ ap (λ (x : IntervalRecord). x.node) (sym also_b)) in
    let at_i : index_of (get_or xs i a) ≡ index_of a = ap index_of is_a in
    let at_j : index_of (get_or xs j a) ≡ index_of b = ap index_of also_b in
    absurd (omega (arith, rises, at_i, at_j, indices)))
    (λ above.
    let rises = sound.ascending j i b above at_a.1 (ap (λ (x : IntervalRecord). x.node) is_b ∙ sym nodes ∙ ap (λ (x : IntervalRecord). x.node) (sym also_a)) in
    let at_j : index_of (get_or xs j b) ≡ index_of b = ap index_of is_b in
    let at_i : index_of (get_or xs i b) ≡ index_of a = ap index_of also_a in
    absurd (omega (arith, rises, at_i, at_j, indices)))
    other)
    (cases_order i j)

-- what is missing begins at 1
begun : (page : ℕ) (since : List ℕ) (interval : IntervalRecord) → is_missing page since interval ≡ true → 1 ≤ index_of interval
begun page since interval missing =
    let unknown = (and_parts (list_any (λ named. named == page) interval.pages) (not (knows since interval.node (index_of interval))) missing).1 in
    let above : entry since interval.node < index_of interval =
    leb-false (index_of interval) (entry since interval.node) (not-true (knows since interval.node (index_of interval)) unknown) in
    omega (arith, above)

pub missing-AreAskable : (store : StoreRecord) (page : ℕ) (since : List ℕ) (found : List Key) → IsStore store → IsMissing store page since found
    → AreAskable found
missing-AreAskable store page since found sound missing =
    let intervals = missing.0 in
    let part = missing.1 in
    let test = is_missing page since in
    let of : IntervalRecord → Key = key_of page in
    let none : IntervalRecord = record { node = 0; stamp = []; pages = [] } in
    let at : (k : ℕ) (d : Key) → k < length intervals → get_or (map of intervals) k d ≡ of (get_or intervals k none) =
    λ k d lt. get_or-map of intervals k none d lt in
    let long : length (map of intervals) ≡ length intervals = length-map intervals of in
    subst AreAskable (sym missing.2) (record {
      begun = λ k d lt.
          let within : k < length intervals = omega (arith, lt, long) in
          let a = get_or intervals k none in
          subst (λ (key : Key). 1 ≤ key.index) (sym (at k d within)) (begun page since a ((part.exactly a).0 (Contains-get_or intervals k none within)).1);
      once = λ i j d less lt nodes indices.
          let j_in : j < length intervals = omega (arith, lt, long) in
          let i_in : i < length intervals = omega (arith, less, j_in) in
          let a = get_or intervals i none in
          let b = get_or intervals j none in
          let same : a ≡ b =
          one_place store a b sound ((part.exactly a).0 (Contains-get_or intervals i none i_in)).0
          ((part.exactly b).0 (Contains-get_or intervals j none j_in)).0
          (ap (λ (key : Key). key.node) (sym (at i d i_in)) ∙ nodes ∙ ap (λ (key : Key). key.node) (at j d j_in))
          (ap (λ (key : Key). key.index) (sym (at i d i_in)) ∙ indices ∙ ap (λ (key : Key). key.index) (at j d j_in)) in
          let before : by_weight a b ≡ true = part.ascending i j none less j_in in
          let itself : by_weight a a ≡ true = subst (λ (x : IntervalRecord). by_weight a x ≡ true) (sym same) before in
          true≢false (sym itself ∙ IsStrictWeakOrder-by_weight.one_way a a itself);
    })
