-- What is kept of the writes to a word, with one position more.
use Rattle.std.proofs.Common.{◌≡◌, ◌∙◌, ◌<◌, ◌≤◌, ◌⊎◌, ◌++◌, ◌∷◌, [], ℕ, List, ap, arith, false, get_or, inl, inr, length, refl, subst, sym, take, true}
use Rattle.std.specs.Prelude.{◌↔◌, ◌&&◌, Bool, Contains, IsTrue, None, Option, Some}
use Rattle.std.specs.BTreeSet as sorted
use Rattle.std.specs.BTreeSet.{BTreeSet}
use Rattle.std.specs.Ordering.{nat_cmp}
use Rattle.std.proofs.lemmas.Bool.{and_parts, cases_eq, cases_lt, false≢true, ne_eqb}
use Rattle.std.specs.List.Sorted.{IsStrictlyIncreasing}
use Rattle.std.proofs.lemmas.List.{get_or-take, get_or_default, length-take-le}
use Rattle.std.proofs.lemmas.List.Elements.{Contains-append_cases, Contains-append_left, Contains-get_or, Contains-push, Contains-push_cases}
use Rattle.std.proofs.lemmas.Map.Keys.{below_from_sorted, sorted_from_strictly_increasing}
use Rattle.lrc_trace.specs.declared.act.Act.{Act}
use Rattle.lrc_trace.specs.declared.act.Deed.TheVariants.{Write}
use Rattle.lrc_trace.specs.Run.{IsDone}
use Rattle.lrc_trace.specs.Order.{HappensBefore}
use Rattle.lrc_trace.proofs.HappensBefore.{forward, transitive}
use Rattle.lrc_trace.proofs.Positions.{Does-one_deed}
use Rattle.lrc_judge.specs.Order.{is_before, IsOrderOf}
use Rattle.lrc_judge.specs.declared.order.Order.{Order}
use Rattle.lrc_judge.proofs.Ascending.{is_eq-nat}
use Rattle.lrc_judge_all.specs.Known.{AreChained, IsKept, IsKeptOf, IsNewTo, IsValueOf}
use Rattle.lrc_judge_all.specs.declared.kept.Kept.{Kept}

-- ---- a set with one number more

pub set_here : (old new : BTreeSet ℕ) (key : ℕ) → sorted.Updates nat_cmp old new key true → IsTrue (sorted.contains nat_cmp new key)
set_here old new key updates = updates.1

pub set_stays : (old new : BTreeSet ℕ) (key v : ℕ) → sorted.Updates nat_cmp old new key true → IsTrue (sorted.contains nat_cmp old v)
    → IsTrue (sorted.contains nat_cmp new v)
set_stays old new key v updates h =
    elim (cases_eq key v) [
      | inl same ↦ subst (λ k. IsTrue (sorted.contains nat_cmp new k)) same updates.1
      | inr other ↦ updates.2 v (is_eq-nat key v ∙ ne_eqb key v other) ∙ h
    ]

pub set_cases : (old new : BTreeSet ℕ) (key v : ℕ) → sorted.Updates nat_cmp old new key true → IsTrue (sorted.contains nat_cmp new v)
    → (key ≡ v) ⊎ IsTrue (sorted.contains nat_cmp old v)
set_cases old new key v updates h =
    elim (cases_eq key v) [
      | inl same ↦ inl same
      | inr other ↦ inr (sym (updates.2 v (is_eq-nat key v ∙ ne_eqb key v other)) ∙ h)
    ]

module _ (run : List Act) (known : List ℕ) (word b value : ℕ) (done : IsDone run b (Write word value)) where
  left : (k : ℕ) → Contains known k → Contains (known ++ b ∷ []) k
  left k h = Contains-append_left known (b ∷ []) k h

  -- ---- what they write

  pub value_left : (v : ℕ) → IsValueOf run known word v → IsValueOf run (known ++ b ∷ []) word v
  value_left v old = record { k = old.k; there = left old.k old.there; done = old.done }

  pub value_here : IsValueOf run (known ++ b ∷ []) word value
  value_here = record { k = b; there = Contains-push known b; done = done }

  pub value_cases : (v : ℕ) → IsValueOf run (known ++ b ∷ []) word v → (value ≡ v) ⊎ IsValueOf run known word v
  value_cases v all =
      elim (Contains-push_cases known b all.k all.there) [
        | inl old ↦ inr (record { k = all.k; there = old; done = all.done })
        | inr same ↦
            let both : Write word value ≡ Write word v = Does-one_deed done.1 (subst (λ m. IsDone run m (Write word v)) (sym same) all.done).1 in
            let values : value ≡ v = cc in
            inl values
      ]

  pub values_with : (old new : BTreeSet ℕ) → sorted.Updates nat_cmp old new value true
      → ((v : ℕ) → IsTrue (sorted.contains nat_cmp old v) ↔ ((v ≡ 0) ⊎ IsValueOf run known word v))
      → (v : ℕ) → IsTrue (sorted.contains nat_cmp new v) ↔ ((v ≡ 0) ⊎ IsValueOf run (known ++ b ∷ []) word v)
  values_with old new updates are v = (
    λ h. elim (set_cases old new value v updates h) [
      | inl same ↦ inr (subst (λ u. IsValueOf run (known ++ b ∷ []) word u) same value_here)
      | inr there ↦ elim ((are v).0 there) [ inl zero ↦ inl zero | inr some ↦ inr (value_left v some) ]
    ],
    λ h. elim h [
      | inl zero ↦ set_stays old new value v updates ((are v).1 (inl zero))
      | inr some ↦
          elim (value_cases v some) [
            | inl same ↦ subst (λ u. IsTrue (sorted.contains nat_cmp new u)) same (set_here old new value updates)
            | inr older ↦ set_stays old new value v updates ((are v).1 (inr older))
          ]
    ],
  )

  -- ---- whether they are ordered

  module _ (last u : ℕ) (there : Contains known last) (writes : IsDone run last (Write word u))
      (most : (k v : ℕ) → Contains known k → IsDone run k (Write word v) → k ≤ last) where
    pub chained-with : AreChained run known word → HappensBefore run last b → AreChained run (known ++ b ∷ []) word
    chained-with chained before i k w v ci di ck dk lt =
        elim (Contains-push_cases known b i ci) [
          | inl ki ↦
              elim (Contains-push_cases known b k ck) [
                | inl kk ↦ chained i k w v ki di kk dk lt
                | inr same ↦
                    subst (λ m. HappensBefore run i m) same
                    (elim (cases_eq i last) [
                      | inl e ↦ subst (λ m. HappensBefore run m b) (sym e) before
                      | inr other ↦
                          let le : i ≤ last = most i w ki di in
                          let less : i < last = omega arith in
                          transitive (chained i last w u ki di there writes less) before
                    ])
              ]
          | inr here ↦
              elim (Contains-push_cases known b k ck) [
                | inl kk ↦
                    let le : k ≤ last = most k v kk dk in
                    let less : last < b = forward before in
                    absurd (omega (arith, here, lt))
                | inr same ↦ absurd (omega (arith, here, same, lt))
              ]
        ]

    pub chained-from : AreChained run (known ++ b ∷ []) word → AreChained run known word
    chained-from all i k w v ci di ck dk lt = all i k w v (left i ci) di (left k ck) dk lt

    pub before-from : IsNewTo run known b → AreChained run (known ++ b ∷ []) word → HappensBefore run last b
    before-from new all =
        elim (cases_lt last b) [
          | inl less ↦ all last b u value (left last there) writes (Contains-push known b) done less
          | inr not_less ↦
              let (apart, later) = new last there in
              let more : b < last = omega (arith, apart) in
              absurd (later (all b last value u (Contains-push known b) done (left last there) writes more))
        ]

    pub ordered_with : (order : Order) (flag : Bool) → IsOrderOf run order → IsNewTo run known b → IsTrue flag ↔ AreChained run known word
        → IsTrue (flag && is_before order last b) ↔ AreChained run (known ++ b ∷ []) word
    ordered_with order flag of new are = (
      λ t. let (f, h) = and_parts flag (is_before order last b) t in chained-with (are.0 f) ((of last b).0 h),
      λ all.
          let f : flag ≡ true = are.1 (chained-from all) in
          let h : is_before order last b ≡ true = (of last b).1 (before-from new all) in
          ap (λ x. x && is_before order last b) f ∙ h,
    )

    -- ---- the last of them

    pub last_stays : b ≤ last → (k v : ℕ) → Contains (known ++ b ∷ []) k → IsDone run k (Write word v) → k ≤ last
    last_stays le k v ck dk =
        elim (Contains-push_cases known b k ck) [ inl kk ↦ most k v kk dk | inr same ↦ omega (arith, le, same) ]

    pub last_here : last < b → (k v : ℕ) → Contains (known ++ b ∷ []) k → IsDone run k (Write word v) → k ≤ b
    last_here less k v ck dk =
        elim (Contains-push_cases known b k ck) [
          | inl kk ↦ let le : k ≤ last = most k v kk dk in omega (arith, less)
          | inr same ↦ omega (arith, same)
        ]

  -- ---- the whole

  pub kept_later : (order : Order) (old new : Kept) → IsOrderOf run order → IsNewTo run known b → IsKeptOf run known word old
      → old.last < b → new.last ≡ b → new.latest ≡ value → new.are_ordered ≡ (old.are_ordered && is_before order old.last b)
      → sorted.Updates nat_cmp old.values new.values value true → IsKeptOf run (known ++ b ∷ []) word new
  kept_later order old new of fresh kept less last_is latest_is ordered_is updates = record {
    there = subst (λ m. Contains (known ++ b ∷ []) m) (sym last_is) (Contains-push known b);
    done = subst (λ m. IsDone run m (Write word new.latest)) (sym last_is) (subst (λ v. IsDone run b (Write word v)) (sym latest_is) done);
    last = λ k v ck dk. subst (λ m. k ≤ m) (sym last_is) (last_here old.last old.latest kept.there kept.done kept.last less k v ck dk);
    ordered = subst (λ f. IsTrue f ↔ AreChained run (known ++ b ∷ []) word) (sym ordered_is)
        (ordered_with old.last old.latest kept.there kept.done kept.last order old.are_ordered of fresh kept.ordered);
    values = values_with old.values new.values updates kept.values;
  }

  pub kept_earlier : (order : Order) (old new : Kept) → IsOrderOf run order → IsNewTo run known b → IsKeptOf run known word old
      → b ≤ old.last → new.last ≡ old.last → new.latest ≡ old.latest → new.are_ordered ≡ (old.are_ordered && is_before order old.last b)
      → sorted.Updates nat_cmp old.values new.values value true → IsKeptOf run (known ++ b ∷ []) word new
  kept_earlier order old new of fresh kept le last_is latest_is ordered_is updates = record {
    there = subst (λ m. Contains (known ++ b ∷ []) m) (sym last_is) (left old.last kept.there);
    done = subst (λ m. IsDone run m (Write word new.latest)) (sym last_is)
        (subst (λ v. IsDone run old.last (Write word v)) (sym latest_is) kept.done);
    last = λ k v ck dk. subst (λ m. k ≤ m) (sym last_is) (last_stays old.last old.latest kept.there kept.done kept.last le k v ck dk);
    ordered = subst (λ f. IsTrue f ↔ AreChained run (known ++ b ∷ []) word) (sym ordered_is)
        (ordered_with old.last old.latest kept.there kept.done kept.last order old.are_ordered of fresh kept.ordered);
    values = values_with old.values new.values updates kept.values;
  }

  -- of one write alone
  pub kept_first : (none zero : BTreeSet ℕ) (new : Kept) → IsKept run known word None → sorted.IsEmpty none
      → sorted.Updates nat_cmp none zero 0 true → sorted.Updates nat_cmp zero new.values value true
      → new.last ≡ b → new.latest ≡ value → new.are_ordered ≡ true → IsKeptOf run (known ++ b ∷ []) word new
  kept_first none zero new nothing empty first second last_is latest_is ordered_is =
      let only : (k v : ℕ) → Contains (known ++ b ∷ []) k → IsDone run k (Write word v) → b ≡ k = λ k v ck dk.
      elim (Contains-push_cases known b k ck) [ inl kk ↦ absurd (nothing v (record { k = k; there = kk; done = dk })) | inr same ↦ same ] in
      record {
        there = subst (λ m. Contains (known ++ b ∷ []) m) (sym last_is) (Contains-push known b);
        done = subst (λ m. IsDone run m (Write word new.latest)) (sym last_is) (subst (λ v. IsDone run b (Write word v)) (sym latest_is) done);
        last = λ k v ck dk. let same : b ≡ k = only k v ck dk in subst (λ m. k ≤ m) (sym last_is) (omega arith);
        ordered = (
          λ t i k u v ci di ck dk lt. let e : b ≡ i = only i u ci di in let f : b ≡ k = only k v ck dk in absurd (omega arith),
          λ chained. ordered_is,
        );
        values = values_with zero new.values second
            (λ v. (
              λ h. elim (set_cases none zero 0 v first h) [
                | inl same ↦ inl (sym same)
                | inr there ↦ absurd (false≢true (subst (λ ks. false ≡ sorted.contains nat_cmp (record { keys = ks }) v) (sym empty) refl ∙ there))
              ],
              λ h. elim h [
                | inl is ↦ subst (λ u. IsTrue (sorted.contains nat_cmp zero u)) (sym is) (set_here none zero 0 first)
                | inr some ↦ absurd (nothing v some)
              ],
            ));
      }

-- ---- the map

-- a position that writes another word, or none
pub kept_same : (run : List Act) (known : List ℕ) (word b : ℕ) (kept : Option Kept) → ((v : ℕ) → IsDone run b (Write word v) → ⊥)
    → IsKept run known word kept → IsKept run (known ++ b ∷ []) word kept
kept_same run known word b None absent none = λ v all.
    elim (Contains-push_cases known b all.k all.there) [
      | inl old ↦ none v (record { k = all.k; there = old; done = all.done })
      | inr same ↦ absent v (subst (λ m. IsDone run m (Write word v)) (sym same) all.done)
    ]
kept_same run known word b (Some kept) absent old = record {
  there = Contains-append_left known (b ∷ []) kept.last old.there;
  done = old.done;
  last = λ k v ck dk.
      elim (Contains-push_cases known b k ck) [
        | inl kk ↦ old.last k v kk dk
        | inr same ↦ absurd (absent v (subst (λ m. IsDone run m (Write word v)) (sym same) dk))
      ];
  ordered = (
    λ t i k u v ci di ck dk lt.
        elim (Contains-push_cases known b i ci) [
          | inl ki ↦
              elim (Contains-push_cases known b k ck) [
                | inl kk ↦ old.ordered.0 t i k u v ki di kk dk lt
                | inr same ↦ absurd (absent v (subst (λ m. IsDone run m (Write word v)) (sym same) dk))
              ]
          | inr same ↦ absurd (absent u (subst (λ m. IsDone run m (Write word u)) (sym same) di))
        ],
    λ all. old.ordered.1 (λ i k u v ci di ck dk lt.
        all i k u v (Contains-append_left known (b ∷ []) i ci) di (Contains-append_left known (b ∷ []) k ck) dk lt),
  );
  values = λ v. (
    λ h. elim ((old.values v).0 h) [
      | inl zero ↦ inl zero
      | inr some ↦ inr (record { k = some.k; there = Contains-append_left known (b ∷ []) some.k some.there; done = some.done })
    ],
    λ h. elim h [
      | inl zero ↦ (old.values v).1 (inl zero)
      | inr all ↦
          elim (Contains-push_cases known b all.k all.there) [
            | inl there ↦ (old.values v).1 (inr (record { k = all.k; there = there; done = all.done }))
            | inr same ↦ absurd (absent v (subst (λ m. IsDone run m (Write word v)) (sym same) all.done))
          ]
    ],
  );
}

-- the next of some ascending positions, behind those before it
pub fresh_more : (run : List Act) (known positions : List ℕ) (i : ℕ) → IsStrictlyIncreasing positions → i < length positions
    → ((k : ℕ) → Contains positions k → IsNewTo run known k) → IsNewTo run (known ++ take i positions) (get_or positions i 0)
fresh_more run known positions i ascending lt fresh k h =
    elim (Contains-append_cases known (take i positions) k h) [
      | inl there ↦ fresh (get_or positions i 0) (Contains-get_or positions i 0 lt) k there
      | inr (m, inside, is) ↦
          let long : length (take i positions) ≡ i = length-take-le i positions (omega (arith, lt)) in
          let below : m < i = omega (arith, inside, long) in
          let at : get_or positions m k ≡ k = sym (get_or-take i positions m k below) ∙ is in
          let same : get_or positions m k ≡ get_or positions m 0 = get_or_default positions m k 0 (omega (arith, below, lt)) in
          let less : get_or positions m 0 < get_or positions i 0 =
          below_from_sorted positions m i 0 (sorted_from_strictly_increasing positions ascending) below lt in
          (λ e. omega (arith, at, same, less, e), λ before. let f = forward before in omega (arith, at, same, less, f))
    ]
