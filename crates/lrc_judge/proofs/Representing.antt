-- The first accesses of intervals stand for the others.
use Rattle.std.proofs.Common.{◌≡◌, ℕ, zero, suc, ◌+◌, ◌<◌, ◌≤◌, ◌⊎◌, ◌++◌, List, [], ◌∷◌, length, get_or, inl, inr, refl, sym, subst, ◌∙◌, ap, arith}
use Rattle.std.specs.Prelude.{◌≢◌, not, true, Some, Contains, slice_get, slice_index}
use Rattle.std.specs.List.Sorted.{IsStrictlySortedBy}
use Rattle.std.specs.declared.cmp.Ordering.TheVariants.{Less}
use Rattle.std.proofs.lemmas.Bool.{cases_eq, cases_lt, cases_Bool}
use Rattle.std.proofs.lemmas.List.{length_push}
use Rattle.std.proofs.lemmas.Option.{slice_get_within, slice_get-get_or, get_or_from_slice_get, same_Some}
use Rattle.std.proofs.lemmas.Map.Keys.{Less-from_sorted, sorted_from_all_adjacent}
use Rattle.lrc_trace.specs.declared.act.Act.{Act}
use Rattle.lrc_trace.specs.declared.act.Deed.{Deed}
use Rattle.lrc_trace.specs.declared.act.Deed.TheVariants.{Read, Write, Release, Arrive}
use Rattle.lrc_trace.specs.Run.{Does}
use Rattle.lrc_trace.specs.Order.{Precedes, program, lock, barrier, HappensBefore, base, further}
use Rattle.lrc_trace.specs.Conflict.{Accesses}
use Rattle.lrc_trace.specs.Interval.{closes, interval_at}
use Rattle.lrc_trace.proofs.Positions.{slice_get-front, slice_get-seam, Does-one_node, Does-one_deed}
use Rattle.lrc_trace.proofs.HappensBefore.{forward}
use Rattle.lrc_trace.proofs.Intervals.{same_then_none}
use Rattle.lrc_judge.specs.declared.entries.Told.{Told}
use Rattle.lrc_judge.specs.declared.lanes.Entry.{Entry}
use Rattle.lrc_judge.specs.Adding.{Adds}
use Rattle.lrc_judge.specs.Firsts.{AreIntervals, AreAlike, IsFirstAt, AreFirsts, AreFirstEntries}
use Rattle.lrc_judge.specs.Lanes.{entry, entry_cmp, IsEntry, AreEntries}
use Rattle.lrc_judge.proofs.Additions.{IsBelow, adds-same, adds-iff, adds-push, below-more}
use Rattle.lrc_judge.proofs.Searching.{entry_total, entry_less, lane_irreflexive, lane_eq, lane_agrees, lane_differs}

-- ---- the intervals, one position further

pub intervals-more : (run : List Act) (n node : ℕ) (deed : Deed) (xs zs : List ℕ) (interval : ℕ) → Does run n node deed → interval ≡ interval_at run node n
    → zs ≡ xs ++ interval ∷ [] → AreIntervals run n xs → AreIntervals run (n + 1) zs
intervals-more run n node deed xs zs interval here is pushed old = record {
  long = ap length pushed ∙ length_push xs interval ∙ ap (λ m. m + 1) old.long;
  each = λ k q d lt does.
      let long = old.long in
      elim (cases_eq k n) [
        | inl same ↦
            let at : k ≡ length xs = same ∙ sym long in
            let seam : get_or (xs ++ interval ∷ []) (length xs) 0 ≡ interval = get_or_from_slice_get _ (length xs) interval 0 (slice_get-seam xs interval []) in
            let nodes : q ≡ node = Does-one_node (subst (λ m. Does run m q d) same does) here in
            rw (pushed, at) (seam ∙ is ∙ ap (λ m. interval_at run m n) (sym nodes) ∙ ap (λ m. interval_at run q m) (sym same ∙ at))
        | inr other ↦
            let within : k < length xs = omega arith in
            let front : get_or (xs ++ interval ∷ []) k 0 ≡ get_or xs k 0 =
            get_or_from_slice_get _ k (get_or xs k 0) 0 (slice_get-front xs (interval ∷ []) k within ∙ slice_get-get_or xs k 0 within) in
            rw pushed (front ∙ old.each k q d (omega arith) does)
      ];
}

-- ---- the first ones, one index further

module _ (entries : List Entry) (intervals : List ℕ) (in_order : IsStrictlySortedBy entry_cmp entries) where
  abbrev pub AreRising : List Entry → Type 0
  AreRising firsts = (i j : ℕ) (d : Entry) → i < j → j < length firsts → entry_cmp (get_or firsts i d) (get_or firsts j d) ≡ Less

  pub firsts-same : (firsts : List Entry) (n : ℕ) → ((e : Entry) → IsFirstAt entries intervals n e → ⊥)
      → Adds [] firsts (IsBelow (IsFirstAt entries intervals) n) → Adds [] firsts (IsBelow (IsFirstAt entries intervals) (n + 1))
  firsts-same firsts n none adds = below-more (IsFirstAt entries intervals) [] firsts firsts n adds (adds-same firsts (IsFirstAt entries intervals n) none)

  module _ (firsts more : List Entry) (n : ℕ) (e : Entry) (is : slice_get entries n ≡ Some e) (pushed : more ≡ firsts ++ e ∷ [])
      (adds : Adds [] firsts (IsBelow (IsFirstAt entries intervals) n)) where
    pub firsts-more : IsFirstAt entries intervals n e → Adds [] more (IsBelow (IsFirstAt entries intervals) (n + 1))
    firsts-more first = below-more (IsFirstAt entries intervals) [] firsts more n adds
        (adds-iff firsts more (λ x. x ≡ e) (IsFirstAt entries intervals n)
        (λ x same. subst (λ y. IsFirstAt entries intervals n y) (sym same) first)
        (λ x f. same_Some x e (sym f.is ∙ is)) (adds-push firsts more e pushed))

    pub rising-more : AreRising firsts → AreRising more
    rising-more old i j d lt within =
        let long = ap length pushed ∙ length_push firsts e in
        let i_in : i < length firsts = omega arith in
        let x = get_or firsts i d in
        let at_i : get_or more i d ≡ x =
        rw pushed (get_or_from_slice_get _ i x d (slice_get-front firsts (e ∷ []) i i_in ∙ slice_get-get_or firsts i d i_in)) in
        elim (cases_eq j (length firsts)) [
          | inl last ↦
              let at_j : get_or more j d ≡ e = rw (pushed, last) (get_or_from_slice_get _ (length firsts) e d (slice_get-seam firsts e [])) in
              let has : Contains firsts x = (i, i_in, get_or_from_slice_get firsts i x x (slice_get-get_or firsts i d i_in)) in
              elim ((adds.exact x).0 has) [
                | inl (k, below, _) ↦ absurd (omega arith)
                | inr (k, below, f) ↦
                    let in_run = slice_get_within entries n e is in
                    let less = Less-from_sorted entry_cmp entries k n d in_order below in_run in
                    let first : get_or entries k d ≡ x = get_or_from_slice_get entries k x d f.is in
                    let second : get_or entries n d ≡ e = get_or_from_slice_get entries n e d is in
                    rw (at_i, at_j, ← first, ← second) less
              ]
          | inr other ↦
              let j_in : j < length firsts = omega arith in
              let at_j : get_or more j d ≡ get_or firsts j d =
              rw pushed (get_or_from_slice_get _ j (get_or firsts j d) d (slice_get-front firsts (e ∷ []) j j_in ∙ slice_get-get_or firsts j d j_in)) in
              rw (at_i, at_j) (old i j d lt j_in)
        ]

  pub firsts-all : (firsts : List Entry) (n : ℕ) → length entries ≤ n → AreRising firsts → Adds [] firsts (IsBelow (IsFirstAt entries intervals) n)
      → AreFirsts entries intervals firsts
  firsts-all firsts n all rise adds = record {
    in_order = sorted_from_all_adjacent entry_total firsts (record { lane = record { word = 0; value = 0; node = 0 }; position = 0 })
        (λ k lt. rise k (k + 1) _ (omega arith) lt);
    exact = λ e. (
      λ h. elim ((adds.exact e).0 h) [ inl (k, lt, _) ↦ absurd (omega arith) | inr (k, lt, f) ↦ (k, f) ],
      λ (k, f). let within = slice_get_within entries k e f.is in (adds.exact e).1 (inr (k, omega arith, f)),
    );
  }

  -- an entry alike, and the first of them, for each entry
  pub record IsRepresented (firsts : List Entry) (e : Entry) : Type 0 where
    pub first : Entry
    pub there : Contains firsts first
    pub lane : first.lane ≡ e.lane
    pub earlier : first.position ≤ e.position
    pub interval : slice_index intervals first.position ≡ slice_index intervals e.position

  module _ (firsts : List Entry) (are : AreFirsts entries intervals firsts) where
    pub represented : (k : ℕ) (e : Entry) → slice_get entries k ≡ Some e → IsRepresented firsts e
    represented zero e is = record {
      first = e;
      there = (are.exact e).1 (zero, record { is = is; fresh = λ m a at there alike. omega arith });
      lane = refl;
      earlier = omega arith;
      interval = refl;
    }
    represented (suc m) e is =
        let within = slice_get_within entries (suc m) e is in
        let a = get_or entries m e in
        let a_is : slice_get entries m ≡ Some a = slice_get-get_or entries m e (omega arith) in
        let fresh : (AreAlike intervals a e → ⊥) → IsRepresented firsts e = λ unlike. record {
          first = e;
          there = (are.exact e).1 (
            suc m,
            record {
              is = is;
              fresh = λ k b at there alike.
                  let index : k ≡ m = omega arith in
                  let same : b ≡ a = same_Some b a (sym (subst (λ i. slice_get entries i ≡ Some b) index there) ∙ a_is) in
                  unlike (subst (λ x. AreAlike intervals x e) same alike);
            },
          );
          lane = refl;
          earlier = omega arith;
          interval = refl;
        } in
        elim (cases_Bool (lane_eq a.lane e.lane)) [
          | inr differ ↦ fresh (λ alike. lane_differs a.lane e.lane (ap not (sym differ)) alike.lane)
          | inl agree ↦
              let lanes : a.lane ≡ e.lane = lane_agrees a.lane e.lane (ap not (sym agree)) in
              elim (cases_eq (slice_index intervals a.position) (slice_index intervals e.position)) [
                | inr apart ↦ fresh (λ alike. apart alike.interval)
                | inl same ↦
                    let r = represented m a a_is in
                    let less = Less-from_sorted entry_cmp entries m (suc m) e in_order (omega arith) within in
                    let here : get_or entries (suc m) e ≡ e = get_or_from_slice_get entries (suc m) e e is in
                    let before : a.position < e.position = elim (entry_less a e (subst (λ x. entry_cmp a x ≡ Less) here less)) [
                      | inl below ↦ absurd (lane_irreflexive a.lane e.lane below lanes)
                      | inr (_, lower) ↦ lower
                    ] in
                    let le = r.earlier in
                    record {
                      first = r.first;
                      there = r.there;
                      lane = r.lane ∙ lanes;
                      earlier = omega (arith, before, le);
                      interval = r.interval ∙ same;
                    }
              ]
        ]

-- ---- acts that an access happens before, as its interval goes

access_deed : {run : List Act} {i p w : ℕ} → Accesses run i p w → (d : Deed) → Does run i p d → (closes d ≡ true) → ⊥
access_deed {w = w} (inl (v, h)) d does c = let e : Read w v ≡ d = Does-one_deed h does in let never : ⊥ = cc in never
access_deed {w = w} (inr (v, h)) d does c = let e : Write w v ≡ d = Does-one_deed h does in let never : ⊥ = cc in never

pub access_does : {run : List Act} {i p w : ℕ} → Accesses run i p w → (d : Deed) × Does run i p d
access_does {w = w} (inl (v, h)) = (Read w v, h)
access_does {w = w} (inr (v, h)) = (Write w v, h)

module _ (run : List Act) (a b p v w : ℕ) (first : Accesses run a p v) (second : Accesses run b p w) (lt : a < b)
    (same : interval_at run p a ≡ interval_at run p b) where
  -- a closing act of the node at or after a stands after b
  closes_after : (j : ℕ) (d : Deed) → a < j → Does run j p d → closes d ≡ true → HappensBefore run b j
  closes_after j d after does c =
      elim (cases_lt b j) [
        | inl later ↦ base (program later (access_does second).1 does)
        | inr le ↦
            elim (cases_eq j b) [
              | inl at ↦ absurd (access_deed second d (subst (λ m. Does run m p d) at does) c)
              | inr other ↦ absurd (same_then_none run p a b same j d (omega arith) (omega arith) does c)
            ]
      ]

  pub leaves : (k : ℕ) → HappensBefore run a k → ((d : Deed) × Does run k p d) ⊎ HappensBefore run b k
  leaves k (base (program {node = q} {a = x} {b = d} before does_a does_k)) =
      let (e, here) = access_does first in
      let nodes : q ≡ p = Does-one_node does_a here in
      inl (d, subst (λ n. Does run k n d) nodes does_k)
  leaves k (base (lock {p = q} {l = l} before does_a does_k)) =
      let (e, here) = access_does first in
      absurd (access_deed first (Release l) (subst (λ n. Does run a n (Release l)) (Does-one_node does_a here) does_a) refl)
  leaves k (base (barrier {p = q} before does_a does_k count)) =
      let (e, here) = access_does first in
      absurd (access_deed first Arrive (subst (λ n. Does run a n Arrive) (Does-one_node does_a here) does_a) refl)
  leaves k (further {j = j} h step) = onward j k (forward h) (leaves j h) step
    where
      onward : (j k : ℕ) → a < j → ((d : Deed) × Does run j p d) ⊎ HappensBefore run b j → Precedes run j k
          → ((d : Deed) × Does run k p d) ⊎ HappensBefore run b k
      onward j k after (inr before) step = inr (further before step)
      onward j k after (inl (d, does)) (program {node = q} {b = e} below does_j does_k) =
          inl (e, subst (λ n. Does run k n e) (Does-one_node does_j does) does_k)
      onward j k after (inl (d, does)) (lock {p = q} {l = l} below does_j does_k) =
          inr (further (closes_after j (Release l) after (subst (λ n. Does run j n (Release l)) (Does-one_node does_j does) does_j) refl)
          (lock below does_j does_k))
      onward j k after (inl (d, does)) (barrier {p = q} below does_j does_k count) =
          inr (further (closes_after j Arrive after (subst (λ n. Does run j n Arrive) (Does-one_node does_j does) does_j) refl)
          (barrier below does_j does_k count))

-- of accesses of two nodes, earlier ones in the same intervals are unordered where these are
pub unordered_too : (run : List Act) (i i' j j' p q v w x y : ℕ) → p ≢ q → Accesses run i p v → Accesses run i' p w → Accesses run j q x → Accesses run j' q y
    → i' ≤ i → interval_at run p i' ≡ interval_at run p i → j' ≤ j → (HappensBefore run i j → ⊥) → HappensBefore run i' j' → ⊥
unordered_too run i i' j j' p q v w x y apart at_i at_i' at_j at_j' le same le' unordered before =
    let (d, does_j) = access_does at_j in
    let (d', does_j') = access_does at_j' in
    let to_j : HappensBefore run i' j = elim (cases_eq j' j) [
      | inl here ↦ subst (λ m. HappensBefore run i' m) here before
      | inr other ↦ further before (program (omega arith) does_j' does_j)
    ] in
    elim (cases_eq i' i) [
      | inl here ↦ unordered (subst (λ m. HappensBefore run m j) here to_j)
      | inr other ↦
          elim (leaves run i' i p w v at_i' at_i (omega arith) same j to_j) [
            | inl (e, own) ↦ apart (Does-one_node own does_j)
            | inr from ↦ unordered from
          ]
    ]

-- ---- the first accesses of a run

pub first_entries-of : (run : List Act) (told : Told) (entries : List Entry) (intervals : List ℕ) (firsts : List Entry) → AreEntries (IsEntry run told) entries
    → AreFirsts entries intervals firsts → AreFirstEntries run told intervals firsts
first_entries-of run told entries intervals firsts are first = record {
  in_order = first.in_order;
  sound = λ lane i h.
      let (k, f) = (first.exact (entry lane i)).0 h in
      let within = slice_get_within entries k (entry lane i) f.is in
      (are.exact lane i).0 (k, within, get_or_from_slice_get entries k (entry lane i) (entry lane i) f.is);
  complete = λ lane i e.
      let (k, within, is) = (are.exact lane i).1 e in
      let there : slice_get entries k ≡ Some (entry lane i) = slice_get-get_or entries k (entry lane i) within ∙ ap (λ x. Some x) is in
      let r = represented entries intervals are.in_order firsts first k (entry lane i) there in
      let here : r.first ≡ entry lane r.first.position = subst (λ l. r.first ≡ entry l r.first.position) r.lane refl in
      (r.first.position, subst (λ x. Contains firsts x) here r.there, r.earlier, r.interval);
}
