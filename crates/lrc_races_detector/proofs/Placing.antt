-- An access more in a row: in the entry of its thread, or behind all others.
use Rattle.std.proofs.Common.{◌≡◌, ◌≢◌, ℕ, suc, ◌+◌, ◌<◌, ◌≤◌, List, [], ◌∷◌, ◌++◌, length, get_or, set, take, drop, inl, inr, refl, sym, subst, ◌∙◌}
use Rattle.std.proofs.Common.{ap, ap₂, arith, append_assoc, take-append-drop, drop-cons}
use Rattle.std.specs.Prelude.{Option, Some, None, Bool, AllPairs, Contains, insert, option_map, option_to_list, slice_get}
use Rattle.std.proofs.lemmas.Bool.{cases_eq}
use Rattle.std.proofs.lemmas.Option.{same_Some}
use Rattle.std.proofs.lemmas.List.{get_or-take, get_or-drop, length-take-le, length-drop}
use Rattle.std.proofs.lemmas.List.Elements.{All-append, All-cons, All-contains, All-drop, All-take, Contains-append_right, Contains-append_cases}
use Rattle.lrc_races_trace.specs.declared.event.Placed.{Placed}
use Rattle.lrc_races_detector.specs.declared.places.Place.{Place}
use Rattle.lrc_races_detector.specs.declared.variables.Last.{Last}
use Rattle.lrc_races_detector.specs.Placed.{row_in, AreKept, IsKeptAt, IsPlace}
use Rattle.lrc_races_detector.specs.Variables.{thread_of, noted, IsNotedAt}
use Rattle.lrc_races_detector.proofs.Pairs.{contained_at, pairs-append, pairs-left, pairs-right, pairs-cross}
use Rattle.lrc_races_detector.proofs.Pushing.{slice_get-push_new, slice_get-push_old, slice_get-set_other, slice_get-set_same, within_some}

-- ---- the entries at some places

pub row-append : (lasts : List Last) (xs ys : List Place) → row_in lasts (xs ++ ys) ≡ row_in lasts xs ++ row_in lasts ys
row-append lasts [] ys = refl
row-append lasts (x ∷ xs) ys =
    let one = option_to_list (slice_get lasts x.index) in
    ap (λ r. one ++ r) (row-append lasts xs ys) ∙ sym (append_assoc one (row_in lasts xs) (row_in lasts ys))

row-same : (lasts after : List Last) (order : List Place) → ((place : Place) → Contains order place → slice_get after place.index ≡ slice_get lasts place.index)
    → row_in after order ≡ row_in lasts order
row-same lasts after [] same = refl
row-same lasts after (x ∷ xs) same =
    ap₂ (λ (o : Option Last) (r : List Last). option_to_list o ++ r) (same x (0, omega arith, refl))
    (row-same lasts after xs (λ place h. same place (Contains-append_right (x ∷ []) xs place h)))

only : {X : Type 0} (x y : X) → Contains (x ∷ []) y → x ≡ y
only x y (k, lt, e) = elim (cases_eq k 0) [ inl z ↦ sym (ap (λ i. get_or (x ∷ []) i y) z) ∙ e | inr other ↦ absurd (omega arith) ]

held_one : (o : Option Last) (last : Last) → Contains (option_to_list o) last → o ≡ Some last
held_one (Some x) last h = ap Some (only x last h)
held_one None last (k, lt, e) = absurd (omega arith)

row-member : (lasts : List Last) (order : List Place) (last : Last) → Contains (row_in lasts order) last
    → (place : Place) × Contains order place × (slice_get lasts place.index ≡ Some last)
row-member lasts [] last (k, lt, is) = absurd (omega arith)
row-member lasts (x ∷ xs) last h =
    elim (Contains-append_cases (option_to_list (slice_get lasts x.index)) (row_in lasts xs) last h) [
      | inl one ↦ (x, (0, omega arith, refl), held_one (slice_get lasts x.index) last one)
      | inr more ↦
          let (place, in_xs, at) = row-member lasts xs last more in
          (place, Contains-append_right (x ∷ []) xs place in_xs, at)
    ]

found : (o : Option Last) (t : ℕ) → option_map thread_of o ≡ Some t → (last : Last) × (o ≡ Some last) × (thread_of last ≡ t)
found (Some last) t e = (last, refl, same_Some (thread_of last) t e)
found None t e = let never : ⊥ = cc in absurd never

kept_by : (o : Option Last) (t : ℕ) (last : Last) → o ≡ Some last → thread_of last ≡ t → option_map thread_of o ≡ Some t
kept_by o t last e of = ap (λ x. option_map thread_of x) e ∙ ap Some of

-- ---- parts of the places

in_front : (order : List Place) (at : ℕ) → at ≤ length order → (place : Place) → Contains (take at order) place
    → (k : ℕ) × (k < at) × (get_or order k place ≡ place)
in_front order at within place (k, lt, is) =
    let long = length-take-le at order within in
    let k_in : k < at = omega arith in
    (k, k_in, sym (get_or-take at order k place k_in) ∙ is)

in_back : (order : List Place) (skip : ℕ) (place : Place) → Contains (drop skip order) place
    → (k : ℕ) × (skip ≤ k) × (k < length order) × (get_or order k place ≡ place)
in_back order skip place (k, lt, is) =
    let long = length-drop skip order in
    (skip + k, omega arith, omega arith, sym (get_or-drop skip order k place) ∙ is)

pairs-insert : {X : Type 0} (R : X → X → Type 0) (xs : List X) (at : ℕ) (y : X) → AllPairs R xs
    → ((x : X) → Contains (take at xs) x → R x y) → ((x : X) → Contains (drop at xs) x → R y x) → AllPairs R (insert xs at y)
pairs-insert R xs at y old before behind =
    let all : AllPairs R (take at xs ++ drop at xs) = subst (AllPairs R) (sym (take-append-drop at xs)) old in
    pairs-append R (take at xs) (y ∷ drop at xs) (pairs-left R (take at xs) (drop at xs) all)
    (pairs-append R (y ∷ []) (drop at xs) (λ i j d lt within. absurd (omega arith)) (pairs-right R (take at xs) (drop at xs) all)
    (λ p q in_p in_q. subst (λ z. R z q) (only y p in_p) (behind q in_q)))
    (λ p q in_p in_q.
    elim (Contains-append_cases (y ∷ []) (drop at xs) q in_q) [
      | inl one ↦ subst (λ z. R p z) (only y q one) (before p in_p)
      | inr more ↦ pairs-cross R (take at xs) (drop at xs) p q all in_p more
    ])

module _ (lasts : List Last) (order : List Place) (are : AreKept lasts order) where
  thread_at : (place : Place) (last : Last) → Contains order place → slice_get lasts place.index ≡ Some last → thread_of last ≡ place.thread
  thread_at place last h e =
      let (other, at, of) = found (slice_get lasts place.index) place.thread (All-contains (IsKeptAt lasts) order place are.kept h) in
      ap thread_of (same_Some last other (sym e ∙ at)) ∙ of

  pub index_within : (place : Place) → Contains order place → place.index < length lasts
  index_within place h =
      let (other, at, of) = found (slice_get lasts place.index) place.thread (All-contains (IsKeptAt lasts) order place are.kept h) in
      within_some lasts place.index other at

  below : (at t : ℕ) → at ≤ length order → ((k : ℕ) (d : Place) → k < at → (get_or order k d).thread < t)
      → (last : Last) → Contains (row_in lasts (take at order)) last → thread_of last < t
  below at t within low last h =
      let (place, in_take, e) = row-member lasts (take at order) last h in
      let (k, k_in, same) = in_front order at within place in_take in
      let lower = low k place k_in in
      let of = thread_at place last (k, omega arith, same) e in
      let thread : (get_or order k place).thread ≡ place.thread = ap (λ (p : Place). p.thread) same in
      omega arith

  above : (skip t : ℕ) → ((k : ℕ) (d : Place) → skip ≤ k → k < length order → t < (get_or order k d).thread)
      → (last : Last) → Contains (row_in lasts (drop skip order)) last → t < thread_of last
  above skip t high last h =
      let (place, in_drop, e) = row-member lasts (drop skip order) last h in
      let (k, k_past, k_in, same) = in_back order skip place in_drop in
      let higher = high k place k_past k_in in
      let of = thread_at place last (k, k_in, same) e in
      let thread : (get_or order k place).thread ≡ place.thread = ap (λ (p : Place). p.thread) same in
      omega arith

  -- ---- the thread has an entry

  module _ (at : ℕ) (lt : at < length order) (place : Place) (is : (d : Place) → place ≡ get_or order at d) (placed : Placed) (w : Bool)
      (own : place.thread ≡ placed.event.thread) (x : Last) (e : slice_get lasts place.index ≡ Some x) where
    abbrev again : Last
    again = noted (Some x) placed w

    abbrev changed : List Last
    changed = set lasts place.index again

    in_order : Contains order place
    in_order = (at, lt, sym (is place))

    split : order ≡ take at order ++ place ∷ drop (suc at) order
    split =
        sym (take-append-drop at order) ∙ ap (λ r. take at order ++ r) (drop-cons order at place lt)
        ∙ ap (λ z. take at order ++ z ∷ drop (suc at) order) (sym (is place))

    front_other : (p : Place) → Contains (take at order) p → p.index ≢ place.index
    front_other p h same =
        let (k, k_in, at_k) = in_front order at (omega arith) p h in
        are.apart k at p k_in lt (ap (λ (q : Place). q.index) at_k ∙ same ∙ ap (λ (q : Place). q.index) (is p))

    back_other : (p : Place) → Contains (drop (suc at) order) p → p.index ≢ place.index
    back_other p h same =
        let (k, k_past, k_in, at_k) = in_back order (suc at) p h in
        are.apart at k p (omega arith) k_in (sym (ap (λ (q : Place). q.index) (is p)) ∙ sym same ∙ sym (ap (λ (q : Place). q.index) at_k))

    same_other : (p : Place) → p.index ≢ place.index → slice_get changed p.index ≡ slice_get lasts p.index
    same_other p other = slice_get-set_other lasts place.index again p.index other

    at_place : slice_get changed place.index ≡ Some again
    at_place = slice_get-set_same lasts place.index again (index_within place in_order)

    pub noted_again : IsNotedAt (row_in lasts order) (row_in changed order) placed w
    noted_again =
        let front = row_in lasts (take at order) in
        let back = row_in lasts (drop (suc at) order) in
        record {
          front = front;
          old = Some x;
          back = back;
          was = ap (row_in lasts) split ∙ row-append lasts (take at order) (place ∷ drop (suc at) order)
              ∙ ap (λ (o : Option Last). front ++ (option_to_list o ++ back)) e;
          is = ap (row_in changed) split ∙ row-append changed (take at order) (place ∷ drop (suc at) order)
              ∙ ap₂ (λ (f b : List Last). f ++ b) (row-same lasts changed (take at order) (λ p h. same_other p (front_other p h)))
              (ap₂ (λ (o : Option Last) (b : List Last). option_to_list o ++ b) at_place
              (row-same lasts changed (drop (suc at) order) (λ p h. same_other p (back_other p h))));
          below = below at placed.event.thread (omega arith)
              (λ k d k_in. let less = are.ordered k at d k_in lt in let same = ap (λ (q : Place). q.thread) (is d) in omega arith);
          own = λ last same. ap thread_of (sym (same_Some x last same)) ∙ thread_at place x in_order e ∙ own;
          above = above (suc at) placed.event.thread
              (λ k d past k_in. let less = are.ordered at k d (omega arith) k_in in let same = ap (λ (q : Place). q.thread) (is d) in omega arith);
        }

    pub kept_again : AreKept changed order
    kept_again = record {
      ordered = are.ordered;
      apart = are.apart;
      kept = λ k d k_in.
          let p = get_or order k d in
          let in_p = contained_at order k d k_in in
          let old = are.kept k d k_in in
          elim (cases_eq p.index place.index) [
            | inl same ↦
                kept_by (slice_get changed p.index) p.thread again (ap (λ i. slice_get changed i) same ∙ at_place)
                (sym own ∙ sym (thread_at place x in_order e) ∙ thread_at p x in_p (ap (λ i. slice_get lasts i) same ∙ e))
            | inr other ↦ ap (λ o. option_map thread_of o) (same_other p other) ∙ old
          ];
    }

  -- ---- it has none

  module _ (placed : Placed) (w : Bool) where
    abbrev first : Last
    first = noted None placed w

    abbrev longer : List Last
    longer = lasts ++ first ∷ []

    same_longer : (p : Place) → Contains order p → slice_get longer p.index ≡ slice_get lasts p.index
    same_longer p h = slice_get-push_old lasts first p.index (index_within p h)

    pub kept_longer : AreKept longer order
    kept_longer = record {
      ordered = are.ordered;
      apart = are.apart;
      kept = λ k d k_in.
          ap (λ o. option_map thread_of o) (same_longer (get_or order k d) (contained_at order k d k_in)) ∙ are.kept k d k_in;
    }

    module _ (at : ℕ) (place : IsPlace order placed.event.thread at)
        (apart : (d : Place) → at < length order → (get_or order at d).thread ≡ placed.event.thread → ⊥)
        (new : Place) (own : new.thread ≡ placed.event.thread) (index : new.index ≡ length lasts) where
      higher : (k : ℕ) (d : Place) → at ≤ k → k < length order → placed.event.thread < (get_or order k d).thread
      higher k d past k_in =
          let reached = place.reached at d (omega arith) (omega arith) in
          elim (cases_eq (get_or order at d).thread placed.event.thread) [
            | inl same ↦ absurd (apart d (omega arith) same)
            | inr other ↦
                elim (cases_eq at k) [
                  | inl here ↦ let one = ap (λ i. (get_or order i d).thread) here in omega arith
                  | inr before ↦ let less = are.ordered at k d (omega arith) k_in in omega arith
                ]
          ]

      front_in : (p : Place) → Contains (take at order) p → Contains order p
      front_in p h = let within = place.within in let (k, k_in, same) = in_front order at within p h in (k, omega arith, same)

      back_in : (p : Place) → Contains (drop at order) p → Contains order p
      back_in p h = let (k, past, k_in, same) = in_back order at p h in (k, k_in, same)

      at_new : slice_get longer new.index ≡ Some first
      at_new = ap (λ i. slice_get longer i) index ∙ slice_get-push_new lasts first

      pub noted_first : IsNotedAt (row_in lasts order) (row_in longer (insert order at new)) placed w
      noted_first =
          let front = row_in lasts (take at order) in
          let back = row_in lasts (drop at order) in
          record {
            front = front;
            old = None;
            back = back;
            was = ap (row_in lasts) (sym (take-append-drop at order)) ∙ row-append lasts (take at order) (drop at order);
            is = row-append longer (take at order) (new ∷ drop at order)
                ∙ ap₂ (λ (f b : List Last). f ++ b) (row-same lasts longer (take at order) (λ p h. same_longer p (front_in p h)))
                (ap₂ (λ (o : Option Last) (b : List Last). option_to_list o ++ b) at_new
                (row-same lasts longer (drop at order) (λ p h. same_longer p (back_in p h))));
            below = below at placed.event.thread place.within place.below;
            own = λ last same. let never : ⊥ = cc in absurd never;
            above = above at placed.event.thread higher;
          }

      pub kept_first : AreKept longer (insert order at new)
      kept_first = record {
        ordered = pairs-insert (λ (a b : Place). a.thread < b.thread) order at new are.ordered
            (λ p h.
            let within = place.within in
            let (k, k_in, same) = in_front order at within p h in
            let less = place.below k p k_in in
            let thread = ap (λ (q : Place). q.thread) same in
            omega arith)
            (λ p h.
            let (k, past, k_in, same) = in_back order at p h in
            let more = higher k p past k_in in
            let thread = ap (λ (q : Place). q.thread) same in
            omega arith);
        apart = pairs-insert (λ (a b : Place). a.index ≢ b.index) order at new are.apart
            (λ p h same. let less = index_within p (front_in p h) in omega arith)
            (λ p h same. let less = index_within p (back_in p h) in omega arith);
        kept = All-append (IsKeptAt longer) (take at order) (new ∷ drop at order) (All-take (IsKeptAt longer) at order kept_longer.kept)
            (All-cons (IsKeptAt longer) new (drop at order) (kept_by (slice_get longer new.index) new.thread first at_new (sym own))
            (All-drop (IsKeptAt longer) at order kept_longer.kept));
      }
