-- The row of a variable, one access further.
use Rattle.std.proofs.Common.{◌≡◌, ℕ, ◌+◌, ◌<◌, List, [], ◌∷◌, ◌++◌, inl, inr, refl, sym, subst, ◌∙◌, ap, arith}
use Rattle.std.specs.Prelude.{◌==◌, ◌&&◌, Bool, true, false, not, Contains, filter}
use Rattle.std.proofs.lemmas.Bool.{cases_eq, true≢false, and_parts, eqb-true, eq-eqb}
use Rattle.std.proofs.lemmas.List.Elements.{Contains-push, Contains-push_cases, Contains-append_left, Contains-get_or}
use Rattle.std.proofs.lemmas.List.Quantifiers.{all_pairs_push}
use Rattle.std.proofs.lemmas.List.Kept.{AllPairs-filter}
use Rattle.lrc_races_trace.specs.declared.event.Event.{Event}
use Rattle.lrc_races_trace.specs.declared.event.Pair.{Pair}
use Rattle.lrc_races_trace.specs.declared.event.Placed.{Placed}
use Rattle.lrc_races_trace.specs.Trace.{At, Accesses}
use Rattle.lrc_races_trace.specs.Groups.{alike}
use Rattle.lrc_races_trace.proofs.Positions.{At-one}
use Rattle.lrc_races_detector.specs.declared.groups.Sides.{Sides}
use Rattle.lrc_races_detector.specs.Grouping.{side_of, sides_of}
use Rattle.lrc_races_detector.proofs.Grouping.{alike_sides, alike_from}
use Rattle.lrc_races_locations.specs.Spots.{AreAtOneSpot, at_one_spot, IsSpot, IsRow}
use Rattle.lrc_races_locations.proofs.Filtering.{filter_cases, filter_there}

-- an event as both accesses of a pair
abbrev twice : Event → Pair
twice a = record { earlier = record { position = 0; event = a }; later = record { position = 0; event = a } }

both_true : (x y : Bool) → x ≡ true → y ≡ true → (x && y) ≡ true
both_true true y p q = q
both_true false y p q = absurd (true≢false (sym p))

pub side_alike : (a b : Event) → alike a b ≡ true → side_of a ≡ side_of b
side_alike a b e = ap (λ (s : Sides). s.earlier) (alike_sides (twice a) (twice b) (both_true (alike a b) (alike a b) e e))

pub alike_side : (a b : Event) → side_of a ≡ side_of b → alike a b ≡ true
alike_side a b e =
    let sides : sides_of (twice a) ≡ sides_of (twice b) = ap (λ s. record { earlier = s; later = s }) e in
    (and_parts (alike a b) (alike a b) (alike_from (twice a) (twice b) sides)).0

pub spot_true : (a b : Event) → at_one_spot a b ≡ true → AreAtOneSpot a b
spot_true a b e =
    let (t, s) = and_parts (a.thread == b.thread) (alike a b) e in
    record { thread = eqb-true a.thread b.thread t; side = side_alike a b s }

pub spot_from : (a b : Event) → AreAtOneSpot a b → at_one_spot a b ≡ true
spot_from a b h = both_true (a.thread == b.thread) (alike a b) (eq-eqb a.thread b.thread h.thread) (alike_side a b h.side)

-- before any event
pub Row-none : (events : List Event) (v : ℕ) → IsRow events 0 v []
Row-none events v = record {
  in_order = λ i j d lt within. absurd (omega (arith, within));
  sound = λ spot (k, lt, is). absurd (omega (arith, lt));
  complete = λ k c lt at acc. absurd (omega (arith, lt));
}

module _ (events : List Event) (v : ℕ) where
  -- an event that doesn't access the variable
  pub Row-kept : (n : ℕ) (b : Event) (row : List Placed) → At events n b → (Accesses b v → ⊥) → IsRow events n v row → IsRow events (n + 1) v row
  Row-kept n b row here none old = record {
    in_order = old.in_order;
    sound = λ spot c.
        let s = old.sound spot c in
        let lt = s.before in
        record {
          before = omega arith;
          at = s.at;
          accesses = s.accesses;
          last = λ k e below at acc one.
              elim (cases_eq k n) [
                | inl same ↦
                    let is : e ≡ b = At-one (subst (λ (m : ℕ). At events m e) same at) here in
                    absurd (none (subst (λ (x : Event). Accesses x v) is acc))
                | inr other ↦ s.last k e (omega arith) at acc one
              ];
        };
    complete = λ k e below at acc.
        elim (cases_eq k n) [
          | inl same ↦
              let is : e ≡ b = At-one (subst (λ (m : ℕ). At events m e) same at) here in
              absurd (none (subst (λ (x : Event). Accesses x v) is acc))
          | inr other ↦ old.complete k e (omega arith) at acc
        ];
  }

  module _ (placed : Placed) (here : At events placed.position placed.event) (accesses : Accesses placed.event v) (row : List Placed)
      (old : IsRow events placed.position v row) where
    abbrev n : ℕ
    n = placed.position

    abbrev b : Event
    b = placed.event

    abbrev others : Placed → Bool
    others spot = not (at_one_spot spot.event b)

    kept_apart : (x : Placed) → others x ≡ true → AreAtOneSpot x.event b → ⊥
    kept_apart x t one = true≢false (sym t ∙ ap not (spot_from x.event b one))

    kept_spot : (x : Placed) → Contains (filter others row) x → IsSpot events (n + 1) v x
    kept_spot x c =
        let (there, t) = filter_cases others row x c in
        let s = old.sound x there in
        let lt = s.before in
        record {
          before = omega arith;
          at = s.at;
          accesses = s.accesses;
          last = λ k e below at acc one.
              elim (cases_eq k n) [
                | inl same ↦
                    let is : e ≡ b = At-one (subst (λ (m : ℕ). At events m e) same at) here in
                    absurd (kept_apart x t (subst (λ (y : Event). AreAtOneSpot x.event y) is one))
                | inr other ↦ s.last k e (omega arith) at acc one
              ];
        }

    new_spot : IsSpot events (n + 1) v placed
    new_spot = record { before = omega arith; at = here; accesses = accesses; last = λ k e below at acc one. omega arith }

    found : (k : ℕ) (e : Event) → k < n + 1 → At events k e → Accesses e v
        → (spot : Placed) × Contains (filter others row ++ placed ∷ []) spot × AreAtOneSpot spot.event e
    found k e below at acc =
        elim (cases_eq k n) [
          | inl same ↦
              let is : b ≡ e = At-one here (subst (λ (m : ℕ). At events m e) same at) in
              (placed, Contains-push (filter others row) placed, record { thread = ap (λ (x : Event). x.thread) is; side = ap side_of is })
          | inr other ↦ by_spot (old.complete k e (omega arith) at acc)
        ]
      where
        by_spot : ((spot : Placed) × Contains row spot × AreAtOneSpot spot.event e)
            → (spot : Placed) × Contains (filter others row ++ placed ∷ []) spot × AreAtOneSpot spot.event e
        by_spot (spot, c, one) = by (at_one_spot spot.event b) refl
          where
            by : (t : Bool) → at_one_spot spot.event b ≡ t
                → (spot : Placed) × Contains (filter others row ++ placed ∷ []) spot × AreAtOneSpot spot.event e
            by true t =
                let same = spot_true spot.event b t in
                (placed, Contains-push (filter others row) placed, record { thread = sym same.thread ∙ one.thread; side = sym same.side ∙ one.side })
            by false t = (spot, Contains-append_left (filter others row) (placed ∷ []) spot (filter_there others row spot c (ap not t)), one)

    pub Row-noted : IsRow events (n + 1) v (filter others row ++ placed ∷ [])
    Row-noted = record {
      in_order = all_pairs_push (λ (p q : Placed). p.position < q.position) (filter others row) placed
          (AllPairs-filter (λ (p q : Placed). p.position < q.position) others row old.in_order)
          (λ k d lt. (old.sound _ (filter_cases others row _ (Contains-get_or (filter others row) k d lt)).0).before);
      sound = λ spot c.
          elim (Contains-push_cases (filter others row) placed spot c) [
            | inl there ↦ kept_spot spot there
            | inr same ↦ subst (λ (x : Placed). IsSpot events (n + 1) v x) same new_spot
          ];
      complete = found;
    }
