-- The pairs of locations that are shown, one event further, and of a whole trace.
use Rattle.std.proofs.Common.{◌≡◌, ℕ, ◌+◌, ◌<◌, ◌≤◌, ◌⊎◌, List, [], ◌++◌, inl, inr, sym, subst, ◌∙◌, ap, arith, get_or, length}
use Rattle.std.specs.Prelude.{Some, true, Vec, AllPairs, Contains, slice_get}
use Rattle.std.specs.declared.alloc.Global.{Global}
use Rattle.std.proofs.lemmas.Bool.{cases_eq, cases_lt}
use Rattle.std.proofs.lemmas.Option.{slice_get-get_or, slice_get_within, get_or_from_slice_get}
use Rattle.std.proofs.lemmas.List.Elements.{Contains-append_left, Contains-append_right, Contains-append_cases, Contains-get_or}
use Rattle.lrc_races_trace.specs.declared.event.Event.{Event}
use Rattle.lrc_races_trace.specs.declared.event.Pair.{Pair}
use Rattle.lrc_races_trace.specs.declared.event.Placed.{Placed}
use Rattle.lrc_races_trace.specs.Trace.{At, Accesses}
use Rattle.lrc_races_trace.specs.Groups.{are_alike}
use Rattle.lrc_races_trace.proofs.Positions.{At-one, At-within}
use Rattle.lrc_races_detector.specs.declared.groups.Sides.{Sides}
use Rattle.lrc_races_detector.specs.Grouping.{side_of, sides_of}
use Rattle.lrc_races_detector.specs.declared.groups.Side.{Side}
use Rattle.lrc_races_detector.proofs.Grouping.{alike_sides, alike_from}
use Rattle.lrc_races_detector.proofs.Pairs.{pairs-append}
use Rattle.lrc_races_text.specs.declared.asked.Sought.{Sought}
use Rattle.lrc_races_locations.specs.declared.locator.Locator.{Locator}
use Rattle.lrc_races_locations.specs.Rivals.{Rivals, IsBehind}
use Rattle.lrc_races_locations.specs.Located.{AreRacing, IsShown, ComesFirst, AreShown}
use Rattle.lrc_races_locations.specs.Spots.{IsRow, row_of, AreRows}
use Rattle.lrc_races_locations.specs.Finding.{IsRival, pair_of, AreFoundFrom, HasShown}
use Rattle.lrc_races_locations.proofs.Filtering.{contains_none}
use Rattle.lrc_races_locations.proofs.Spotting.{Row-none, Row-kept}
use Rattle.lrc_races_locations.proofs.Rivaling.{raced, rival_races, race_rival, race_spot}

pub racing_positions : (sought : Sought) (events : List Event) (pair : Pair) → AreRacing sought events pair → pair.earlier.position < pair.later.position
racing_positions sought events pair r = (raced sought events _ _ _ _ r.first r.second r.races).earlier

module _ (sought : Sought) (events : List Event) (later : Placed) (v : ℕ) (there : At events later.position later.event)
    (accesses : Accesses later.event v) (known : List ℕ) (is : IsBehind sought events later.position known) (locator : Locator)
    (old : HasShown sought events later.position locator) (after : List Sides) (found : List Pair)
    (new : AreFoundFrom 0 (row_of locator.spots.items v) known later locator.sides.keys after found) where
  abbrev n : ℕ
  n = later.position

  abbrev row : List Placed
  row = row_of locator.spots.items v

  in_row : (spot : Placed) → Contains row spot → (k : ℕ) × (slice_get row k ≡ Some spot)
  in_row spot (k, lt, e) = (k, slice_get-get_or row k spot lt ∙ ap Some e)

  at_row : (k : ℕ) (spot : Placed) → slice_get row k ≡ Some spot → Contains row spot
  at_row k spot e = (k, slice_get_within row k spot e, get_or_from_slice_get row k spot spot e)

  is_row : IsRow events n v row
  is_row = old.rows v

  -- what is found is of this access
  of_later : (p : Pair) → Contains found p → p.later ≡ later
  of_later p c = let (k, le, at, e, rival, fresh) = new.sound p c in e

  found_racing : (p : Pair) → Contains found p → AreRacing sought events p
  found_racing p c =
      let (k, le, at, e, rival, fresh) = new.sound p c in
      let s = is_row.sound p.earlier (at_row k p.earlier at) in
      let races = rival_races sought events later v there accesses known is p.earlier s rival in
      record {
        first = s.at;
        second = subst (λ (x : Placed). At events x.position x.event) (sym e) there;
        races = subst (λ (x : Placed). Rivals sought events p.earlier.position x.position) (sym e) races;
      }

  -- the last access in place of one that races at n
  rival_for : (other : Pair) → AreRacing sought events other → other.later.position ≡ n
      → (k : ℕ) × (spot : Placed) × (slice_get row k ≡ Some spot) × (other.earlier.position ≤ spot.position) × IsRival known later spot
      × (sides_of (pair_of spot later) ≡ sides_of other)
  rival_for other r at_n =
      let races : Rivals sought events other.earlier.position n =
      subst (λ (m : ℕ). Rivals sought events other.earlier.position m) at_n r.races in
      let (spot, c, one) = race_spot sought events later v there accesses known is other.earlier.position other.earlier.event r.first races row is_row in
      let s = is_row.sound spot c in
      let (le, rival) = race_rival sought events later v there accesses known is other.earlier.position other.earlier.event r.first races spot s one in
      let (k, at) = in_row spot c in
      let same : later.event ≡ other.later.event = At-one there (subst (λ (m : ℕ). At events m other.later.event) at_n r.second) in
      (k, spot, at, le, rival, two_sides spot other one.side (ap side_of same))
    where
      two_sides : (spot : Placed) (other : Pair) → side_of spot.event ≡ side_of other.earlier.event
          → side_of later.event ≡ side_of other.later.event → sides_of (pair_of spot later) ≡ sides_of other
      two_sides spot other e f =
          ap (λ (x : Side). record { earlier = x; later = side_of later.event }) e
          ∙ ap (λ (x : Side). record { earlier = side_of other.earlier.event; later = x }) f

  found_first : (p : Pair) → Contains found p → (other : Pair) → AreRacing sought events other → are_alike p other ≡ true
      → (p.later.position < other.later.position) ⊎ ((p.later.position ≡ other.later.position) × (other.earlier.position ≤ p.earlier.position))
  found_first p c other r alike =
      let at_n : p.later.position ≡ n = ap (λ (x : Placed). x.position) (of_later p c) in
      let sides = alike_sides p other alike in
      elim (cases_lt other.later.position n) [
        | inl earlier ↦
            let (q, cq, e) = old.all other r earlier in
            let (k, le, at, l, rival, fresh) = new.sound p c in
            absurd (fresh ((old.sides (sides_of p)).1 (q, cq, e ∙ sym sides)))
        | inr not_earlier ↦
            elim (cases_eq other.later.position n) [
              | inr apart ↦ inl (omega arith)
              | inl same ↦
                  let (k, spot, at, le, rival, e) = rival_for other r same in
                  let most = new.greatest p c k spot (omega arith) at rival (e ∙ sym sides) in
                  inr (at_n ∙ sym same, omega arith)
            ]
      ]

  in_new : (s : Sides) → Contains after s → (p : Pair) × Contains (locator.pairs.items ++ found) p × (sides_of p ≡ s)
  in_new s c =
      elim ((new.sides s).0 c) [
        | inl met ↦ let (p, cp, e) = (old.sides s).0 met in (p, Contains-append_left locator.pairs.items found p cp, e)
        | inr (p, cp, e) ↦ (p, Contains-append_right locator.pairs.items found p cp, e)
      ]

  new_in : (s : Sides) → ((p : Pair) × Contains (locator.pairs.items ++ found) p × (sides_of p ≡ s)) → Contains after s
  new_in s (p, c, e) =
      elim (Contains-append_cases locator.pairs.items found p c) [
        | inl before ↦ (new.sides s).1 (inl ((old.sides s).1 (p, before, e)))
        | inr now ↦ (new.sides s).1 (inr (p, now, e))
      ]

  all_next : (other : Pair) → AreRacing sought events other → other.later.position < n + 1
      → (pair : Pair) × Contains (locator.pairs.items ++ found) pair × (sides_of pair ≡ sides_of other)
  all_next other r lt =
      elim (cases_eq other.later.position n) [
        | inr apart ↦
            let (p, c, e) = old.all other r (omega arith) in (p, Contains-append_left locator.pairs.items found p c, e)
        | inl same ↦
            let (k, spot, at, le, rival, e) = rival_for other r same in
            let (p, c, f) = in_new (sides_of (pair_of spot later)) (new.complete k spot (omega arith) at rival) in
            (p, c, f ∙ e)
      ]

  pub shown_next : (next : Locator) → AreRows events (n + 1) next.spots.items → next.sides.keys ≡ after
      → next.pairs.items ≡ locator.pairs.items ++ found → HasShown sought events (n + 1) next
  shown_next next rows keys pairs = record {
    rows = rows;
    sides = λ s. (
      λ c. subst (λ (l : List Pair). (p : Pair) × Contains l p × (sides_of p ≡ s)) (sym pairs) (in_new s (subst (λ (l : List Sides). Contains l s) keys c)),
      λ t. subst (λ (l : List Sides). Contains l s) (sym keys)
          (new_in s (subst (λ (l : List Pair). (p : Pair) × Contains l p × (sides_of p ≡ s)) pairs t)),
    );
    in_order = subst (λ (l : List Pair). AllPairs ComesFirst l) (sym pairs)
        (pairs-append ComesFirst locator.pairs.items found old.in_order found_order (λ p q cp cq.
        let lt = (old.sound p cp).1 in
        let e = ap (λ (x : Placed). x.position) (of_later q cq) in
        inl (omega arith)));
    sound = λ p c.
        elim (Contains-append_cases locator.pairs.items found p (subst (λ (l : List Pair). Contains l p) pairs c)) [
          | inl before ↦ let (s, lt) = old.sound p before in (s, omega arith)
          | inr now ↦
              let e = ap (λ (x : Placed). x.position) (of_later p now) in
              (record { racing = found_racing p now; first = found_first p now }, omega arith)
        ];
    all = λ other r lt. subst (λ (l : List Pair). (pair : Pair) × Contains l pair × (sides_of pair ≡ sides_of other)) (sym pairs) (all_next other r lt);
  }
    where
      found_order : AllPairs ComesFirst found
      found_order i j d lt within =
          let below = new.in_order i j d lt within in
          let one = ap (λ (x : Placed). x.position) (of_later (get_or found i d) (Contains-get_or found i d (omega (arith, lt, within)))) in
          let other = ap (λ (x : Placed). x.position) (of_later (get_or found j d) (Contains-get_or found j d within)) in
          inr (one ∙ sym other, below)

-- an event that is no access
module _ (sought : Sought) (events : List Event) (n : ℕ) (b : Event) (here : At events n b) (none : (v : ℕ) → Accesses b v → ⊥) where
  no_race : (i : ℕ) (a : Event) → At events i a → Rivals sought events i n → ⊥
  no_race i a at r = let c = (raced sought events i n a b at here r).conflict in none c.variable c.second

  pub shown_kept : (locator : Locator) → HasShown sought events n locator → HasShown sought events (n + 1) locator
  shown_kept locator old = record {
    rows = λ v. Row-kept events v n b (row_of locator.spots.items v) here (none v) (old.rows v);
    sides = old.sides;
    in_order = old.in_order;
    sound = λ p c. let (s, lt) = old.sound p c in (s, omega arith);
    all = λ other r lt.
        elim (cases_eq other.later.position n) [
          | inl same ↦ absurd (no_race other.earlier.position other.earlier.event r.first (subst (λ (m : ℕ). Rivals sought events other.earlier.position m) same r.races))
          | inr apart ↦ old.all other r (omega arith)
        ];
  }

-- before any event
pub shown_none : (sought : Sought) (events : List Event) (locator : Locator) → locator.spots.items ≡ [] → locator.sides.keys ≡ []
    → locator.pairs.items ≡ [] → HasShown sought events 0 locator
shown_none sought events locator spots keys pairs = record {
  rows = λ v. subst (λ (rows : List (Vec Placed Global)). IsRow events 0 v (row_of rows v)) (sym spots) (Row-none events v);
  sides = λ s. (
    λ c. absurd (contains_none s (subst (λ (l : List Sides). Contains l s) keys c)),
    λ (p, c, e). absurd (contains_none p (subst (λ (l : List Pair). Contains l p) pairs c)),
  );
  in_order = subst (λ (l : List Pair). AllPairs ComesFirst l) (sym pairs) (λ i j d lt within. absurd (omega (arith, within)));
  sound = λ p c. absurd (contains_none p (subst (λ (l : List Pair). Contains l p) pairs c));
  all = λ other r lt. absurd (omega (arith, lt));
}

-- two pairs that show the same locations and kinds are one
module _ (sought : Sought) (events : List Event) where
  placed_equal : (p q : Placed) → p.position ≡ q.position → At events p.position p.event → At events q.position q.event → p ≡ q
  placed_equal p q e at there =
      let same : p.event ≡ q.event = At-one at (subst (λ (m : ℕ). At events m q.event) (sym e) there) in
      ap (λ (m : ℕ). record { position = m; event = p.event }) e ∙ ap (λ (x : Event). record { position = q.position; event = x }) same

  one_shown : (p q : Pair) → IsShown sought events p → IsShown sought events q → sides_of p ≡ sides_of q → p ≡ q
  one_shown p q s t e =
      let there = s.first q t.racing (alike_from p q e) in
      let here = t.first p s.racing (alike_from q p (sym e)) in
      elim there [
        | inl lt ↦ elim here [ inl lt' ↦ absurd (omega arith) | inr (same, le) ↦ absurd (omega arith) ]
        | inr (same, le) ↦
            elim here [
              | inl lt' ↦ absurd (omega arith)
              | inr (same', le') ↦
                  let first : p.earlier ≡ q.earlier = placed_equal p.earlier q.earlier (omega arith) s.racing.first t.racing.first in
                  let second : p.later ≡ q.later = placed_equal p.later q.later same s.racing.second t.racing.second in
                  ap (λ (x : Placed). pair_of x p.later) first ∙ ap (λ (x : Placed). pair_of q.earlier x) second
            ]
      ]

  pub shown_all : (locator : Locator) → HasShown sought events (length events) locator → AreShown sought events locator.pairs.items
  shown_all locator h = record {
    in_order = h.in_order;
    exact = λ p. (
      λ c. (h.sound p c).0,
      λ s.
          let (q, c, e) = h.all p s.racing (At-within s.racing.second) in
          subst (λ (x : Pair). Contains locator.pairs.items x) (one_shown q p (h.sound q c).0 s e) c,
    );
    all = λ other r.
        let (q, c, e) = h.all other r (At-within r.second) in
        (q, c, alike_from q other e);
  }
