-- The places that race, with one pair more, and what they say of claims.
use Rattle.std.proofs.Common.{◌≡◌, ◌+◌, ◌==◌, ℕ, List, [], ◌∷◌, ◌++◌, Bool, true, false, cond, length, inl, inr, refl, sym, subst, ap, ◌∙◌, arith}
use Rattle.std.specs.Prelude.{◌⊎◌, ◌↔◌, ◌&&◌, MatchOption, Option, Some, None, Contains, slice_get}
use Rattle.std.specs.List.{list_any}
use Rattle.std.proofs.lemmas.Bool.{cases_eq, true≢false, and_parts, and_from, eqb-true, eq-eqb}
use Rattle.std.proofs.lemmas.List.Folds.{list_any_at}
use Rattle.std.proofs.lemmas.Map.Views.{Contains-from_any}
use Rattle.std.proofs.lemmas.List.Elements.{Contains-push, Contains-push_cases, Contains-append_left}
use Rattle.std.proofs.lemmas.Option.{slice_get_within, slice_get-get_or, get_or_from_slice_get, same_Some}
use Rattle.lrc_races_trace.specs.declared.event.Event.{Event}
use Rattle.lrc_races_trace.specs.declared.event.Pair.{Pair}
use Rattle.lrc_races_trace.specs.Trace.{At, Accesses}
use Rattle.lrc_races_trace.proofs.Positions.{At-one, At-within}
use Rattle.lrc_races_detector.specs.declared.groups.Sides.{Sides}
use Rattle.lrc_races_detector.proofs.Grouping.{alike_sides}
use Rattle.lrc_races_text.specs.declared.asked.Sought.{Sought}
use Rattle.lrc_races_text.specs.declared.asked.Sought.TheVariants.{AllRaces, SureRaces}
use Rattle.lrc_races_text.specs.Naming.{Naming, Numbers}
use Rattle.lrc_races_text.specs.Spelled.{side_place}
use Rattle.lrc_races_locations.specs.Located.{AreRacing, AreShown}
use Rattle.lrc_races_locations.specs.Rivals.{Rivals}
use Rattle.lrc_races_claims.specs.contracts.places.TwoPlacesPartialEq.TheImpl.{eq-value}
use Rattle.lrc_races_claims.specs.declared.places.Places.{Places}
use Rattle.lrc_races_claims.specs.declared.places.TwoPlaces.{TwoPlaces}
use Rattle.lrc_races_claims.specs.Known.{IsUnknown, IsOnlyNumber, known_names}
use Rattle.lrc_races_claims.specs.Placed.{ArePlaceNames, AreNumbersOf, SomeRaceAt, SomeShownAt, ArePlaces}
use Rattle.lrc_races_claims.specs.Truth.{SomeIsAt, PlacesRace}

-- ---- two places in a set

abbrev same_two : TwoPlaces → TwoPlaces → Bool
same_two s t = (s.earlier == t.earlier) && (s.later == t.later)

eq_two : (s t : TwoPlaces) → eq-value.it s t ≡ same_two s t
eq_two s t = refl

abbrev two : ℕ → ℕ → TwoPlaces
two earlier later = record { earlier = earlier; later = later }

key_same : (s t : TwoPlaces) → eq-value.it s t ≡ true → s ≡ t
key_same s t e =
    let (p, q) = and_parts (s.earlier == t.earlier) (s.later == t.later) (sym (eq_two s t) ∙ e) in
    ap (λ x. two x s.later) (eqb-true s.earlier t.earlier p) ∙ ap (λ x. two t.earlier x) (eqb-true s.later t.later q)

key_self : (s : TwoPlaces) → eq-value.it s s ≡ true
key_self s = eq_two s s ∙ and_from (s.earlier == s.earlier) (s.later == s.later) (eq-eqb s.earlier s.earlier refl) (eq-eqb s.later s.later refl)

pub met_key : (keys : List TwoPlaces) (s : TwoPlaces) → list_any (λ (t : TwoPlaces). eq-value.it s t) keys ≡ true → Contains keys s
met_key keys s any = Contains-from_any key_same s keys any

pub new_key : (keys : List TwoPlaces) (s : TwoPlaces) → list_any (λ (t : TwoPlaces). eq-value.it s t) keys ≡ false → Contains keys s → ⊥
new_key keys s none (i, lt, is) =
    let there : list_any (λ (t : TwoPlaces). eq-value.it s t) keys ≡ true =
    list_any_at (λ (t : TwoPlaces). eq-value.it s t) keys i s lt (subst (λ (t : TwoPlaces). eq-value.it s t ≡ true) (sym is) (key_self s)) in
    true≢false (sym there ∙ none)

pub key_added : (keys after : List TwoPlaces) (s : TwoPlaces) → after ≡ cond (list_any (λ (t : TwoPlaces). eq-value.it s t) keys) keys (keys ++ s ∷ [])
    → (t : TwoPlaces) → Contains after t ↔ (Contains keys t ⊎ (t ≡ s))
key_added keys after s e t = added (list_any (λ (x : TwoPlaces). eq-value.it s x) keys) refl
  where
    added : (any : Bool) → list_any (λ (x : TwoPlaces). eq-value.it s x) keys ≡ any → Contains after t ↔ (Contains keys t ⊎ (t ≡ s))
    added true is =
        let same : after ≡ keys = e ∙ ap (λ b. cond b keys (keys ++ s ∷ [])) is in (
          λ has. inl (subst (λ (l : List TwoPlaces). Contains l t) same has),
          λ either. elim either [
            | inl has ↦ subst (λ (l : List TwoPlaces). Contains l t) (sym same) has
            | inr this ↦ subst (λ (l : List TwoPlaces). Contains l t) (sym same) (subst (λ x. Contains keys x) (sym this) (met_key keys s is))
          ],
        )
    added false is =
        let more : after ≡ keys ++ s ∷ [] = e ∙ ap (λ b. cond b keys (keys ++ s ∷ [])) is in (
          λ has. elim (Contains-push_cases keys s t (subst (λ (l : List TwoPlaces). Contains l t) more has)) [
            | inl was ↦ inl was
            | inr this ↦ inr (sym this)
          ],
          λ either. elim either [
            | inl has ↦ subst (λ (l : List TwoPlaces). Contains l t) (sym more) (Contains-append_left keys (s ∷ []) t has)
            | inr this ↦ subst (λ (l : List TwoPlaces). Contains l t) (sym more) (subst (λ x. Contains (keys ++ s ∷ []) x) (sym this) (Contains-push keys s))
          ],
        )

-- ---- the numbers of a pair

module _ (naming : Naming) (names : List (List ℕ)) (pair : Pair) where
  pub same_pairs : (keys : List TwoPlaces) (both : TwoPlaces) → (AreNumbersOf naming names pair both → ⊥)
      → Contains keys both ↔ (Contains keys both ⊎ AreNumbersOf naming names pair both)
  same_pairs keys both none = (λ has. inl has, λ either. elim either [ inl has ↦ has | inr are ↦ absurd (none are) ])

  pub none_earlier : (name : List ℕ) → name ≡ side_place naming pair.earlier.event.location → IsUnknown names name → (both : TwoPlaces)
      → AreNumbersOf naming names pair both → ⊥
  none_earlier name e none both are = none both.earlier (subst (λ n. Numbers names n both.earlier) (sym e) are.earlier)

  pub none_later : (name : List ℕ) → name ≡ side_place naming pair.later.event.location → IsUnknown names name → (both : TwoPlaces)
      → AreNumbersOf naming names pair both → ⊥
  none_later name e none both are = none both.later (subst (λ n. Numbers names n both.later) (sym e) are.later)

  pub pair_added : (keys after : List TwoPlaces) (name other : List ℕ) (earlier later : ℕ) → name ≡ side_place naming pair.earlier.event.location
      → other ≡ side_place naming pair.later.event.location → IsOnlyNumber names name earlier → IsOnlyNumber names other later
      → ((t : TwoPlaces) → Contains after t ↔ (Contains keys t ⊎ (t ≡ two earlier later)))
      → (both : TwoPlaces) → Contains after both ↔ (Contains keys both ⊎ AreNumbersOf naming names pair both)
  pair_added keys after name other earlier later e f only only' added both = (
    λ has. elim ((added both).0 has) [
      | inl was ↦ inl was
      | inr this ↦ inr (subst (λ t. AreNumbersOf naming names pair t) (sym this) (record {
        earlier = subst (λ n. Numbers names n earlier) e only.is;
        later = subst (λ n. Numbers names n later) f only'.is;
      }))
    ],
    λ either. (added both).1 (elim either [
      | inl has ↦ inl has
      | inr are ↦
          let p = only.only both.earlier (subst (λ n. Numbers names n both.earlier) (sym e) are.earlier) in
          let q = only'.only both.later (subst (λ n. Numbers names n both.later) (sym f) are.later) in
          inr (ap (λ x. two x both.later) p ∙ ap (λ x. two earlier x) q)
    ]),
  )

-- ---- the pairs so far

module _ (naming : Naming) (names : List (List ℕ)) (shown : List Pair) where
  pub shown_none : (keys : List TwoPlaces) → keys ≡ [] → (both : TwoPlaces) → Contains keys both ↔ SomeShownAt naming names shown 0 both
  shown_none keys e both = (λ (k, lt, is). let long = ap length e in absurd (omega arith), λ some. let lt = some.before in absurd (omega arith))

  pub shown_more : (n : ℕ) (pair : Pair) → slice_get shown n ≡ Some pair → (before after : List TwoPlaces)
      → ((both : TwoPlaces) → Contains after both ↔ (Contains before both ⊎ AreNumbersOf naming names pair both))
      → ((both : TwoPlaces) → Contains before both ↔ SomeShownAt naming names shown n both)
      → (both : TwoPlaces) → Contains after both ↔ SomeShownAt naming names shown (n + 1) both
  shown_more n pair at before after more old both = (
    λ has. elim ((more both).0 has) [
      | inl was ↦
          let some = (old both).0 was in
          record { k = some.k; pair = some.pair; before = let lt = some.before in omega arith; at = some.at; numbers = some.numbers }
      | inr are ↦ record { k = n; pair = pair; before = omega arith; at = at; numbers = are }
    ],
    λ some. (more both).1 (elim (cases_eq some.k n) [
      | inl same ↦
          let e : some.pair ≡ pair = same_Some some.pair pair (sym some.at ∙ ap (slice_get shown) same ∙ at) in
          inr (subst (λ p. AreNumbersOf naming names p both) e some.numbers)
      | inr other ↦
          let lt = some.before in
          inl ((old both).1 (record { k = some.k; pair = some.pair; before = omega arith; at = some.at; numbers = some.numbers }))
    ]),
  )

contains_at : (shown : List Pair) (k : ℕ) (pair : Pair) → slice_get shown k ≡ Some pair → Contains shown pair
contains_at shown k pair e = (k, slice_get_within shown k pair e, get_or_from_slice_get shown k pair pair e)

pub shown_all : (sought : Sought) (naming : Naming) (events : List Event) (names : List (List ℕ)) (shown : List Pair) (keys : List TwoPlaces) (n : ℕ)
    → n ≡ length shown → AreShown sought events shown → ((both : TwoPlaces) → Contains keys both ↔ SomeShownAt naming names shown n both)
    → (both : TwoPlaces) → Contains keys both ↔ SomeRaceAt sought naming events names both
shown_all sought naming events names shown keys n end are so_far both = (
  λ has.
      let some = (so_far both).0 has in
      let is = (are.exact some.pair).0 (contains_at shown some.k some.pair some.at) in
      record { pair = some.pair; racing = is.racing; numbers = some.numbers },
  λ some.
      let (pair, (k, lt, is), alike) = are.all some.pair some.racing in
      let sides = alike_sides pair some.pair alike in
      let e = ap (λ (s : Sides). s.earlier.location) sides in
      let f = ap (λ (s : Sides). s.later.location) sides in
      (so_far both).1 (record {
        k = k;
        pair = pair;
        before = omega arith;
        at = slice_get-get_or shown k pair lt ∙ ap Some is;
        numbers = record {
          earlier = subst (λ (o : Option ℕ). Numbers names (side_place naming o) both.earlier) (sym e) some.numbers.earlier;
          later = subst (λ (o : Option ℕ). Numbers names (side_place naming o) both.later) (sym f) some.numbers.later;
        };
      }),
)

-- ---- what is said of two places

pub rival_accesses : (sought : Sought) (events : List Event) (i j : ℕ) (a b : Event) → At events i a → At events j b → Rivals sought events i j
    → (v : ℕ) × Accesses a v × Accesses b v
rival_accesses AllRaces events i j a b at at' race = (
  race.conflict.variable,
  subst (λ (x : Event). Accesses x race.conflict.variable) (At-one race.first at) race.conflict.first,
  subst (λ (x : Event). Accesses x race.conflict.variable) (At-one race.second at') race.conflict.second,
)
rival_accesses SureRaces events i j a b at at' race = (
  race.conflict.variable,
  subst (λ (x : Event). Accesses x race.conflict.variable) (At-one race.first at) race.conflict.first,
  subst (λ (x : Event). Accesses x race.conflict.variable) (At-one race.second at') race.conflict.second,
)

one_name : (names : List (List ℕ)) (number : ℕ) (name other : List ℕ) → Numbers names name number → Numbers names other number → name ≡ other
one_name names number name other n m = same_Some name other (sym n.at ∙ m.at)

module _ (sought : Sought) (naming : Naming) (events : List Event) (places : Places) (are : ArePlaces sought naming events places) where
  abbrev known : List (List ℕ)
  known = known_names places.names

  pub none_at : (place : List ℕ) → IsUnknown known place → SomeIsAt naming events place → ⊥
  none_at place none some =
      let (k, lt, is) = (are.names.exact place).1 (record {
        position = some.position;
        is = some.is;
        before = At-within some.at;
        at = some.at;
        accesses = some.accesses;
      }) in
      none k (record { at = slice_get-get_or known k place lt ∙ ap Some is })

  pub some_at : (place : List ℕ) (number : ℕ) → IsOnlyNumber known place number → SomeIsAt naming events place
  some_at place number only =
      let some = (are.names.exact place).0
      (number, slice_get_within known number place only.is.at, get_or_from_slice_get known number place place only.is.at) in
      record { position = some.position; is = some.is; at = some.at; accesses = some.accesses }

  module _ (place other : List ℕ) (first second : ℕ) (only : IsOnlyNumber known place first) (only' : IsOnlyNumber known other second) where
    pub race_straight : Contains places.pairs.keys (two first second) → PlacesRace sought naming events place other
    race_straight has =
        let some = (are.pairs (two first second)).0 has in
        let pair = some.pair in
        let (v, reads, reads') = rival_accesses sought events pair.earlier.position pair.later.position pair.earlier.event pair.later.event
        some.racing.first some.racing.second some.racing.races in
        record {
          i = pair.earlier.position;
          j = pair.later.position;
          a = pair.earlier.event;
          b = pair.later.event;
          at_i = some.racing.first;
          at_j = some.racing.second;
          places = inl (
            record { number = v; accesses = reads; at = one_name known first _ _ some.numbers.earlier only.is },
            record { number = v; accesses = reads'; at = one_name known second _ _ some.numbers.later only'.is },
          );
          race = some.racing.races;
        }

    pub race_crossed : Contains places.pairs.keys (two second first) → PlacesRace sought naming events place other
    race_crossed has =
        let some = (are.pairs (two second first)).0 has in
        let pair = some.pair in
        let (v, reads, reads') = rival_accesses sought events pair.earlier.position pair.later.position pair.earlier.event pair.later.event
        some.racing.first some.racing.second some.racing.races in
        record {
          i = pair.earlier.position;
          j = pair.later.position;
          a = pair.earlier.event;
          b = pair.later.event;
          at_i = some.racing.first;
          at_j = some.racing.second;
          places = inr (
            record { number = v; accesses = reads; at = one_name known second _ _ some.numbers.earlier only'.is },
            record { number = v; accesses = reads'; at = one_name known first _ _ some.numbers.later only.is },
          );
          race = some.racing.races;
        }

    pub race_there : PlacesRace sought naming events place other
        → Contains places.pairs.keys (two first second) ⊎ Contains places.pairs.keys (two second first)
    race_there race =
        let racing : AreRacing sought events (record {
          earlier = record { position = race.i; event = race.a };
          later = record { position = race.j; event = race.b };
        }) = record { first = race.at_i; second = race.at_j; races = race.race } in
        elim race.places [
          | inl (here, there) ↦ inl ((are.pairs (two first second)).1 (record {
            pair = record { earlier = record { position = race.i; event = race.a }; later = record { position = race.j; event = race.b } };
            racing = racing;
            numbers = record {
              earlier = subst (λ n. Numbers known n first) (sym here.at) only.is;
              later = subst (λ n. Numbers known n second) (sym there.at) only'.is;
            };
          }))
          | inr (there, here) ↦ inr ((are.pairs (two second first)).1 (record {
            pair = record { earlier = record { position = race.i; event = race.a }; later = record { position = race.j; event = race.b } };
            racing = racing;
            numbers = record {
              earlier = subst (λ n. Numbers known n second) (sym there.at) only'.is;
              later = subst (λ n. Numbers known n first) (sym here.at) only.is;
            };
          }))
        ]

-- ---- numbers that are found

pub only_found : (names : List (List ℕ)) (name : List ℕ) (found : Option ℕ) (number : ℕ) → found ≡ Some number
    → MatchOption found (IsUnknown names name) (IsOnlyNumber names name) → IsOnlyNumber names name number
only_found names name found number is known = subst (λ (o : Option ℕ). MatchOption o (IsUnknown names name) (IsOnlyNumber names name)) is known

pub none_found : (names : List (List ℕ)) (name : List ℕ) (found : Option ℕ) → found ≡ None
    → MatchOption found (IsUnknown names name) (IsOnlyNumber names name) → IsUnknown names name
none_found names name found is known = subst (λ (o : Option ℕ). MatchOption o (IsUnknown names name) (IsOnlyNumber names name)) is known

-- ---- all pairs

pub shown_noted : (naming : Naming) (names held : List (List ℕ)) (shown : List Pair) (n : ℕ) (pair : Pair) → slice_get shown n ≡ Some pair
    → (before after : List TwoPlaces) → held ≡ names
    → ((both : TwoPlaces) → Contains after both ↔ (Contains before both ⊎ AreNumbersOf naming held pair both))
    → ((both : TwoPlaces) → Contains before both ↔ SomeShownAt naming names shown n both)
    → (both : TwoPlaces) → Contains after both ↔ SomeShownAt naming names shown (n + 1) both
shown_noted naming names held shown n pair at before after same more old =
    shown_more naming names shown n pair at before after
    (subst (λ (l : List (List ℕ)). (both : TwoPlaces) → Contains after both ↔ (Contains before both ⊎ AreNumbersOf naming l pair both)) same more) old

pub places_done : (sought : Sought) (naming : Naming) (events : List Event) (places : Places) (start table : List (List ℕ)) (items shown : List Pair) (n : ℕ)
    → known_names places.names ≡ start → start ≡ table → ArePlaceNames naming events (length events) table → items ≡ shown → AreShown sought events shown
    → places.shown.items ≡ shown → n ≡ length items
    → ((both : TwoPlaces) → Contains places.pairs.keys both ↔ SomeShownAt naming start items n both) → ArePlaces sought naming events places
places_done sought naming events places start table items shown n e f named g are kept end so_far = record {
  names = subst (λ (l : List (List ℕ)). ArePlaceNames naming events (length events) l) (sym (e ∙ f)) named;
  pairs = subst (λ (l : List (List ℕ)). (both : TwoPlaces) → Contains places.pairs.keys both ↔ SomeRaceAt sought naming events l both) (sym e)
      (shown_all sought naming events start items places.pairs.keys n end (subst (λ (l : List Pair). AreShown sought events l) (sym g) are) so_far);
  shown = subst (λ (l : List Pair). AreShown sought events l) (sym kept) are;
}
