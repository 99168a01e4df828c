-- The pairs of locations that race and that no claim has, with one pair more, and all.
use Rattle.std.proofs.Common.{◌≡◌, ◌+◌, ℕ, ◌<◌, List, [], ◌∷◌, ◌++◌, length, inl, inr, refl, sym, subst, ap, ◌∙◌, arith}
use Rattle.std.specs.Prelude.{◌↔◌, AllPairs, Contains, Option, Some, slice_get}
use Rattle.std.proofs.lemmas.Bool.{cases_order}
use Rattle.std.proofs.lemmas.Option.{slice_get-get_or, slice_get_within, get_or_from_slice_get, same_Some}
use Rattle.lrc_races_trace.specs.declared.event.Event.{Event}
use Rattle.lrc_races_trace.specs.declared.event.Pair.{Pair}
use Rattle.lrc_races_trace.specs.Trace.{Accesses, At}
use Rattle.lrc_races_trace.proofs.Positions.{At-within}
use Rattle.lrc_races_text.specs.declared.asked.Sought.{Sought}
use Rattle.lrc_races_text.specs.Naming.{Naming, Numbers}
use Rattle.lrc_races_text.specs.Spelled.{side_place}
use Rattle.lrc_races_locations.specs.Located.{AreShown, ComesFirst, IsShown}
use Rattle.lrc_races_score.specs.Claims.{locations}
use Rattle.lrc_races_score.specs.declared.report.LinedClaim.{LinedClaim}
use Rattle.lrc_races_claims.specs.declared.places.TwoPlaces.{TwoPlaces}
use Rattle.lrc_races_claims.specs.Placed.{AreNumbersOf, ArePlaceNames, SomeShownAt}
use Rattle.lrc_races_claims.proofs.Pairing.{rival_accesses, shown_more, shown_none}
use Rattle.lrc_races_missed.specs.declared.key.Key.{Key}
use Rattle.lrc_races_missed.specs.declared.key.Key.TheVariants as keyed
use Rattle.lrc_races_missed.specs.Keys.{AreKeys, AreTwoNumbers, places_key}
use Rattle.lrc_races_missed.specs.Locating.{IsMet, IsNew, IsNoted, missed, nameless, passed, turned}
use Rattle.lrc_races_missed.specs.Missed.{AreMissedLocations, Claims, HaveSamePlaces, crossed, straight}
use Rattle.lrc_races_missed.proofs.Given.{AreGiven, given_more, given_none, given_same, in_source}
use Rattle.lrc_races_missed.proofs.KeyLemmas.{claimed_key, key_claimed, one_name, only_places}

-- ---- places and their numbers

abbrev place_of : Naming → Pair → List ℕ
place_of naming pair = side_place naming pair.earlier.event.location

abbrev other_of : Naming → Pair → List ℕ
other_of naming pair = side_place naming pair.later.event.location

number_of : (naming : Naming) (events : List Event) (names : List (List ℕ)) → ArePlaceNames naming events (length events) names → (k v : ℕ) (is : Event)
    → At events k is → Accesses is v → (number : ℕ) × Numbers names (side_place naming is.location) number
number_of naming events names are k v is at accesses =
    let (n, lt, same) = (are.exact (side_place naming is.location)).1 (record {
      position = k;
      is = is;
      before = At-within at;
      at = at;
      accesses = record { number = v; accesses = accesses; at = refl };
    }) in
    (n, record { at = slice_get-get_or names n (side_place naming is.location) lt ∙ ap Some same })

pub numbers_of : (sought : Sought) (naming : Naming) (events : List Event) (names : List (List ℕ)) (pair : Pair)
    → ArePlaceNames naming events (length events) names → IsShown sought events pair
    → (both : TwoPlaces) × AreTwoNumbers names (side_place naming pair.earlier.event.location) (side_place naming pair.later.event.location) both
numbers_of sought naming events names pair are is =
    let (v, reads, reads') = rival_accesses sought events pair.earlier.position pair.later.position pair.earlier.event pair.later.event
    is.racing.first is.racing.second is.racing.races in
    let (n, numbers) = number_of naming events names are pair.earlier.position v pair.earlier.event is.racing.first reads in
    let (m, numbers') = number_of naming events names are pair.later.position v pair.later.event is.racing.second reads' in
    (record { earlier = n; later = m }, record { earlier = numbers; later = numbers' })

-- ---- one pair more

pub record GivesNew (naming : Naming) (claims : List LinedClaim) (shown : List Pair) (n : ℕ) (is told : Pair) : Type 0 where
  pub same : is ≡ told
  pub first : (k : ℕ) (other : Pair) → k < n → slice_get shown k ≡ Some other → ¬ HaveSamePlaces naming is other
  pub straight : ¬ Claims claims (locations (side_place naming is.earlier.event.location) (side_place naming is.later.event.location))
  pub crossed : ¬ Claims claims (locations (side_place naming is.later.event.location) (side_place naming is.earlier.event.location))

-- of the first n pairs the places are met, and those are given that are missed
pub record AreNoted (naming : Naming) (names : List (List ℕ)) (claims : List LinedClaim) (shown : List Pair) (n : ℕ) (met : List TwoPlaces)
    (told : List Pair) : Type 0 where
  pub known : (both : TwoPlaces) → Contains met both ↔ SomeShownAt naming names shown n both
  pub given : AreGiven shown (GivesNew naming claims shown) ComesFirst n told

pub noted_none : (naming : Naming) (names : List (List ℕ)) (claims : List LinedClaim) (shown : List Pair) (met : List TwoPlaces) (told : List Pair) → met ≡ []
    → told ≡ [] → AreNoted naming names claims shown 0 met told
noted_none naming names claims shown met told e f = record {
  known = shown_none naming names shown met e;
  given = subst (λ (l : List Pair). AreGiven shown (GivesNew naming claims shown) ComesFirst 0 l) (sym f)
      (given_none shown (GivesNew naming claims shown) ComesFirst);
}

module _ (naming : Naming) (names : List (List ℕ)) (claims : List LinedClaim) (variables : List (List ℕ)) (keys : List Key)
    (are : AreKeys variables names claims keys) (shown : List Pair) (ordered : AllPairs ComesFirst shown) where
  carries : (k l : ℕ) (a b x w : Pair) → GivesNew naming claims shown k a x → GivesNew naming claims shown l b w → ComesFirst a b → ComesFirst x w
  carries k l a b x w g h first = subst (λ p. ComesFirst p w) g.same (subst (λ p. ComesFirst a p) h.same first)

  module _ (n : ℕ) (pair : Pair) (here : slice_get shown n ≡ Some pair) (met : List TwoPlaces)
      (exact : (both : TwoPlaces) → Contains met both ↔ SomeShownAt naming names shown n both) (both : TwoPlaces)
      (numbers : AreTwoNumbers names (side_place naming pair.earlier.event.location) (side_place naming pair.later.event.location) both) where
    abbrev place : List ℕ
    place = side_place naming pair.earlier.event.location

    abbrev other : List ℕ
    other = side_place naming pair.later.event.location

    there : (k : ℕ) (old : Pair) → k < n → slice_get shown k ≡ Some old → (two : TwoPlaces) → AreNumbersOf naming names old two → Contains met two
    there k old lt at two are = (exact two).1 (record { k = k; pair = old; before = lt; at = at; numbers = are })

    gives_new : IsNew met keys both → GivesNew naming claims shown n pair pair
    gives_new new = record {
      same = refl;
      first = λ k old lt at same. first_of k old lt at same;
      straight = λ claimed. new.unclaimed (key_claimed variables names claims keys are (locations place other) (keyed.Places both.earlier both.later)
          (places_key numbers) claimed);
      crossed = λ claimed. new.unclaimed_crossed (key_claimed variables names claims keys are (locations other place) (keyed.Places both.later both.earlier)
          (places_key (record { earlier = numbers.later; later = numbers.earlier })) claimed);
    }
      where
        first_of : (k : ℕ) (old : Pair) → k < n → slice_get shown k ≡ Some old → ¬ HaveSamePlaces naming pair old
        first_of k old lt at (straight e f) = new.straight (there k old lt at both (record {
          earlier = subst (λ name. Numbers names name both.earlier) e numbers.earlier;
          later = subst (λ name. Numbers names name both.later) f numbers.later;
        }))
        first_of k old lt at (crossed e f) = new.crossed (there k old lt at (turned both) (record {
          earlier = subst (λ name. Numbers names name both.later) f numbers.later;
          later = subst (λ name. Numbers names name both.earlier) e numbers.earlier;
        }))

    is_new : (told : Pair) → GivesNew naming claims shown n pair told → IsNew met keys both
    is_new told gives = record {
      straight = λ has.
          let some = (exact both).0 has in
          gives.first some.k some.pair some.before some.at (straight
          (one_name names both.earlier _ _ numbers.earlier some.numbers.earlier) (one_name names both.later _ _ numbers.later some.numbers.later));
      crossed = λ has.
          let some = (exact (turned both)).0 has in
          gives.first some.k some.pair some.before some.at (crossed
          (one_name names both.earlier _ _ numbers.earlier some.numbers.later) (one_name names both.later _ _ numbers.later some.numbers.earlier));
      unclaimed = λ has. gives.straight (claimed_key variables names claims keys are (locations place other) (keyed.Places both.earlier both.later)
          (λ claim is. only_places variables names place other both numbers claim (keyed.Places both.earlier both.later) refl is) has);
      unclaimed_crossed = λ has. gives.crossed (claimed_key variables names claims keys are (locations other place) (keyed.Places both.later both.earlier)
          (λ claim is. only_places variables names other place (turned both) (record { earlier = numbers.later; later = numbers.earlier }) claim
          (keyed.Places both.later both.earlier) refl is) has);
    }

    met_more : (after : List TwoPlaces) → ((two : TwoPlaces) → AreNumbersOf naming names pair two → two ≡ both) → IsMet both met after
        → (two : TwoPlaces) → Contains after two ↔ SomeShownAt naming names shown (n + 1) two
    met_more after only is =
        shown_more naming names shown n pair here met after (λ two. (
          λ has. elim ((is two).0 has) [
            | inl was ↦ inl was
            | inr same ↦ inr (subst (λ t. AreNumbersOf naming names pair t) (sym same) (record { earlier = numbers.earlier; later = numbers.later }))
          ],
          λ either. (is two).1 (elim either [ inl was ↦ inl was | inr own ↦ inr (only two own) ]),
        )) exact

    pub noted_missed : (after : List TwoPlaces) (old new : List Pair) → ((two : TwoPlaces) → AreNumbersOf naming names pair two → two ≡ both)
        → IsNew met keys both → IsMet both met after → new ≡ old ++ pair ∷ [] → AreGiven shown (GivesNew naming claims shown) ComesFirst n old
        → AreNoted naming names claims shown (n + 1) after new
    noted_missed after old new only is_fresh is e given = record {
      known = met_more after only is;
      given = subst (λ (l : List Pair). AreGiven shown (GivesNew naming claims shown) ComesFirst (n + 1) l) (sym e)
          (given_more shown ComesFirst ComesFirst (GivesNew naming claims shown) ordered carries n pair here pair (gives_new is_fresh)
          (λ w gives. sym gives.same) old given);
    }

    pub noted_passed : (after : List TwoPlaces) (old new : List Pair) → ((two : TwoPlaces) → AreNumbersOf naming names pair two → two ≡ both)
        → ¬ IsNew met keys both → IsMet both met after → new ≡ old → AreGiven shown (GivesNew naming claims shown) ComesFirst n old
        → AreNoted naming names claims shown (n + 1) after new
    noted_passed after old new only stale is e given = record {
      known = met_more after only is;
      given = subst (λ (l : List Pair). AreGiven shown (GivesNew naming claims shown) ComesFirst (n + 1) l) (sym e)
          (given_same shown ComesFirst ComesFirst (GivesNew naming claims shown) ordered carries n pair here (λ told gives. stale (is_new told gives)) old given);
    }

  pub noted_more : (n : ℕ) (pair : Pair) → slice_get shown n ≡ Some pair → (met after : List TwoPlaces) (old new : List Pair) (found : Option TwoPlaces)
      → ((both : TwoPlaces) → AreTwoNumbers names (side_place naming pair.earlier.event.location) (side_place naming pair.later.event.location) both
      ↔ (found ≡ Some both))
      → ((both : TwoPlaces) × AreTwoNumbers names (side_place naming pair.earlier.event.location) (side_place naming pair.later.event.location) both)
      → IsNoted keys pair met after old new found → AreNoted naming names claims shown n met old → AreNoted naming names claims shown (n + 1) after new
  noted_more n pair here met after old new _ test (both, numbers) (nameless e f) noted =
      let is = (test both).0 numbers in let never : ⊥ = cc in absurd never
  noted_more n pair here met after old new _ test some (missed {both = both} fresh is e) noted =
      noted_missed n pair here met noted.known both ((test both).1 refl) after old new
      (λ two own. same_Some two both (sym ((test two).0 (record { earlier = own.earlier; later = own.later })))) fresh is e noted.given
  noted_more n pair here met after old new _ test some (passed {both = both} stale is e) noted =
      noted_passed n pair here met noted.known both ((test both).1 refl) after old new
      (λ two own. same_Some two both (sym ((test two).0 (record { earlier = own.earlier; later = own.later })))) stale is e noted.given

-- ---- all pairs

contained : (shown : List Pair) (k : ℕ) (pair : Pair) → slice_get shown k ≡ Some pair → Contains shown pair
contained shown k pair at = (k, slice_get_within shown k pair at, get_or_from_slice_get shown k pair pair at)

not_before_itself : (p : Pair) → ComesFirst p p → ⊥
not_before_itself p (inl lt) = omega arith
not_before_itself p (inr (e, lt)) = omega arith

not_both_ways : (p q : Pair) → ComesFirst p q → ComesFirst q p → ⊥
not_both_ways p q (inl lt) (inl lt') = omega arith
not_both_ways p q (inl lt) (inr (e, lt')) = omega arith
not_both_ways p q (inr (e, lt)) (inl lt') = omega arith
not_both_ways p q (inr (e, lt)) (inr (f, lt')) = omega arith

pub locations_are : (sought : Sought) (naming : Naming) (events : List Event) (names : List (List ℕ)) (claims : List LinedClaim) (shown : List Pair) (n : ℕ)
    (met : List TwoPlaces) (pairs : List Pair) → n ≡ length shown → AreShown sought events shown → AreNoted naming names claims shown n met pairs
    → AreMissedLocations sought naming events claims pairs
locations_are sought naming events names claims shown n met pairs end are noted = record {
  in_order = noted.given.in_order;
  exact = λ told. (
    λ has.
        let some = (noted.given.exact told).0 has in
        let at : slice_get shown some.k ≡ Some told = some.at ∙ ap Some some.gives.same in
        let gives = subst (λ (p : Pair). GivesNew naming claims shown some.k p told) some.gives.same some.gives in (
          (are.exact told).0 (contained shown some.k told at),
          λ other is first same. not_same told some.k at other is first same gives.first,
          gives.straight,
          gives.crossed,
        ),
    λ (is, first, free, free').
        let (k, lt, same) = (are.exact told).1 is in
        let at : slice_get shown k ≡ Some told = slice_get-get_or shown k told lt ∙ ap Some same in
        (noted.given.exact told).1 (record {
          k = k;
          y = told;
          before = omega arith;
          at = at;
          gives = record {
            same = refl;
            first = λ l other less there same_places. first other ((are.exact other).0 (contained shown l other there))
                (in_source shown ComesFirst are.in_order l k other told less there at) same_places;
            straight = free;
            crossed = free';
          };
        }),
  );
}
  where
    not_same : (told : Pair) (k : ℕ) → slice_get shown k ≡ Some told → (other : Pair) → IsShown sought events other → ComesFirst other told
        → HaveSamePlaces naming told other
        → ((l : ℕ) (old : Pair) → l < k → slice_get shown l ≡ Some old → ¬ HaveSamePlaces naming told old) → ⊥
    not_same told k at other is first same fresh =
        let (l, lt, e) = (are.exact other).1 is in
        let there : slice_get shown l ≡ Some other = slice_get-get_or shown l other lt ∙ ap Some e in
        elim (cases_order l k) [
          | inl equal ↦
              let one : other ≡ told = same_Some other told (sym there ∙ ap (slice_get shown) equal ∙ at) in
              not_before_itself told (subst (λ p. ComesFirst p told) one first)
          | inr (inl less) ↦ fresh l other less there same
          | inr (inr more) ↦ not_both_ways other told first (in_source shown ComesFirst are.in_order k l told other more at there)
        ]

-- ---- one pair more, by the names that were looked for

module _ (sought : Sought) (naming : Naming) (events : List Event) (names : List (List ℕ)) (claims : List LinedClaim) (variables : List (List ℕ))
    (keys : List Key) (shown : List Pair) (named : ArePlaceNames naming events (length events) names) (are : AreShown sought events shown)
    (are_keys : AreKeys variables names claims keys) where
  pub noted_found : (n : ℕ) (pair : Pair) → slice_get shown n ≡ Some pair → (met after : List TwoPlaces) (old new : List Pair) (found : Option TwoPlaces)
      → (known : List (List ℕ)) (place second : List ℕ) → known ≡ names → place ≡ side_place naming pair.earlier.event.location
      → second ≡ side_place naming pair.later.event.location
      → ((both : TwoPlaces) → AreTwoNumbers known place second both ↔ (found ≡ Some both)) → IsNoted keys pair met after old new found
      → AreNoted naming names claims shown n met old → AreNoted naming names claims shown (n + 1) after new
  noted_found n pair here met after old new found known place second same e f test is noted =
      noted_more naming names claims variables keys are_keys shown are.in_order n pair here met after old new found
      (λ both. subst (λ (l : List (List ℕ)). AreTwoNumbers l (side_place naming pair.earlier.event.location) (side_place naming pair.later.event.location) both
      ↔ (found ≡ Some both)) same
      (subst (λ (a : List ℕ). AreTwoNumbers known a (side_place naming pair.later.event.location) both ↔ (found ≡ Some both)) e
      (subst (λ (b : List ℕ). AreTwoNumbers known place b both ↔ (found ≡ Some both)) f (test both))))
      (numbers_of sought naming events names pair named ((are.exact pair).0 (contained shown n pair here))) is noted
