-- The places of accesses, with one event more, and what they say of claims.
use Rattle.std.proofs.Common.{◌≡◌, ◌+◌, ℕ, List, [], ◌∷◌, length, inl, inr, refl, sym, subst, ap, ◌∙◌, arith}
use Rattle.std.specs.Prelude.{◌⊎◌, Some, Contains, slice_get}
use Rattle.std.proofs.lemmas.Bool.{cases_eq}
use Rattle.std.proofs.lemmas.List.Elements.{Contains-push, Contains-push_cases, Contains-append_left}
use Rattle.std.proofs.lemmas.Option.{slice_get_within, get_or_from_slice_get}
use Rattle.lrc_races_trace.specs.declared.event.Event.{Event}
use Rattle.lrc_races_trace.specs.Trace.{At, Accesses}
use Rattle.lrc_races_trace.proofs.Positions.{At-one}
use Rattle.lrc_races_lines.specs.Table.{IsNumbered, met, new}
use Rattle.lrc_races_text.specs.Naming.{Naming}
use Rattle.lrc_races_text.specs.Spelled.{side_place}
use Rattle.lrc_races_claims.specs.Placed.{SomeIsBefore, ArePlaceNames}
use Rattle.lrc_races_claims.specs.Truth.{AccessesAt}

-- ---- names of places

contained : (names : List (List ℕ)) (name : List ℕ) (k : ℕ) → slice_get names k ≡ Some name → Contains names name
contained names name k e = (k, slice_get_within names k name e, get_or_from_slice_get names k name name e)

module _ (naming : Naming) (events : List Event) (n : ℕ) (event : Event) (here : At events n event) where
  later : (place : List ℕ) → SomeIsBefore naming events n place → SomeIsBefore naming events (n + 1) place
  later place some = record { position = some.position; is = some.is; before = let lt = some.before in omega arith; at = some.at; accesses = some.accesses }

  -- of the events with this one, what is at a place is at it before, or is this
  was_or_is : (place : List ℕ) → SomeIsBefore naming events (n + 1) place → SomeIsBefore naming events n place ⊎ AccessesAt naming place event
  was_or_is place some =
      elim (cases_eq some.position n) [
        | inl same ↦
            let e : some.is ≡ event = At-one (subst (λ m. At events m some.is) same some.at) here in
            inr (subst (λ (x : Event). AccessesAt naming place x) e some.accesses)
        | inr other ↦
            let lt = some.before in
            inl (record { position = some.position; is = some.is; before = omega arith; at = some.at; accesses = some.accesses })
      ]

  pub place_passed : ((v : ℕ) → Accesses event v → ⊥) → (names : List (List ℕ)) → ArePlaceNames naming events n names
      → ArePlaceNames naming events (n + 1) names
  place_passed none names are = record {
    exact = λ place. (
      λ has. later place ((are.exact place).0 has),
      λ some. elim (was_or_is place some) [
        | inl was ↦ (are.exact place).1 was
        | inr is ↦ absurd (none is.number is.accesses)
      ],
    );
  }

  this_one : (v : ℕ) → Accesses event v → SomeIsBefore naming events (n + 1) (side_place naming event.location)
  this_one v accesses = record {
    position = n;
    is = event;
    before = omega arith;
    at = here;
    accesses = record { number = v; accesses = accesses; at = refl };
  }

  pub place_noted : (v : ℕ) → Accesses event v → (before after : List (List ℕ)) (number : ℕ) (name : List ℕ) → name ≡ side_place naming event.location
      → IsNumbered before name after number → ArePlaceNames naming events n before → ArePlaceNames naming events (n + 1) after
  place_noted v accesses before after number name e numbered are = record {
    exact = λ place. (
      λ has. elim (has_cases before after number name numbered place has) [
        | inl was ↦ later place ((are.exact place).0 was)
        | inr same ↦ subst (λ p. SomeIsBefore naming events (n + 1) p) (sym e ∙ same) (this_one v accesses)
      ],
      λ some. elim (was_or_is place some) [
        | inl was ↦ kept before after number name numbered place ((are.exact place).1 was)
        | inr is ↦ subst (λ p. Contains after p) (e ∙ is.at) (has_it before after number name numbered)
      ],
    );
  }
    where
      has_cases : (before after : List (List ℕ)) (number : ℕ) (name : List ℕ) → IsNumbered before name after number → (place : List ℕ) → Contains after place
          → Contains before place ⊎ (name ≡ place)
      has_cases before after number name (met is) place has = inl has
      has_cases before after number name (new none) place has = Contains-push_cases before name place has

      kept : (before after : List (List ℕ)) (number : ℕ) (name : List ℕ) → IsNumbered before name after number → (place : List ℕ) → Contains before place
          → Contains after place
      kept before after number name (met is) place has = has
      kept before after number name (new none) place has = Contains-append_left before (name ∷ []) place has

      has_it : (before after : List (List ℕ)) (number : ℕ) (name : List ℕ) → IsNumbered before name after number → Contains after name
      has_it before after number name (met is) = contained before name number is
      has_it before after number name (new none) = Contains-push before name

pub places_none : (naming : Naming) (events : List Event) (names : List (List ℕ)) → names ≡ [] → ArePlaceNames naming events 0 names
places_none naming events names e = record {
  exact = λ place. (
    λ (k, lt, is). let long = ap length e in absurd (omega arith),
    λ some. let lt = some.before in absurd (omega arith),
  );
}
