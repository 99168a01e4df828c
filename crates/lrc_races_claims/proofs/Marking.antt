-- What is told of an event says whether it races with an earlier one.
use Rattle.std.proofs.Common.{◌≡◌, ◌+◌, ◌-◌, ◌==◌, ℕ, zero, suc, ◌<◌, ◌≤◌, List, [], ◌∷◌, ◌++◌, Bool, not, length, inl, inr, refl, sym, subst, ◌∙◌, ap, arith}
use Rattle.std.specs.Prelude.{◌↔◌, ◌⊎◌, IsTrue, Contains, Some, slice_get}
use Rattle.std.proofs.lemmas.Bool.{cases_lt, eqb-false, ne_eqb, not-true, not_from_false}
use Rattle.std.proofs.lemmas.List.{length_push}
use Rattle.lrc_races_trace.specs.declared.event.Event.{Event}
use Rattle.lrc_races_trace.specs.declared.event.Pair.{Pair}
use Rattle.lrc_races_trace.specs.Trace.{At}
use Rattle.lrc_races_trace.specs.Races.{Races}
use Rattle.lrc_races_sure.specs.Sure.{IsSureRace}
use Rattle.lrc_races_text.specs.declared.asked.Sought.{Sought}
use Rattle.lrc_races_text.specs.declared.asked.Sought.TheVariants.{AllRaces, SureRaces}
use Rattle.lrc_races_text.specs.Sought.{AreSoughtAt}
use Rattle.lrc_races_claims.specs.Racing.{RacesBefore, AreMarked}

-- where something holds of positions before j, it holds of one that is the last of its thread
module _ (events : List Event) (j : ℕ) (Holds : ℕ → Type 0) (before : (i : ℕ) → Holds i → i < j)
    (at : (i : ℕ) → Holds i → (a : Event) × At events i a) where
  none_holds : ((i : ℕ) (a : Event) → At events i a → Holds i → ((k : ℕ) (c : Event) → At events k c → c.thread ≡ a.thread → Holds k → k ≤ i) → ⊥)
      → (fuel i : ℕ) (a : Event) → j - i ≤ fuel → At events i a → Holds i → ⊥
  none_holds none zero i a le here holds = let lt = before i holds in omega arith
  none_holds none (suc fuel) i a le here holds =
      none i a here holds (λ k c there same also.
      elim (cases_lt i k) [
        | inr le' ↦ le'
        | inl later ↦ absurd (none_holds none fuel k c (let lt = before i holds in omega arith) there also)
      ])

none_in : (pairs : List Pair) (pair : Pair) → length pairs ≡ 0 → Contains pairs pair → ⊥
none_in pairs pair e (k, lt, is) = omega arith

-- where nothing is told, it races with none
pub unraced : (sought : Sought) (events : List Event) (n : ℕ) (told : List Pair) → AreSoughtAt sought events n told → length told ≡ 0
    → RacesBefore sought events n → ⊥
unraced AllRaces events n told exact e races =
    let race : Races events races.i n = races.rivals in
    none_holds events n (λ i. Races events i n) (λ i r. r.earlier) (λ i r. (r.a, r.first))
    (λ i a here r last.
    none_in told (record { earlier = record { position = i; event = a }; later = record { position = n; event = r.b } }) e
    ((exact.exact (record { earlier = record { position = i; event = a }; later = record { position = n; event = r.b } })).1
    (record { first = here; second = r.second; races = r; last = last }, refl)))
    (n - races.i) races.i race.a (omega arith) race.first race
unraced SureRaces events n told exact e races =
    let race : IsSureRace events races.i n = races.rivals in
    none_holds events n (λ i. IsSureRace events i n) (λ i r. r.earlier) (λ i r. (r.a, r.first))
    (λ i a here r last.
    none_in told (record { earlier = record { position = i; event = a }; later = record { position = n; event = r.b } }) e
    ((exact.exact (record { earlier = record { position = i; event = a }; later = record { position = n; event = r.b } })).1
    (record { first = here; second = r.second; sure = r; last = last }, refl)))
    (n - races.i) races.i race.a (omega arith) race.first race

-- where something is told, it races with that
pub raced : (sought : Sought) (events : List Event) (n : ℕ) (told : List Pair) → AreSoughtAt sought events n told → (length told ≡ 0 → ⊥)
    → RacesBefore sought events n
raced AllRaces events n [] exact some = absurd (some refl)
raced AllRaces events n (pair ∷ told) exact some =
    let (is, e) = (exact.exact pair).0 (zero, omega arith, refl) in
    record { i = pair.earlier.position; rivals = subst (λ m. Races events pair.earlier.position m) e is.races }
raced SureRaces events n [] exact some = absurd (some refl)
raced SureRaces events n (pair ∷ told) exact some =
    let (is, e) = (exact.exact pair).0 (zero, omega arith, refl) in
    record { i = pair.earlier.position; rivals = subst (λ m. IsSureRace events pair.earlier.position m) e is.sure }

-- a mark more
says : (sought : Sought) (events : List Event) (n : ℕ) (told : List Pair) (empty : Bool) → AreSoughtAt sought events n told
    → empty ≡ (length told == 0) → IsTrue (not empty) ↔ RacesBefore sought events n
says sought events n told empty exact e = (
  λ set. raced sought events n told exact (eqb-false (length told) 0 (sym e ∙ not-true empty set)),
  λ races. not_from_false empty (e ∙ ne_eqb (length told) 0 (λ none. unraced sought events n told exact none races)),
)

pub push_cases : {X : Type 0} (xs : List X) (x y : X) (k : ℕ) → slice_get (xs ++ x ∷ []) k ≡ Some y → (slice_get xs k ≡ Some y) ⊎ ((k ≡ length xs) × (x ≡ y))
push_cases [] x y zero e = inr (refl, let is : x ≡ y = cc in is)
push_cases [] x y (suc k) e = let never : ⊥ = cc in absurd never
push_cases (z ∷ xs) x y zero e = inl e
push_cases (z ∷ xs) x y (suc k) e =
    elim (push_cases xs x y k e) [
      | inl is ↦ inl is
      | inr (at, is) ↦ inr (ap suc at, is)
    ]

pub mark_more : (sought : Sought) (events : List Event) (n : ℕ) (marks : List Bool) (told : List Pair) (empty : Bool) → AreMarked sought events n marks
    → AreSoughtAt sought events n told → empty ≡ (length told == 0) → AreMarked sought events (n + 1) (marks ++ not empty ∷ [])
mark_more sought events n marks told empty marked exact e = record {
  long = let more = length_push marks (not empty) in let long = marked.long in omega arith;
  exact = λ j mark is.
      elim (push_cases marks (not empty) mark j is) [
        | inl old ↦ marked.exact j mark old
        | inr (at, same) ↦
            subst (λ (b : Bool). IsTrue b ↔ RacesBefore sought events j) same
            (subst (λ m. IsTrue (not empty) ↔ RacesBefore sought events m) (sym (at ∙ marked.long)) (says sought events n told empty exact e))
      ];
}

pub mark_none : (sought : Sought) (events : List Event) → AreMarked sought events 0 []
mark_none sought events = record { long = refl; exact = λ j mark is. let never : ⊥ = cc in absurd never }
