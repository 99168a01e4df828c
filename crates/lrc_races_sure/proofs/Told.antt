-- Every sure race is told, or one with a later access of the same thread.
use Rattle.std.proofs.Common.{◌≡◌, ℕ, zero, suc, ◌-◌, ◌≤◌, ◌⊎◌, List, [], ◌∷◌, length, inl, inr, refl, sym, subst, ◌∙◌, ap, arith}
use Rattle.std.specs.Prelude.{Contains}
use Rattle.std.proofs.lemmas.Bool.{cases_eq, cases_lt}
use Rattle.lrc_races_trace.specs.declared.event.Event.{Event}
use Rattle.lrc_races_trace.specs.declared.event.Pair.{Pair}
use Rattle.lrc_races_trace.specs.Trace.{At}
use Rattle.lrc_races_trace.specs.Races.{Races}
use Rattle.lrc_races_sure.specs.Sure.{IsSureRace, IsSureTold, AreSureTold}
use Rattle.lrc_races_sure.proofs.Firsts.{sure-race, some_sure}

-- where something is in a longer list
Contains-later : (p q : Pair) (pairs : List Pair) → Contains pairs p → Contains (q ∷ pairs) p
Contains-later p q pairs (k, lt, is) = (suc k, omega arith, is)

-- a pair of this later access and of this thread stands in a list, or none does
find_pair : (j u : ℕ) (pairs : List Pair) → ((p : Pair) × Contains pairs p × (p.later.position ≡ j) × (p.earlier.event.thread ≡ u))
    ⊎ ((p : Pair) → Contains pairs p → p.later.position ≡ j → p.earlier.event.thread ≡ u → ⊥)
find_pair j u [] = inr (λ p (k, lt, is) at of. omega arith)
find_pair j u (q ∷ pairs) =
    elim (find_pair j u pairs) [
      | inl (p, has, at, of) ↦ inl (p, Contains-later p q pairs has, at, of)
      | inr none ↦
          elim (cases_eq q.later.position j) [
            | inr other ↦ inr (λ p has at of. elim (first_or p has) [
              | inl same ↦ other (ap (λ (x : Pair). x.later.position) same ∙ at)
              | inr rest ↦ none p rest at of
            ])
            | inl at_j ↦
                elim (cases_eq q.earlier.event.thread u) [
                  | inl of_u ↦ inl (q, (zero, omega arith, refl), at_j, of_u)
                  | inr other ↦ inr (λ p has at of. elim (first_or p has) [
                    | inl same ↦ other (ap (λ (x : Pair). x.earlier.event.thread) same ∙ of)
                    | inr rest ↦ none p rest at of
                  ])
                ]
          ]
    ]
  where
    first_or : (p : Pair) → Contains (q ∷ pairs) p → (q ≡ p) ⊎ Contains pairs p
    first_or p (zero, lt, is) = inl is
    first_or p (suc k, lt, is) = inr (k, omega arith, is)

module _ (events : List Event) (j : ℕ) (u : ℕ) where
  -- where no pair of the thread with the access is told, none is a sure race
  unraced : ((p : Pair) → IsSureTold events p → p.later.position ≡ j → p.earlier.event.thread ≡ u → ⊥)
      → (fuel i : ℕ) (a : Event) → j - i ≤ fuel → At events i a → a.thread ≡ u → IsSureRace events i j → ⊥
  unraced none zero i a le at of race = let lt = race.earlier in omega arith
  unraced none (suc fuel) i a le at of race =
      let pair : Pair = record { earlier = record { position = i; event = a }; later = record { position = j; event = race.b } } in
      none pair (record {
        first = at;
        second = race.second;
        sure = race;
        last = λ k c there same r.
            elim (cases_lt i k) [
              | inr le' ↦ le'
              | inl later ↦ absurd (unraced none fuel k c (let lt = race.earlier in omega arith) there (same ∙ of) r)
            ];
      }) refl of

module _ (events : List Event) (pairs : List Pair) (told : AreSureTold events pairs) where
  pub race_told : (i j : ℕ) (a : Event) → At events i a → IsSureRace events i j
      → (p : Pair) × Contains pairs p × (p.later.position ≡ j) × (p.earlier.event.thread ≡ a.thread) × (i ≤ p.earlier.position)
  race_told i j a at race =
      elim (find_pair j a.thread pairs) [
        | inl (p, has, at_j, of) ↦
            let is = (told.exact p).0 has in
            (p, has, at_j, of, is.last i a at (sym of) (subst (λ m. IsSureRace events i m) (sym at_j) race))
        | inr none ↦ absurd (unraced events j a.thread (λ p is at_j of. none p ((told.exact p).1 is) at_j of) (j - i) i a (omega arith) at refl race)
      ]

  none_sure : pairs ≡ [] → (i j : ℕ) → IsSureRace events i j → ⊥
  none_sure e i j race =
      let (p, has, at, of, le) = race_told i j race.a race.first race in
      let (k, lt, is) = has in
      let long = ap length e in
      omega arith

  pub none_race : pairs ≡ [] → (i j : ℕ) → Races events i j → ⊥
  none_race e i j unsure =
      let (k, l, sure, le) = some_sure events j i j (omega arith) unsure in
      none_sure e k l sure

  pub none_told : ((i j : ℕ) → Races events i j → ⊥) → pairs ≡ []
  none_told none =
      empty pairs (λ p has.
      let is = (told.exact p).0 has in
      none p.earlier.position p.later.position (sure-race events p.earlier.position p.later.position is.sure))
    where
      empty : (ps : List Pair) → ((p : Pair) → Contains ps p → ⊥) → ps ≡ []
      empty [] f = refl
      empty (q ∷ ps) f = absurd (f q (zero, omega arith, refl))
