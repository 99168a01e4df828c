-- The positions of what is on the way, one event more.
use Rattle.std.proofs.Common.{◌≡◌, ℕ, ◌+◌, ◌<◌, ◌≤◌, List, [], ◌∷◌, ◌++◌, length, get_or, inl, inr, refl, sym, subst, ap, ◌∙◌, arith, append_assoc}
use Rattle.std.specs.Prelude.{◌⊎◌, ◌↔◌, AllPairs, Contains, slice_index}
use Rattle.std.proofs.lemmas.Bool.{cases_eq, cases_lt}
use Rattle.std.proofs.lemmas.Option.{slice_get-get_or}
use Rattle.lrc_races_trace.specs.Trace.{At}
use Rattle.lrc_races_witness.specs.Past.{IsWay}
use Rattle.lrc_races_witness.specs.Showing.{Shows}
use Rattle.lrc_races_witness.proofs.Showing.{shows}
use Rattle.std.proofs.lemmas.List.{get_or_default}
use Rattle.std.proofs.lemmas.List.Elements.{Contains-push, Contains-push_cases, Contains-append_left}
use Rattle.std.proofs.lemmas.List.Quantifiers.{all_pairs_push}
use Rattle.lrc_races_trace.specs.declared.event.Event.{Event}
use Rattle.lrc_races_sure.specs.Leading.{IsByWay}
use Rattle.lrc_races_sure.specs.Reordering.{AreOnTheWay}
use Rattle.lrc_races_sure.proofs.Leading.{way-forward}

-- by way of the event at this position one of both was reached
abbrev pub IsOnTheWay : List Event → ℕ → ℕ → ℕ → Type 0
IsOnTheWay events i j p = IsByWay events p i ⊎ IsByWay events p j

-- the positions before n of what is on the way
pub record AreBefore (events : List Event) (i j n : ℕ) (positions : List ℕ) : Type 0 where
  pub ascending : AllPairs (λ p q. p < q) positions
  pub exact : (p : ℕ) → Contains positions p ↔ ((p < n) × IsOnTheWay events i j p)

pub before-none : (events : List Event) (i j : ℕ) → AreBefore events i j 0 []
before-none events i j = record {
  ascending = λ p q d lt within. absurd (omega arith);
  exact = λ p. (λ (k, lt, is). absurd (omega arith), λ (lt, way). absurd (omega arith));
}

pub before-more : (events : List Event) (i j n : ℕ) (positions : List ℕ) → IsOnTheWay events i j n → AreBefore events i j n positions
    → AreBefore events i j (n + 1) (positions ++ n ∷ [])
before-more events i j n positions here old = record {
  ascending = all_pairs_push (λ p q. p < q) positions n old.ascending
      (λ k d within. ((old.exact (get_or positions k d)).0 (k, within, get_or_default positions k (get_or positions k d) d within)).0);
  exact = λ p. (
    λ has.
        elim (Contains-push_cases positions n p has) [
          | inl before ↦ let (lt, way) = (old.exact p).0 before in (omega arith, way)
          | inr same ↦ (omega arith, subst (λ m. IsOnTheWay events i j m) same here)
        ],
    λ (lt, way).
        elim (cases_eq p n) [
          | inl same ↦ subst (λ m. Contains (positions ++ n ∷ []) m) (sym same) (Contains-push positions n)
          | inr other ↦ Contains-append_left positions (n ∷ []) p ((old.exact p).1 (omega arith, way))
        ],
  );
}

pub before-same : (events : List Event) (i j n : ℕ) (positions : List ℕ) → (IsOnTheWay events i j n → ⊥) → AreBefore events i j n positions
    → AreBefore events i j (n + 1) positions
before-same events i j n positions none old = record {
  ascending = old.ascending;
  exact = λ p. (
    λ has. let (lt, way) = (old.exact p).0 has in (omega arith, way),
    λ (lt, way).
        elim (cases_eq p n) [
          | inl same ↦ absurd (none (subst (λ m. IsOnTheWay events i j m) same way))
          | inr other ↦ (old.exact p).1 (omega arith, way)
        ],
  );
}

-- one event more, which is added where one of both vectors has it
module _ (events : List Event) (i j n : ℕ) (d : Event) (lt : n < length events) (first second : List ℕ) (one : IsWay events i first)
    (other : IsWay events j second) where
  abbrev a : Event
  a = get_or events n d

  at : At events n a
  at = record { is = slice_get-get_or events n d lt }

  pub before-next : (old new : List ℕ)
      → ((n < slice_index first a.thread) ⊎ (n < slice_index second a.thread) → new ≡ old ++ n ∷ [])
      → (slice_index first a.thread ≤ n → slice_index second a.thread ≤ n → new ≡ old)
      → AreBefore events i j n old → AreBefore events i j (n + 1) new
  before-next old new on off before =
      elim (cases_lt n (slice_index first a.thread)) [
        | inl below ↦ subst (λ ps. AreBefore events i j (n + 1) ps) (sym (on (inl below)))
            (before-more events i j n old (inl ((one.exact n a at).0 below)) before)
        | inr above ↦
            elim (cases_lt n (slice_index second a.thread)) [
              | inl below ↦ subst (λ ps. AreBefore events i j (n + 1) ps) (sym (on (inr below)))
                  (before-more events i j n old (inr ((other.exact n a at).0 below)) before)
              | inr above' ↦ subst (λ ps. AreBefore events i j (n + 1) ps) (sym (off above above'))
                  (before-same events i j n old (λ way. elim way [
                    | inl w ↦ let below = (one.exact n a at).1 w in omega arith
                    | inr w ↦ let below = (other.exact n a at).1 w in omega arith
                  ]) before)
            ]
      ]

-- where all events are taken, it is all that is on the way
pub before-all : (events : List Event) (i j n : ℕ) (positions : List ℕ) → i < n → j < n → AreBefore events i j n positions
    → AreOnTheWay events i j (positions ++ (i ∷ j ∷ []))
before-all events i j n positions lt lt' old = record {
  front = positions;
  is = refl;
  ascending = old.ascending;
  exact = λ p. (
    λ has. ((old.exact p).0 has).1,
    λ way. (old.exact p).1 (
      elim way [
        | inl first ↦ let below = way-forward first in omega arith
        | inr second ↦ let below = way-forward second in omega arith
      ],
      way,
    ),
  );
}

-- the two behind all that is on the way show the race
pub shown : (events : List Event) (i j n : ℕ) (front between positions : List ℕ) → i < j → j < length events → length events ≤ n
    → AreBefore events i j n front → between ≡ front ++ i ∷ [] → positions ≡ between ++ j ∷ [] → Shows events i j positions
shown events i j n front between positions lt within all before e f =
    let same : positions ≡ front ++ (i ∷ j ∷ []) = f ∙ ap (λ xs. xs ++ j ∷ []) e ∙ append_assoc front (i ∷ []) (j ∷ []) in
    subst (λ ps. Shows events i j ps) (sym same) (shows events i j (front ++ (i ∷ j ∷ [])) (before-all events i j n front (omega arith) (omega arith) before))
