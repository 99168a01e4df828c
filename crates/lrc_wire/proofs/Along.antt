-- What each element of a list has, by what came before it.
use Rattle.std.proofs.Common.{◌≡◌, ℕ, zero, suc, ◌+◌, ◌<◌, ◌≤◌, Bool, true, ltb, List, [], ◌∷◌, length}
use Rattle.std.proofs.Common.{get_or, Option, Some, None, Ok, refl, ap, subst, arith, inl, inr}
use Rattle.std.specs.Prelude.{All, AllPairs}
use Rattle.std.specs.List.Sorted.{IsStrictlyIncreasing}
use Rattle.std.proofs.lemmas.Bool.{ltb-true, lt-ltb, cases_lt}
use Rattle.std.proofs.lemmas.List.Elements.{All-nil, All-cons, All-head, All-tail, All-weaker}
use Rattle.std.proofs.lemmas.List.Kept.{AllPairs-cons, AllPairs-from_increasing}
use Rattle.lrc_wire.specs.Reading.{◌>>=◌, Field, elements_at, is_after}
use Rattle.lrc_wire.proofs.Steps.{bind_ok, ok_is}

-- each element has a fact, stated with what is known of those before it
abbrev pub Along : {S A : Type 0} → (S → A → Type 0) → (S → A → S) → S → List A → Type 0
Along P next state [] = Unit {0}
Along P next state (x ∷ xs) = P state x × Along P next (next state x) xs

-- elements that were read have what reading one says of it
pub elements_along : {S A : Type 0} (element : S → List ℕ → Field A) (next : S → A → S) (P : S → A → Type 0)
    → ((state : S) (bytes : List ℕ) (x : A) (rest : List ℕ) → element state bytes ≡ Ok (x, rest) → P state x)
    → (count : ℕ) (state : S) (bytes : List ℕ) (xs : List A) (rest : List ℕ) → elements_at element next count state bytes ≡ Ok (xs, rest) → (length xs ≡ count)
    × Along P next state xs
unfolding elements_at
elements_along {S} {A} element next P one zero state bytes xs rest e =
    subst (λ (y : List A × List ℕ). (length y.0 ≡ 0) × Along P next state y.0) (ok_is ([], bytes) (xs, rest) e) (refl, tt)
elements_along {S} {A} element next P one (suc count) state bytes xs rest e =
    let a = bind_ok (element state bytes) (λ first. elements_at element next count (next state first.0) first.1 >>= λ others. Ok (first.0 ∷ others.0, others.1))
    (xs, rest) e in
    let b = bind_ok (elements_at element next count (next state a.0.0) a.0.1) (λ others. Ok (a.0.0 ∷ others.0, others.1)) (xs, rest) a.2 in
    let others = elements_along element next P one count (next state a.0.0) a.0.1 b.0.0 b.0.1 b.1 in
    subst (λ (y : List A × List ℕ). (length y.0 ≡ suc count) × Along P next state y.0) (ok_is (a.0.0 ∷ b.0.0, b.0.1) (xs, rest) b.2)
    (ap suc others.0, (one state bytes a.0.0 a.0.1 a.1, others.1))

-- what holds at a place, where the state counts the places
pub along_at : {A : Type 0} (P : ℕ → A → Type 0) (start : ℕ) (xs : List A) (d : A) (k place : ℕ) → place ≡ start + k → k < length xs
    → Along P (λ i _. i + 1) start xs → P place (get_or xs k d)
along_at P start [] d k place e within h = absurd (omega arith)
along_at P start (x ∷ xs) d zero place e within h =
    let same : start ≡ place = omega arith in
    subst (λ (i : ℕ). P i x) same h.0
along_at P start (x ∷ xs) d (suc k) place e within h = along_at P (start + 1) xs d k place (omega arith) (omega arith) h.1

pub along_from : {A : Type 0} (P : ℕ → A → Type 0) (start : ℕ) (xs : List A)
    → ((k place : ℕ) (d : A) → place ≡ start + k → k < length xs → P place (get_or xs k d)) → Along P (λ i _. i + 1) start xs
along_from P start [] h = tt
along_from P start (x ∷ xs) h =
    (h 0 start x (omega arith) (omega arith), along_from P (start + 1) xs (λ k place d e within. h (suc k) place d (omega arith) (omega arith)))

-- a fact that asks nothing of what came before
pub All-from_along : {S A : Type 0} (P : A → Type 0) (next : S → A → S) (state : S) (xs : List A) → Along (λ _ x. P x) next state xs → All P xs
All-from_along P next state [] h = All-nil P
All-from_along P next state (x ∷ xs) h = All-cons P x xs h.0 (All-from_along P next (next state x) xs h.1)

pub along_from_all : {S A : Type 0} (P : A → Type 0) (next : S → A → S) (state : S) (xs : List A) → All P xs → Along (λ _ x. P x) next state xs
along_from_all P next state [] h = tt
along_from_all P next state (x ∷ xs) h = (All-head P x xs h, along_from_all P next (next state x) xs (All-tail P x xs h))

-- ---- elements that ascend

module _ {K A : Type 0} (below : K → K → Bool) (key : A → K) (P : A → Type 0) where
  -- an element has P, and is above the one before
  abbrev pub Ascends : Option K → A → Type 0
  Ascends before x = P x × (is_after below before (key x) ≡ true)

  abbrev pub Follow : Option K → List A → Type 0
  Follow before xs = Along Ascends (λ _ x. Some (key x)) before xs

  pub All-from_follow : (before : Option K) (xs : List A) → Follow before xs → All P xs
  All-from_follow before [] h = All-nil P
  All-from_follow before (x ∷ xs) h = All-cons P x xs h.0.0 (All-from_follow (Some (key x)) xs h.1)

  module _ (goes_on : (a b c : K) → below a b ≡ true → below b c ≡ true → below a c ≡ true) where
    above : (k : K) (xs : List A) → Follow (Some k) xs → All (λ y. below k (key y) ≡ true) xs
    unfolding is_after
    above k [] h = All-nil (λ y. below k (key y) ≡ true)
    above k (x ∷ xs) h =
        All-cons (λ y. below k (key y) ≡ true) x xs h.0.1
        (All-weaker (λ y. below (key x) (key y) ≡ true) (λ y. below k (key y) ≡ true) (λ y q. goes_on k (key x) (key y) h.0.1 q) xs (above (key x) xs h.1))

    pub AllPairs-from_follow : (before : Option K) (xs : List A) → Follow before xs → AllPairs (λ a b. below (key a) (key b) ≡ true) xs
    AllPairs-from_follow before [] h = λ i j d lt within. absurd (omega arith)
    AllPairs-from_follow before (x ∷ xs) h =
        AllPairs-cons (λ a b. below (key a) (key b) ≡ true) x xs (above (key x) xs h.1) (AllPairs-from_follow (Some (key x)) xs h.1)

  pub follow_from_pairs : (before : Option K) (xs : List A) → All P xs → AllPairs (λ a b. below (key a) (key b) ≡ true) xs
      → All (λ x. is_after below before (key x) ≡ true) xs → Follow before xs
  unfolding is_after
  follow_from_pairs before [] each pairs first = tt
  follow_from_pairs before (x ∷ xs) each pairs first = (
    (All-head P x xs each, All-head (λ y. is_after below before (key y) ≡ true) x xs first),
    follow_from_pairs (Some (key x)) xs (All-tail P x xs each)
        (λ i j d lt within. pairs (suc i) (suc j) d (omega arith) (omega arith))
        (λ k d within. pairs 0 (suc k) d (omega arith) (omega arith)),
  )

-- ---- numbers that ascend

pub lt-trans : (a b c : ℕ) → ltb a b ≡ true → ltb b c ≡ true → ltb a c ≡ true
lt-trans a b c p q = lt-ltb a c (omega (arith, ltb-true a b p, ltb-true b c q))

module _ (P : ℕ → Type 0) where
  pub increasing_from_follow : (before : Option ℕ) (xs : List ℕ) → Follow ltb (λ n. n) P before xs → IsStrictlyIncreasing xs
  increasing_from_follow before xs h k within =
      ltb-true (get_or xs k 0) (get_or xs (k + 1) 0) (AllPairs-from_follow ltb (λ n. n) P lt-trans before xs h k (k + 1) 0 (omega arith) within)

  pub follow_from_increasing : (xs : List ℕ) → All P xs → IsStrictlyIncreasing xs → Follow ltb (λ n. n) P None xs
  unfolding is_after
  follow_from_increasing xs each rises =
      follow_from_pairs ltb (λ n. n) P None xs each
      (λ i j d lt within. lt-ltb (get_or xs i d) (get_or xs j d) (AllPairs-from_increasing xs rises i j d lt within))
      (λ k d within. refl)

-- ---- how many fit below a bound

module _ {A : Type 0} (key : A → ℕ) (xs : List A) (rises : AllPairs (λ a b. key a < key b) xs) where
  place_le : (k : ℕ) (d : A) → k < length xs → k ≤ key (get_or xs k d)
  place_le zero d within = omega arith
  place_le (suc k) d within = omega (arith, place_le k d (omega arith), rises k (suc k) d (omega arith) within)

pub few_below : {A : Type 0} (key : A → ℕ) (xs : List A) → AllPairs (λ a b. key a < key b) xs → (most : ℕ) → All (λ x. key x < most) xs → length xs ≤ most
few_below key [] rises most each = omega arith
few_below key (x ∷ xs) rises most each =
    elim (cases_lt most (length (x ∷ xs))) [
      | inl lt ↦ absurd (omega (arith, place_le key (x ∷ xs) rises most x lt, each most x lt))
      | inr le ↦ le
    ]
