-- What the items of a list give, one after another.
use Rattle.std.proofs.Common.{◌≡◌, ◌+◌, ℕ, ◌<◌, List, [], ◌∷◌, ◌++◌, length, get_or, inl, inr, sym, subst, ap, ◌∙◌, arith}
use Rattle.std.specs.Prelude.{◌⊎◌, ◌↔◌, AllPairs, Contains, Some, slice_get}
use Rattle.std.proofs.lemmas.Bool.{cases_eq, cases_lt}
use Rattle.std.proofs.lemmas.List.{length_push, get_or_push, get_or_append_left, get_or_default}
use Rattle.std.proofs.lemmas.List.Elements.{Contains-push, Contains-push_cases, Contains-append_left}
use Rattle.std.proofs.lemmas.Option.{slice_get_within, get_or_from_slice_get, same_Some}

-- one of the first n items gives this
pub record SomeGives {Y X : Type 0} (source : List Y) (Gives : ℕ → Y → X → Type 0) (n : ℕ) (x : X) : Type 0 where
  pub k : ℕ
  pub y : Y
  pub before : k < n
  pub at : slice_get source k ≡ Some y
  pub gives : Gives k y x

-- these are given by the first n items, in order
pub record AreGiven {Y X : Type 0} (source : List Y) (Gives : ℕ → Y → X → Type 0) (S : X → X → Type 0) (n : ℕ) (xs : List X) : Type 0 where
  pub in_order : AllPairs S xs
  pub exact : (x : X) → Contains xs x ↔ SomeGives source Gives n x

pub in_source : {Y : Type 0} (source : List Y) (R : Y → Y → Type 0) → AllPairs R source → (k l : ℕ) (y z : Y) → k < l → slice_get source k ≡ Some y
    → slice_get source l ≡ Some z → R y z
in_source source R all k l y z lt at at' =
    let first = get_or_from_slice_get source k y y at in
    let second = get_or_from_slice_get source l z y at' in
    subst (λ w. R w z) first (subst (λ w. R (get_or source k y) w) second (all k l y lt (slice_get_within source l z at')))

pub push_in_order : {X : Type 0} (S : X → X → Type 0) (xs : List X) (x : X) → AllPairs S xs → ((w : X) → Contains xs w → S w x) → AllPairs S (xs ++ x ∷ [])
push_in_order S xs x all below i j d lt within =
    let long = length_push xs x in
    elim (cases_lt j (length xs)) [
      | inl left ↦
          let i_left : i < length xs = omega arith in
          rw (get_or_append_left xs (x ∷ []) d i i_left, get_or_append_left xs (x ∷ []) d j left) (all i j d lt left)
      | inr right ↦
          let last : j ≡ length xs = omega arith in
          let i_left : i < length xs = omega arith in
          rw (get_or_append_left xs (x ∷ []) d i i_left, get_or_push xs x d j (sym last)) (below (get_or xs i d) (i, i_left, get_or_default xs i (get_or xs i d) d i_left))
    ]

module _ {Y X : Type 0} (source : List Y) (R : Y → Y → Type 0) (S : X → X → Type 0) (Gives : ℕ → Y → X → Type 0) (ordered : AllPairs R source)
    (carries : (k l : ℕ) (y z : Y) (x w : X) → Gives k y x → Gives l z w → R y z → S x w) where
  later : (n : ℕ) (x : X) → SomeGives source Gives n x → SomeGives source Gives (n + 1) x
  later n x some = record { k = some.k; y = some.y; before = let lt = some.before in omega arith; at = some.at; gives = some.gives }

  was_or_is : (n : ℕ) (y : Y) → slice_get source n ≡ Some y → (x : X) → SomeGives source Gives (n + 1) x → SomeGives source Gives n x ⊎ Gives n y x
  was_or_is n y here x some =
      elim (cases_eq some.k n) [
        | inl same ↦
            let e : some.y ≡ y = same_Some some.y y (sym some.at ∙ ap (slice_get source) same ∙ here) in
            inr (subst (λ z. Gives n z x) e (subst (λ m. Gives m some.y x) same some.gives))
        | inr other ↦
            let lt = some.before in
            inl (record { k = some.k; y = some.y; before = omega arith; at = some.at; gives = some.gives })
      ]

  pub given_same : (n : ℕ) (y : Y) → slice_get source n ≡ Some y → ((x : X) → Gives n y x → ⊥) → (xs : List X) → AreGiven source Gives S n xs
      → AreGiven source Gives S (n + 1) xs
  given_same n y here none xs are = record {
    in_order = are.in_order;
    exact = λ x. (
      λ has. later n x ((are.exact x).0 has),
      λ some. elim (was_or_is n y here x some) [
        | inl was ↦ (are.exact x).1 was
        | inr gives ↦ absurd (none x gives)
      ],
    );
  }

  pub given_more : (n : ℕ) (y : Y) → slice_get source n ≡ Some y → (x : X) → Gives n y x → ((w : X) → Gives n y w → w ≡ x) → (xs : List X)
      → AreGiven source Gives S n xs → AreGiven source Gives S (n + 1) (xs ++ x ∷ [])
  given_more n y here x gives only xs are = record {
    in_order = push_in_order S xs x are.in_order (λ w has.
        let some = (are.exact w).0 has in
        carries some.k n some.y y w x some.gives gives (in_source source R ordered some.k n some.y y some.before some.at here));
    exact = λ w. (
      λ has. elim (Contains-push_cases xs x w has) [
        | inl was ↦ later n w ((are.exact w).0 was)
        | inr same ↦ record { k = n; y = y; before = omega arith; at = here; gives = subst (λ v. Gives n y v) same gives }
      ],
      λ some. elim (was_or_is n y here w some) [
        | inl was ↦ Contains-append_left xs (x ∷ []) w ((are.exact w).1 was)
        | inr is ↦ subst (λ v. Contains (xs ++ x ∷ []) v) (sym (only w is)) (Contains-push xs x)
      ],
    );
  }

pub given_none : {Y X : Type 0} (source : List Y) (Gives : ℕ → Y → X → Type 0) (S : X → X → Type 0) → AreGiven source Gives S 0 []
given_none source Gives S = record {
  in_order = λ i j d lt within. absurd (omega arith);
  exact = λ x. (λ (k, lt, is). absurd (omega arith), λ some. let lt = some.before in absurd (omega arith));
}
