-- Lists of what there is of each number, and of each of some things: where they are the same, so is each of their elements.
use Rattle.std.proofs.Common.{◌≡◌, ℕ, zero, suc, ◌+◌, ◌<◌, ◌≤◌, ◌⊎◌, List, [], ◌∷◌, ◌++◌, map, inl, inr, refl, subst, ap, ap₂, arith}
use Rattle.std.proofs.lemmas.Bool.{cases_eq}
use Rattle.lrc_exact_states.specs.Key.{each_from}

-- of two lists that are the same, the first elements and the rests
same_first : {A : Type 0} (x y : A) (xs ys : List A) → ◌≡◌ {A = List A} (x ∷ xs) (y ∷ ys) → (x ≡ y) × (xs ≡ ys)
same_first x y xs ys e = (cc, cc)

module _ {A : Type 0} (f g : ℕ → A) where
  pub each_same : (first count : ℕ) → each_from first count f ≡ each_from first count g → (i : ℕ) → first ≤ i → i < first + count → f i ≡ g i
  each_same first zero e i low high = absurd (omega (arith, low, high))
  each_same first (suc count) e i low high =
      let parts = same_first (f first) (g first) (each_from (suc first) count f) (each_from (suc first) count g) e in
      elim (cases_eq first i) [
        | inl is ↦ subst (λ k. f k ≡ g k) is parts.0
        | inr other ↦ each_same (suc first) count parts.1 i (omega (arith, low, other)) (omega (arith, high))
      ]

  pub each_agree : (first count : ℕ) → ((i : ℕ) → first ≤ i → i < first + count → f i ≡ g i) → each_from first count f ≡ each_from first count g
  each_agree first zero same = refl
  each_agree first (suc count) same =
      ap₂ (λ x xs. x ∷ xs) (same first (omega arith) (omega arith)) (each_agree (suc first) count (λ i low high. same i (omega (arith, low)) (omega (arith, high))))

module _ {A : Type 0} where
  -- an element of a list
  abbrev pub Has : List A → A → Type 0
  Has [] x = ⊥
  Has (y ∷ ys) x = (y ≡ x) ⊎ Has ys x

  pub has_first : (xs ys : List A) (x : A) → Has xs x → Has (xs ++ ys) x
  has_first [] ys x has = absurd has
  has_first (y ∷ xs) ys x (inl is) = inl is
  has_first (y ∷ xs) ys x (inr has) = inr (has_first xs ys x has)

  pub has_second : (xs ys : List A) (x : A) → Has ys x → Has (xs ++ ys) x
  has_second [] ys x has = has
  has_second (y ∷ xs) ys x has = inr (has_second xs ys x has)

  pub has_cases : (xs ys : List A) (x : A) → Has (xs ++ ys) x → Has xs x ⊎ Has ys x
  has_cases [] ys x has = inr has
  has_cases (y ∷ xs) ys x (inl is) = inl (inl is)
  has_cases (y ∷ xs) ys x (inr has) = elim (has_cases xs ys x has) [ inl one ↦ inl (inr one) | inr other ↦ inr other ]

  pub has_each : (f : ℕ → A) (first count i : ℕ) → first ≤ i → i < first + count → Has (each_from first count f) (f i)
  has_each f first zero i low high = absurd (omega (arith, low, high))
  has_each f first (suc count) i low high = elim (cases_eq first i) [
    | inl is ↦ inl (ap f is)
    | inr other ↦ inr (has_each f (suc first) count i (omega (arith, low, other)) (omega (arith, high)))
  ]

  pub record IsEach (f : ℕ → A) (first count : ℕ) (x : A) : Type 0 where
    pub at : ℕ
    pub high : at < first + count
    pub is : f at ≡ x

  pub each_is : (f : ℕ → A) (first count : ℕ) (x : A) → Has (each_from first count f) x → IsEach f first count x
  each_is f first zero x has = absurd has
  each_is f first (suc count) x (inl is) = record { at = first; high = omega arith; is = is }
  each_is f first (suc count) x (inr has) =
      let e = each_is f (suc first) count x has in
      let h = e.high in
      record { at = e.at; high = omega (arith, h); is = e.is }

pub map_same : {A B : Type 0} (f g : A → B) (xs : List A) → map f xs ≡ map g xs → (x : A) → Has xs x → f x ≡ g x
map_same f g [] e x has = absurd has
map_same f g (y ∷ ys) e x has =
    let parts = same_first (f y) (g y) (map f ys) (map g ys) e in
    elim has [
      | inl is ↦ subst (λ z. f z ≡ g z) is parts.0
      | inr rest ↦ map_same f g ys parts.1 x rest
    ]
