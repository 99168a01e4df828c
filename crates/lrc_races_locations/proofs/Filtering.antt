-- What a list contains, where one element comes first or some are left out.
use Rattle.std.proofs.Common.{◌≡◌, zero, suc, ◌⊎◌, List, [], ◌∷◌, inl, inr, refl, sym, subst, ◌∙◌, ap, arith, cond}
use Rattle.std.specs.Prelude.{Bool, true, false, Contains, filter}
use Rattle.std.proofs.lemmas.Bool.{true≢false}

module _ {X : Type 0} where
  pub front_cases : (xs : List X) (y x : X) → Contains (y ∷ xs) x → (x ≡ y) ⊎ Contains xs x
  front_cases xs y x (zero, lt, is) = inl (sym is)
  front_cases xs y x (suc k, lt, is) = inr (k, omega arith, is)

  pub front_there : (xs : List X) (y x : X) → Contains xs x → Contains (y ∷ xs) x
  front_there xs y x (k, lt, is) = (suc k, omega arith, is)

  pub front_here : (xs : List X) (y : X) → Contains (y ∷ xs) y
  front_here xs y = (0, omega arith, refl)

  pub contains_none : (x : X) → Contains [] x → ⊥
  contains_none x (k, lt, is) = omega (arith, lt)

  filter-step : (p : X → Bool) (y : X) (xs : List X) (b : Bool) → p y ≡ b → filter p (y ∷ xs) ≡ cond b (y ∷ filter p xs) (filter p xs)
  filter-step p y xs b e = ap (λ c. cond c (y ∷ filter p xs) (filter p xs)) e

  filter_by : (p : X → Bool) (y : X) (xs : List X) (x : X) (b : Bool) → p y ≡ b → Contains (filter p (y ∷ xs)) x
      → (Contains (filter p xs) x → Contains xs x × (p x ≡ true)) → Contains (y ∷ xs) x × (p x ≡ true)
  filter_by p y xs x true e h rest =
      elim (front_cases (filter p xs) y x (subst (λ l. Contains l x) (filter-step p y xs true e) h)) [
        | inl same ↦ (subst (λ z. Contains (y ∷ xs) z) (sym same) (front_here xs y), ap p same ∙ e)
        | inr later ↦ let (c, t) = rest later in (front_there xs y x c, t)
      ]
  filter_by p y xs x false e h rest =
      let (c, t) = rest (subst (λ l. Contains l x) (filter-step p y xs false e) h) in (front_there xs y x c, t)

  pub filter_cases : (p : X → Bool) (xs : List X) (x : X) → Contains (filter p xs) x → Contains xs x × (p x ≡ true)
  filter_cases p [] x h = absurd (contains_none x h)
  filter_cases p (y ∷ xs) x h = filter_by p y xs x (p y) refl h (filter_cases p xs x)

  filter_on : (p : X → Bool) (y : X) (xs : List X) (x : X) (b : Bool) → p y ≡ b → Contains (y ∷ xs) x → p x ≡ true
      → (Contains xs x → Contains (filter p xs) x) → Contains (filter p (y ∷ xs)) x
  filter_on p y xs x true e h t rest =
      subst (λ l. Contains l x) (sym (filter-step p y xs true e)) (elim (front_cases xs y x h) [
        | inl same ↦ subst (λ z. Contains (y ∷ filter p xs) z) (sym same) (front_here (filter p xs) y)
        | inr later ↦ front_there (filter p xs) y x (rest later)
      ])
  filter_on p y xs x false e h t rest =
      subst (λ l. Contains l x) (sym (filter-step p y xs false e)) (elim (front_cases xs y x h) [
        | inl same ↦ let never : true ≡ false = sym t ∙ ap p same ∙ e in absurd (true≢false never)
        | inr later ↦ rest later
      ])

  pub filter_there : (p : X → Bool) (xs : List X) (x : X) → Contains xs x → p x ≡ true → Contains (filter p xs) x
  filter_there p [] x h t = absurd (contains_none x h)
  filter_there p (y ∷ xs) x h t = filter_on p y xs x (p y) refl h t (λ later. filter_there p xs x later t)
