-- The positions at which something holds, in a list, and how many of them are below a position.
use Rattle.std.proofs.Common.{◌≡◌, ℕ, zero, suc, ◌+◌, ◌<◌, ◌≤◌, List, [], ◌∷◌, ◌++◌, length, inl, inr, refl, sym, subst, ◌∙◌, ap, arith, length-append}
use Rattle.std.specs.Prelude.{Some, slice_get}
use Rattle.std.proofs.lemmas.Bool.{cases_eq, cases_lt}
use Rattle.std.proofs.lemmas.Option.{slice_get_within, same_Some}
use Rattle.lrc_races_sure.proofs.Deciding.{Decided}

pub get-front : {A : Type 0} → (xs ys : List A) (k : ℕ) → k < length xs → slice_get (xs ++ ys) k ≡ slice_get xs k
get-front [] ys k h = absurd (omega arith)
get-front (x ∷ xs) ys zero h = refl
get-front (x ∷ xs) ys (suc k) h = get-front xs ys k (omega arith)

pub get-back : {A : Type 0} → (xs ys : List A) (i k : ℕ) → i ≡ length xs + k → slice_get (xs ++ ys) i ≡ slice_get ys k
get-back [] ys i k e = let same : i ≡ k = omega arith in ap (λ m. slice_get ys m) same
get-back (x ∷ xs) ys zero k e = absurd (omega arith)
get-back (x ∷ xs) ys (suc i) k e = get-back xs ys i k (omega arith)

module _ (P : ℕ → Type 0) (decide : (k : ℕ) → Decided (P k)) where
  abbrev added : (n : ℕ) → Decided (P n) → List ℕ → List ℕ
  added n (inl h) before = before ++ (n ∷ [])
  added n (inr denied) before = before

  -- those below n
  abbrev pub select : ℕ → List ℕ
  select zero = []
  select (suc n) = added n (decide n) (select n)

  -- how many they are
  abbrev pub rank : ℕ → ℕ
  rank n = length (select n)

  added-in : (n : ℕ) (d : Decided (P n)) (before : List ℕ) → P n → added n d before ≡ before ++ (n ∷ [])
  added-in n (inl h) before p = refl
  added-in n (inr denied) before p = absurd (denied p)

  added-out : (n : ℕ) (d : Decided (P n)) (before : List ℕ) → (P n → ⊥) → added n d before ≡ before
  added-out n (inl h) before denied = absurd (denied h)
  added-out n (inr none) before denied = refl

  added-more : (n : ℕ) (d : Decided (P n)) (before : List ℕ) → length before ≤ length (added n d before)
  added-more n (inl h) before = let e = length-append before (n ∷ []) in omega arith
  added-more n (inr denied) before = omega arith

  select-in : (n : ℕ) → P n → select (suc n) ≡ select n ++ (n ∷ [])
  select-in n p = added-in n (decide n) (select n) p

  select-out : (n : ℕ) → (P n → ⊥) → select (suc n) ≡ select n
  select-out n denied = added-out n (decide n) (select n) denied

  pub rank-in : (n : ℕ) → P n → rank (suc n) ≡ rank n + 1
  rank-in n p = ap (λ xs. length xs) (select-in n p) ∙ length-append (select n) (n ∷ [])

  pub rank-out : (n : ℕ) → (P n → ⊥) → rank (suc n) ≡ rank n
  rank-out n denied = ap (λ xs. length xs) (select-out n denied)

  pub rank-le : (p q : ℕ) → p ≤ q → rank p ≤ rank q
  rank-le p zero le = let same : p ≡ zero = omega arith in let e = ap rank same in omega arith
  rank-le p (suc q) le =
      elim (cases_eq p (suc q)) [
        | inl same ↦ let e = ap rank same in omega arith
        | inr other ↦ let less = rank-le p q (omega arith) in let grows = added-more q (decide q) (select q) in omega arith
      ]

  pub rank-lt : (p q : ℕ) → P p → p < q → rank p < rank q
  rank-lt p q h lt = let e = rank-in p h in let le = rank-le (suc p) q (omega arith) in omega arith

  -- those of lower rank are below
  pub rank-back : (p q : ℕ) → rank p < rank q → p < q
  rank-back p q lt = elim (cases_lt p q) [ inl below ↦ below | inr above ↦ let le = rank-le q p above in absurd (omega arith) ]

  -- each stands where its rank says
  pub chosen : (n p : ℕ) → p < n → P p → slice_get (select n) (rank p) ≡ Some p
  chosen zero p lt h = absurd (omega arith)
  chosen (suc n) p lt h =
      elim (cases_eq p n) [
        | inl same ↦
            let e = ap rank same in
            let length_one : rank p ≡ length (select n) + 0 = omega arith in
            let here : P n = subst P same h in
            ap (λ xs. slice_get xs (rank p)) (select-in n here) ∙ get-back (select n) (n ∷ []) (rank p) 0 length_one ∙ ap Some (sym same)
        | inr other ↦
            let early = chosen n p (omega arith) h in
            elim (decide n) [
              | inl here ↦
                  ap (λ xs. slice_get xs (rank p)) (select-in n here)
                  ∙ get-front (select n) (n ∷ []) (rank p) (slice_get_within (select n) (rank p) p early) ∙ early
              | inr denied ↦ ap (λ xs. slice_get xs (rank p)) (select-out n denied) ∙ early
            ]
      ]

  pub chosen_back : (n k p : ℕ) → slice_get (select n) k ≡ Some p → (p < n) × P p × (k ≡ rank p)
  chosen_back zero k p e = let never : ⊥ = cc in absurd never
  chosen_back (suc n) k p e =
      elim (decide n) [
        | inr denied ↦
            let (lt, h, is) = chosen_back n k p (sym (ap (λ xs. slice_get xs k) (select-out n denied)) ∙ e) in
            (omega arith, h, is)
        | inl here ↦
            let whole : slice_get (select n ++ (n ∷ [])) k ≡ Some p = sym (ap (λ xs. slice_get xs k) (select-in n here)) ∙ e in
            elim (cases_lt k (length (select n))) [
              | inl front ↦
                  let (lt, h, is) = chosen_back n k p (sym (get-front (select n) (n ∷ []) k front) ∙ whole) in
                  (omega arith, h, is)
              | inr back ↦
                  let within = slice_get_within (select n ++ (n ∷ [])) k p whole in
                  let long = length-append (select n) (n ∷ []) in
                  let place : k ≡ length (select n) + 0 = omega arith in
                  let same : n ≡ p = same_Some n p (sym (get-back (select n) (n ∷ []) k 0 place) ∙ whole) in
                  let e' = ap rank same in
                  (omega arith, subst P same here, omega arith)
            ]
      ]
