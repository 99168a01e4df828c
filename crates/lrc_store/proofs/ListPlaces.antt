-- A list has exactly the places of its key.
use Rattle.std.proofs.Common.{◌≡◌, ℕ, zero, suc, ◌+◌, ◌<◌, ◌≤◌, ◌∙◌, ◌↔◌, Bool, true, false, cond, eqb, eqb-true}
use Rattle.std.proofs.Common.{List, ◌∷◌, length, get_or, take, refl, ap, sym, subst, ⊎_elim, arith}
use Rattle.std.specs.List.{AllPairs, Contains}
use Rattle.std.proofs.lemmas.Bool.{true≢false, cases_lt, eq-eqb}
use Rattle.std.proofs.lemmas.List.{get_or_default, take_more, take_all, length-take-le}
use Rattle.lrc_store.specs.Lists.{list_of}
use Rattle.lrc_store.proofs.Followed.{list_of-push}
use Rattle.lrc_store.proofs.Orders.{Contains-first, Contains-later, cases_Contains, none_Contains}

-- the list of the first keys
abbrev taken_list : List ℕ → ℕ → ℕ → List ℕ
taken_list keys key n = list_of (take n keys) key

list_more : (keys : List ℕ) (key n : ℕ) → n < length keys → (b : Bool) → eqb (get_or keys n 0) key ≡ b
    → taken_list keys key (n + 1) ≡ cond b (n ∷ taken_list keys key n) (taken_list keys key n)
list_more keys key n within b is =
    ap (λ (l : List ℕ). list_of l key) (take_more keys n 0 within)
    ∙ list_of-push key (take n keys) (get_or keys n 0) b is
    ∙ ap (λ m. cond b (m ∷ taken_list keys key n) (taken_list keys key n)) (length-take-le n keys (omega arith))

module _ (keys : List ℕ) (key place : ℕ) where
  -- the place is in the list of the first n keys just where one of these is the key
  abbrev Holds : ℕ → List ℕ → Type 0
  Holds n list = Contains list place ↔ ((place < n) × (get_or keys place 0 ≡ key))

  holds_more : (n : ℕ) → Holds n (taken_list keys key n) → (b : Bool) → eqb (get_or keys n 0) key ≡ b
      → Holds (n + 1) (cond b (n ∷ taken_list keys key n) (taken_list keys key n))
  holds_more n before true is = (from, into)
    where
      from : Contains (n ∷ taken_list keys key n) place → (place < n + 1) × (get_or keys place 0 ≡ key)
      from there =
          ⊎_elim
          (λ (same : n ≡ place). (omega arith, ap (λ p. get_or keys p 0) (sym same) ∙ eqb-true _ _ is))
          (λ later. let both = before.0 later in (omega (arith, both.0), both.1))
          (cases_Contains n (taken_list keys key n) place there)

      into : (place < n + 1) × (get_or keys place 0 ≡ key) → Contains (n ∷ taken_list keys key n) place
      into both =
          ⊎_elim
          (λ (less : place < n). Contains-later n (taken_list keys key n) place (before.1 (less, both.1)))
          (λ (past : n ≤ place).
          let same : n ≡ place = omega (arith, both.0) in
          subst (λ p. Contains (n ∷ taken_list keys key n) p) same (Contains-first n (taken_list keys key n)))
          (cases_lt place n)
  holds_more n before false is = (from, into)
    where
      from : Contains (taken_list keys key n) place → (place < n + 1) × (get_or keys place 0 ≡ key)
      from there = let both = before.0 there in (omega (arith, both.0), both.1)

      into : (place < n + 1) × (get_or keys place 0 ≡ key) → Contains (taken_list keys key n) place
      into both =
          ⊎_elim
          (λ (less : place < n). before.1 (less, both.1))
          (λ (past : n ≤ place).
          let same : n ≡ place = omega (arith, both.0) in
          let passes : get_or keys n 0 ≡ key = ap (λ p. get_or keys p 0) same ∙ both.1 in
          absurd (true≢false (sym (eq-eqb (get_or keys n 0) key passes) ∙ is)))
          (cases_lt place n)

  pub holds_taken : (n : ℕ) → n ≤ length keys → Holds n (taken_list keys key n)
  holds_taken zero within = (λ there. absurd (none_Contains place there), λ both. absurd (omega (arith, both.0)))
  holds_taken (suc n) within =
      let b = eqb (get_or keys n 0) key in
      let here : Holds (n + 1) (taken_list keys key (n + 1)) =
      subst (Holds (n + 1)) (sym (list_more keys key n (omega arith) b refl)) (holds_more n (holds_taken n (omega arith)) b refl) in
      let next : n + 1 ≡ suc n = omega arith in
      subst (λ m. Holds m (taken_list keys key m)) next here

  -- a list has exactly the places of its key
  pub list_of-exactly : Contains (list_of keys key) place ↔ ((place < length keys) × (get_or keys place 0 ≡ key))
  list_of-exactly =
      let whole : take (length keys) keys ≡ keys = take_all (length keys) keys (omega arith) in
      subst (λ (l : List ℕ). Holds (length keys) (list_of l key)) whole (holds_taken (length keys) (omega arith))

-- a number above all of a falling list comes before it
falls_cons : (n : ℕ) (xs : List ℕ) → ((x : ℕ) → Contains xs x → x < n) → AllPairs (λ a b. b < a) xs
    → AllPairs (λ a b. b < a) (n ∷ xs)
falls_cons n xs below rest zero zero d less within = absurd (omega (arith, less))
falls_cons n xs below rest (suc i) zero d less within = absurd (omega (arith, less))
falls_cons n xs below rest zero (suc j) d less within =
    let inside : j < length xs = omega (arith, within) in
    below (get_or xs j d) (j, inside, get_or_default xs j (get_or xs j d) d inside)
falls_cons n xs below rest (suc i) (suc j) d less within = rest i j d (omega (arith, less)) (omega (arith, within))

falls_more : (keys : List ℕ) (key n : ℕ) → n ≤ length keys → AllPairs (λ a b. b < a) (taken_list keys key n) → (b : Bool)
    → AllPairs (λ a b. b < a) (cond b (n ∷ taken_list keys key n) (taken_list keys key n))
falls_more keys key n within before true =
    falls_cons n (taken_list keys key n) (λ x there. ((holds_taken keys key x n within).0 there).0) before
falls_more keys key n within before false = before

falls_taken : (keys : List ℕ) (key n : ℕ) → n ≤ length keys → AllPairs (λ a b. b < a) (taken_list keys key n)
falls_taken keys key zero within = λ i j d less inside. absurd (omega (arith, inside))
falls_taken keys key (suc n) within =
    let b = eqb (get_or keys n 0) key in
    let here : AllPairs (λ a b. b < a) (taken_list keys key (n + 1)) =
    subst (AllPairs (λ a b. b < a)) (sym (list_more keys key n (omega arith) b refl))
    (falls_more keys key n (omega arith) (falls_taken keys key n (omega arith)) b) in
    let next : n + 1 ≡ suc n = omega arith in
    subst (λ m. AllPairs (λ a b. b < a) (taken_list keys key m)) next here

-- a list falls, so no place is there twice
pub list_of-falls : (keys : List ℕ) (key : ℕ) → AllPairs (λ a b. b < a) (list_of keys key)
list_of-falls keys key =
    let whole : take (length keys) keys ≡ keys = take_all (length keys) keys (omega arith) in
    subst (λ (l : List ℕ). AllPairs (λ a b. b < a) (list_of l key)) whole (falls_taken keys key (length keys) (omega arith))
