-- Each barrier that has a row has one band, from its first row to its last.
use Rattle.std.proofs.Common.{◌≡◌, ◌≢◌, ◌∙◌, ◌<◌, ◌≤◌, ◌+◌, ◌==◌, ◌⊎◌, ℕ, zero, suc, List, [], ◌∷◌, ◌++◌, Bool, true, false, cond, eqb-true}
use Rattle.std.proofs.Common.{ap, arith, inl, inr, refl, subst, sym, ⊎_elim}
use Rattle.std.specs.Prelude.{All, AllPairs, Contains, Some, if◌then◌else◌, slice_get}
use Rattle.std.specs.List.{enumerate_from, flat_map}
use Rattle.std.proofs.lemmas.Bool.{eq-eqb, ne_eqb, true≢false}
use Rattle.std.proofs.lemmas.List.Elements.{All-cons, All-nil, All-weaker}
use Rattle.std.proofs.lemmas.List.Kept.{AllPairs-cons}
use Rattle.lrc_chart_build.specs.Bands.{AreBandsOf, IsBandOf, band, band_at, band_if, last_or}
use Rattle.lrc_chart_build.specs.Seen.{SeenBand}

-- ---- elements

abbrev In : {X : Type 0} → X → List X → Type 0
In x [] = ⊥
In x (y ∷ ys) = (y ≡ x) ⊎ In x ys

in_append : {X : Type 0} (x : X) (xs ys : List X) → In x (xs ++ ys) → In x xs ⊎ In x ys
in_append x [] ys h = inr h
in_append x (y ∷ xs) ys (inl same) = inl (inl same)
in_append x (y ∷ xs) ys (inr later) = ⊎_elim (λ front. inl (inr front)) (λ back. inr back) (in_append x xs ys later)

in_front : {X : Type 0} (x : X) (xs ys : List X) → In x xs → In x (xs ++ ys)
in_front x [] ys h = absurd h
in_front x (y ∷ xs) ys (inl same) = inl same
in_front x (y ∷ xs) ys (inr later) = inr (in_front x xs ys later)

in_back : {X : Type 0} (x : X) (xs ys : List X) → In x ys → In x (xs ++ ys)
in_back x [] ys h = h
in_back x (y ∷ xs) ys h = inr (in_back x xs ys h)

contained : {X : Type 0} (xs : List X) (x : X) → Contains xs x → In x xs
contained [] x c = absurd (omega (arith, c.1))
contained (y ∷ ys) x (zero, within, same) = inl same
contained (y ∷ ys) x (suc k, within, same) = inr (contained ys x (k, omega (arith, within), same))

contains : {X : Type 0} (xs : List X) (x : X) → In x xs → Contains xs x
contains [] x h = absurd h
contains (y ∷ ys) x (inl same) = (zero, omega arith, same)
contains (y ∷ ys) x (inr later) = let c = contains ys x later in (suc c.0, omega (arith, c.1), c.2)

-- ---- the places of a number, counted from a start

abbrev places : (number start : ℕ) → List ℕ → List ℕ
places number start numbers = flat_map (λ (at : ℕ × ℕ). if at.1 == number then at.0 ∷ [] else []) (enumerate_from start numbers)

abbrev IsPlaceOf : (number start : ℕ) → List ℕ → ℕ → Type 0
IsPlaceOf number start numbers place = (k : ℕ) × (place ≡ start + k) × (slice_get numbers k ≡ Some number)

there : (number start : ℕ) (numbers : List ℕ) (place : ℕ) → In place (places number start numbers) → IsPlaceOf number start numbers place
there number start [] place h = absurd h
there number start (x ∷ xs) place h = from (λ h. there number (start + 1) xs place h) (x == number) refl h
  where
    later : IsPlaceOf number (start + 1) xs place → IsPlaceOf number start (x ∷ xs) place
    later rest = (suc rest.0, omega (arith, rest.1), rest.2)

    from : (In place (places number (start + 1) xs) → IsPlaceOf number (start + 1) xs place) → (b : Bool) → (x == number) ≡ b
        → In place (cond b (start ∷ []) [] ++ places number (start + 1) xs) → IsPlaceOf number start (x ∷ xs) place
    from rest true is (inl same) = (zero, omega (arith, same), ap Some (eqb-true x number is))
    from rest true is (inr h) = later (rest h)
    from rest false is h = later (rest h)

here : (number start : ℕ) (numbers : List ℕ) (k : ℕ) → slice_get numbers k ≡ Some number → In (start + k) (places number start numbers)
here number start [] k is = absurd cc
here number start (x ∷ xs) zero is = front (x == number) refl
  where
    front : (b : Bool) → (x == number) ≡ b → In (start + 0) (cond b (start ∷ []) [] ++ places number (start + 1) xs)
    front true e = inl (omega arith)
    front false e = let same : x ≡ number = cc in absurd (true≢false (sym (eq-eqb x number same) ∙ e))
here number start (x ∷ xs) (suc k) is =
    let next : start + 1 + k ≡ start + suc k = omega arith in
    subst (λ place. In place (places number start (x ∷ xs))) next (back (x == number) (here number (start + 1) xs k is))
  where
    back : (b : Bool) → In (start + 1 + k) (places number (start + 1) xs)
        → In (start + 1 + k) (cond b (start ∷ []) [] ++ places number (start + 1) xs)
    back true h = inr h
    back false h = h

-- they rise
abbrev RisesFrom : ℕ → List ℕ → Type 0
RisesFrom low [] = Unit {0}
RisesFrom low (x ∷ xs) = (low ≤ x) × RisesFrom (x + 1) xs

rises_weaker : (low high : ℕ) (xs : List ℕ) → low ≤ high → RisesFrom high xs → RisesFrom low xs
rises_weaker low high [] le h = tt
rises_weaker low high (x ∷ xs) le h = (omega (arith, le, h.0), h.1)

rises : (number start : ℕ) (numbers : List ℕ) → RisesFrom start (places number start numbers)
rises number start [] = tt
rises number start (x ∷ xs) = from (x == number) (rises number (start + 1) xs)
  where
    from : (b : Bool) → RisesFrom (start + 1) (places number (start + 1) xs)
        → RisesFrom start (cond b (start ∷ []) [] ++ places number (start + 1) xs)
    from true rest = (omega arith, rest)
    from false rest = rises_weaker start (start + 1) (places number (start + 1) xs) (omega arith) rest

at_least : (low : ℕ) (xs : List ℕ) (place : ℕ) → RisesFrom low xs → In place xs → low ≤ place
at_least low [] place r h = absurd h
at_least low (x ∷ xs) place r (inl same) = omega (arith, same, r.0)
at_least low (x ∷ xs) place r (inr later) = omega (arith, r.0, at_least (x + 1) xs place r.1 later)

last_in : (first : ℕ) (more : List ℕ) → In (last_or first more) (first ∷ more)
last_in first [] = inl refl
last_in first (next ∷ more) = inr (last_in next more)

at_most : (low first : ℕ) (more : List ℕ) (place : ℕ) → RisesFrom low (first ∷ more) → In place (first ∷ more) → place ≤ last_or first more
at_most low first [] place r (inl same) = omega (arith, same)
at_most low first [] place r (inr none) = absurd none
at_most low first (next ∷ more) place r (inl same) =
    omega (arith, same, r.1.0, at_most (first + 1) next more next r.1 (inl refl))
at_most low first (next ∷ more) place r (inr later) = at_most (first + 1) next more place r.1 later

-- ---- a band

module _ (numbers : List ℕ) (number first : ℕ) (more : List ℕ) (found : places number 0 numbers ≡ first ∷ more) where
  abbrev the_band : SeenBand
  the_band = band number first (last_or first more)

  found_at : (place : ℕ) → In place (first ∷ more) → slice_get numbers place ≡ Some number
  found_at place h =
      let is = there number 0 numbers place (subst (In place) (sym found) h) in
      let same : place ≡ is.0 = omega (arith, is.1) in
      ap (slice_get numbers) same ∙ is.2

  held : (place : ℕ) → slice_get numbers place ≡ Some number → In place (first ∷ more)
  held place is =
      let same : 0 + place ≡ place = omega arith in
      subst (In place) found (subst (λ p. In p (places number 0 numbers)) same (here number 0 numbers place is))

  rises_so : RisesFrom 0 (first ∷ more)
  rises_so = subst (RisesFrom 0) found (rises number 0 numbers)

  is_band : IsBandOf numbers number the_band
  is_band = record {
    begins = found_at first (inl refl);
    ends = found_at (last_or first more) (last_in first more);
    around = λ place is.
        let low : first ≤ first = omega arith in
        (at_least first (first ∷ more) place (low, rises_so.1) (held place is), at_most 0 first more place rises_so (held place is));
    named = refl;
  }

  shown_here : (place : ℕ) → first ≡ place → number ≢ 0 → In the_band (band_if numbers place number)
  shown_here place same some =
      subst (λ (b : Bool). In the_band (cond b [] (band_at number place (places number 0 numbers)))) (sym (ne_eqb number 0 some))
      (subst (λ (l : List ℕ). In the_band (band_at number place l)) (sym found)
      (subst (λ (c : Bool). In the_band (cond c (the_band ∷ []) [])) (sym (eq-eqb first place same)) (inl refl)))

-- ---- all bands, counted from a start

module _ (numbers : List ℕ) where
  abbrev bands_from : ℕ → List ℕ → List SeenBand
  bands_from start rest = flat_map (λ (at : ℕ × ℕ). band_if numbers at.0 at.1) (enumerate_from start rest)

  abbrev IsSound : SeenBand → Type 0
  IsSound shown = (number : ℕ) × (number ≢ 0) × IsBandOf numbers number shown

  one : (place number : ℕ) (shown : SeenBand) (b : Bool) → (number == 0) ≡ b → (found : List ℕ) → places number 0 numbers ≡ found
      → In shown (cond b [] (band_at number place found)) → IsSound shown
  one place number shown true is found f h = absurd h
  one place number shown false is [] f h = absurd h
  one place number shown false is (first ∷ more) f h = at_first (first == place) h
    where
      at_first : (c : Bool) → In shown (cond c (band number first (last_or first more) ∷ []) []) → IsSound shown
      at_first true (inl same) =
          (number, λ none. true≢false (sym (eq-eqb number 0 none) ∙ is), subst (IsBandOf numbers number) same (is_band numbers number first more f))
      at_first true (inr none) = absurd none
      at_first false none = absurd none

  sound : (start : ℕ) (rest : List ℕ) (shown : SeenBand) → In shown (bands_from start rest) → IsSound shown
  sound start [] shown h = absurd h
  sound start (x ∷ xs) shown h =
      ⊎_elim
      (λ front. one start x shown (x == 0) refl (places x 0 numbers) refl front)
      (λ back. sound (start + 1) xs shown back)
      (in_append shown (band_if numbers start x) (bands_from (start + 1) xs) h)

  in_bands : (start : ℕ) (rest : List ℕ) (k number : ℕ) (shown : SeenBand) → slice_get rest k ≡ Some number
      → In shown (band_if numbers (start + k) number) → In shown (bands_from start rest)
  in_bands start [] k number shown is h = absurd cc
  in_bands start (x ∷ xs) zero number shown is h =
      let same : number ≡ x = cc in
      let at : start + 0 ≡ start = omega arith in
      in_front shown (band_if numbers start x) (bands_from (start + 1) xs)
      (subst (λ n. In shown (band_if numbers start n)) same (subst (λ p. In shown (band_if numbers p number)) at h))
  in_bands start (x ∷ xs) (suc k) number shown is h =
      let at : start + suc k ≡ start + 1 + k = omega arith in
      in_back shown (band_if numbers start x) (bands_from (start + 1) xs)
      (in_bands (start + 1) xs k number shown is (subst (λ p. In shown (band_if numbers p number)) at h))

  complete : (place number : ℕ) → slice_get numbers place ≡ Some number → number ≢ 0
      → (shown : SeenBand) × In shown (bands_from 0 numbers) × IsBandOf numbers number shown
  complete place number is some = by_places (places number 0 numbers) refl
    where
      by_places : (found : List ℕ) → places number 0 numbers ≡ found
          → (shown : SeenBand) × In shown (bands_from 0 numbers) × IsBandOf numbers number shown
      by_places [] f = absurd (subst (In (0 + place)) f (here number 0 numbers place is))
      by_places (first ∷ more) f =
          let whole = is_band numbers number first more f in
          let same : first ≡ 0 + first = omega arith in
          let shown = band number first (last_or first more) in
          (shown, in_bands 0 numbers first number shown whole.begins (shown_here numbers number first more f (0 + first) same some), whole)

  -- they begin one below the other
  abbrev BandsRise : ℕ → List SeenBand → Type 0
  BandsRise low [] = Unit {0}
  BandsRise low (shown ∷ bands) = (low ≤ shown.from) × BandsRise (shown.from + 1) bands

  lower : (low high : ℕ) (bands : List SeenBand) → low ≤ high → BandsRise high bands → BandsRise low bands
  lower low high [] le h = tt
  lower low high (shown ∷ bands) le h = (omega (arith, le, h.0), h.1)

  bands_rise : (start : ℕ) (rest : List ℕ) → BandsRise start (bands_from start rest)
  bands_rise start [] = tt
  bands_rise start (x ∷ xs) = by_zero (bands_rise (start + 1) xs) (x == 0) (places x 0 numbers)
    where
      others : List SeenBand
      others = bands_from (start + 1) xs

      later : BandsRise (start + 1) others → BandsRise start others
      later rest = lower start (start + 1) others (omega arith) rest

      by_first : BandsRise (start + 1) others → (first : ℕ) (more : List ℕ) (c : Bool) → (first == start) ≡ c
          → BandsRise start (cond c (band x first (last_or first more) ∷ []) [] ++ others)
      by_first rest first more true is =
          let same : first ≡ start = eqb-true first start is in
          (omega (arith, same), subst (λ n. BandsRise (n + 1) others) (sym same) rest)
      by_first rest first more false is = later rest

      by_zero : BandsRise (start + 1) others → (b : Bool) (found : List ℕ) → BandsRise start (cond b [] (band_at x start found) ++ others)
      by_zero rest true found = later rest
      by_zero rest false [] = later rest
      by_zero rest false (first ∷ more) = by_first rest first more (first == start) refl

  above : (low : ℕ) (bands : List SeenBand) → BandsRise low bands → All (λ (shown : SeenBand). low ≤ shown.from) bands
  above low [] h = All-nil (λ (shown : SeenBand). low ≤ shown.from)
  above low (first ∷ bands) h =
      All-cons (λ (shown : SeenBand). low ≤ shown.from) first bands h.0
      (All-weaker (λ (shown : SeenBand). first.from + 1 ≤ shown.from) (λ (shown : SeenBand). low ≤ shown.from)
      (λ shown k. omega (arith, h.0, k)) bands (above (first.from + 1) bands h.1))

  once : (low : ℕ) (bands : List SeenBand) → BandsRise low bands → AllPairs (λ (a b : SeenBand). a.from < b.from) bands
  once low [] h = λ i j d less within. absurd (omega (arith, within))
  once low (first ∷ bands) h =
      AllPairs-cons (λ (a b : SeenBand). a.from < b.from) first bands
      (All-weaker (λ (shown : SeenBand). first.from + 1 ≤ shown.from) (λ (shown : SeenBand). first.from < shown.from)
      (λ shown k. omega (arith, k)) bands (above (first.from + 1) bands h.1))
      (once (first.from + 1) bands h.1)

  pub are_bands : AreBandsOf numbers (bands_from 0 numbers)
  are_bands = record {
    sound = λ shown c. sound 0 numbers shown (contained (bands_from 0 numbers) shown c);
    complete = λ place number is some.
        let all = complete place number is some in
        (all.0, contains (bands_from 0 numbers) all.0 all.1, all.2);
    once = once 0 (bands_from 0 numbers) (bands_rise 0 numbers);
  }
