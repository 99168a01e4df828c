-- The test of a value and a list of numbered intervals tells whether the value fits.
use Rattle.std.proofs.Common.{◌≡◌, ℕ, ◌⊎◌, ◌∙◌, ◌↔◌, Bool, true, false, not, ◌||◌, eqb, IsTrue, List, [], ◌∷◌}
use Rattle.std.proofs.Common.{Option, Some, None, ap, sym, subst, refl, inl, inr, ⊎_elim}
use Rattle.std.specs.Prelude.{Contains, is_some}
use Rattle.std.specs.List.{list_all, list_any}
use Rattle.std.proofs.lemmas.Bool.{and_parts, and_from, or_cases, eqb-true, eq-eqb, not-true, false≢true, cases_Bool}
use Rattle.lrc_copies.specs.Word.{WordHistory, IsWriter, AreWritersOrdered, IsLastWriter, IsLastValue, Fits}
use Rattle.lrc_copies.specs.Decided.{writers, is_value, are_ordered, is_last, has_writer, fits_list}
use Rattle.lrc_copies.proofs.Members.{Contains-first, Contains-later, cases_Contains, none_Contains, Contains-filter, Contains-from_filter}

-- ---- tests of all members, or of some

pub all_each : (p : ℕ → Bool) (xs : List ℕ) (a : ℕ) → list_all p xs ≡ true → Contains xs a → p a ≡ true
all_each p [] a holds there = absurd (none_Contains a there)
all_each p (x ∷ xs) a holds there =
    let parts = and_parts (p x) (list_all p xs) holds in
    ⊎_elim (λ (same : x ≡ a). subst (λ y. p y ≡ true) same parts.0) (λ deeper. all_each p xs a parts.1 deeper)
    (cases_Contains x xs a there)

all_from : (p : ℕ → Bool) (xs : List ℕ) → ((a : ℕ) → Contains xs a → p a ≡ true) → list_all p xs ≡ true
all_from p [] each = refl
all_from p (x ∷ xs) each =
    and_from (p x) (list_all p xs) (each x (Contains-first x xs)) (all_from p xs (λ a there. each a (Contains-later x xs a there)))

any_some : (p : ℕ → Bool) (xs : List ℕ) → list_any p xs ≡ true → (a : ℕ) × Contains xs a × (p a ≡ true)
any_some p [] holds = absurd (false≢true holds)
any_some p (x ∷ xs) holds =
    ⊎_elim
    (λ (first : p x ≡ true). (x, Contains-first x xs, first))
    (λ (later : list_any p xs ≡ true).
    let found = any_some p xs later in (found.0, Contains-later x xs found.0 found.1, found.2))
    (or_cases (p x) (list_any p xs) holds)

or_left : (x y : Bool) → x ≡ true → (x || y) ≡ true
or_left true y holds = refl
or_left false y holds = absurd (false≢true holds)

or_right : (x y : Bool) → y ≡ true → (x || y) ≡ true
or_right true y holds = refl
or_right false y holds = holds

any_from : (p : ℕ → Bool) (xs : List ℕ) (a : ℕ) → Contains xs a → p a ≡ true → list_any p xs ≡ true
any_from p [] a there holds = absurd (none_Contains a there)
any_from p (x ∷ xs) a there holds =
    ⊎_elim
    (λ (same : x ≡ a). or_left (p x) (list_any p xs) (subst (λ y. p y ≡ true) (sym same) holds))
    (λ deeper. or_right (p x) (list_any p xs) (any_from p xs a deeper holds))
    (cases_Contains x xs a there)

-- ---- options

some_from : (o : Option ℕ) (v : ℕ) → o ≡ Some v → is_some o ≡ true
some_from o v same = subst (λ p. is_some p ≡ true) (sym same) refl

value_of_some : (o : Option ℕ) → is_some o ≡ true → (v : ℕ) × (o ≡ Some v)
value_of_some None holds = absurd (false≢true holds)
value_of_some (Some v) holds = (v, refl)

is_value-true : (value : ℕ) (o : Option ℕ) → is_value value o ≡ true → o ≡ Some value
is_value-true value None holds = absurd (false≢true holds)
is_value-true value (Some v) holds = ap Some (eqb-true v value holds)

is_value-from : (value : ℕ) (o : Option ℕ) → o ≡ Some value → is_value value o ≡ true
is_value-from value o same = subst (λ p. is_value value p ≡ true) (sym same) (eq-eqb value value refl)

module _ (w : WordHistory ℕ) (xs : List ℕ) where
  in_writers : {a v : ℕ} → IsWriter w xs a v → Contains (writers w xs) a
  in_writers {a} {v} h = Contains-filter (λ b. is_some (w.wrote b)) xs a h.member (some_from (w.wrote a) v h.wrote)

  from_writers : (a : ℕ) → Contains (writers w xs) a → (v : ℕ) × IsWriter w xs a v
  from_writers a there =
      let parts = Contains-from_filter (λ b. is_some (w.wrote b)) xs a there in
      let value = value_of_some (w.wrote a) parts.1 in
      (value.0, record { member = parts.0; wrote = value.1 })

  -- ---- order

  ordered_true : are_ordered w xs ≡ true → AreWritersOrdered w xs
  ordered_true holds a b u v g h =
      let row = all_each (λ c. list_all (λ d. eqb c d || (w.below c d || w.below d c)) (writers w xs)) (writers w xs) a holds (in_writers g) in
      let cell = all_each (λ d. eqb a d || (w.below a d || w.below d a)) (writers w xs) b row (in_writers h) in
      ⊎_elim
      (λ (same : eqb a b ≡ true). inl (eqb-true a b same))
      (λ (either : (w.below a b || w.below b a) ≡ true). inr (or_cases (w.below a b) (w.below b a) either))
      (or_cases (eqb a b) (w.below a b || w.below b a) cell)

  ordered_from : AreWritersOrdered w xs → are_ordered w xs ≡ true
  ordered_from ordered =
      all_from (λ c. list_all (λ d. eqb c d || (w.below c d || w.below d c)) (writers w xs)) (writers w xs)
      (λ a a_in. all_from (λ d. eqb a d || (w.below a d || w.below d a)) (writers w xs)
      (λ b b_in.
      let g = from_writers a a_in in
      let h = from_writers b b_in in
      ⊎_elim
      (λ (same : a ≡ b). or_left (eqb a b) _ (eq-eqb a b same))
      (λ (either : IsTrue (w.below a b) ⊎ IsTrue (w.below b a)). or_right (eqb a b) (w.below a b || w.below b a)
      (⊎_elim (λ under. or_left (w.below a b) (w.below b a) under) (λ above. or_right (w.below a b) (w.below b a) above) either))
      (ordered a b g.0 h.0 g.1 h.1)))

  -- ---- the last

  last_true : (a v : ℕ) → IsWriter w xs a v → is_last w xs a ≡ true → IsLastWriter w xs a v
  last_true a v g holds = record {
    writer = g;
    last = λ b u h. ⊎_elim
        (λ (same : eqb b a ≡ true). inl (eqb-true b a same))
        (λ (under : w.below b a ≡ true). inr under)
        (or_cases (eqb b a) (w.below b a) (all_each (λ c. eqb c a || w.below c a) (writers w xs) b holds (in_writers h)));
  }

  last_from : (a v : ℕ) → IsLastWriter w xs a v → is_last w xs a ≡ true
  last_from a v last =
      all_from (λ c. eqb c a || w.below c a) (writers w xs)
      (λ b b_in.
      let h = from_writers b b_in in
      ⊎_elim
      (λ (same : b ≡ a). or_left (eqb b a) (w.below b a) (eq-eqb b a same))
      (λ (under : IsTrue (w.below b a)). or_right (eqb b a) (w.below b a) under)
      (last.last b h.0 h.1))

  -- ---- the value

  latest_true : (value : ℕ) → (has_writer w xs || (eqb value 0)) ≡ true
      → list_all (λ a. not (is_last w xs a) || is_value value (w.wrote a)) (writers w xs) ≡ true → IsLastValue w xs value
  latest_true value first rest = record {
    none = λ none. ⊎_elim
        (λ (written : has_writer w xs ≡ true).
        let found = any_some (λ a. is_some (w.wrote a)) xs written in
        let v = value_of_some (w.wrote found.0) found.2 in
        absurd (none found.0 v.0 (record { member = found.1; wrote = v.1 })))
        (λ (zero : eqb value 0 ≡ true). eqb-true value 0 zero)
        (or_cases (has_writer w xs) (eqb value 0) first);
    last = λ a v last. ⊎_elim
        (λ (not_last : not (is_last w xs a) ≡ true). absurd (false≢true (sym (not-true (is_last w xs a) not_last) ∙ last_from a v last)))
        (λ (has : is_value value (w.wrote a) ≡ true).
        let e : w.wrote a ≡ Some value = is_value-true value (w.wrote a) has in
        let f : w.wrote a ≡ Some v = last.writer.wrote in
        cc)
        (or_cases (not (is_last w xs a)) (is_value value (w.wrote a))
        (all_each (λ b. not (is_last w xs b) || is_value value (w.wrote b)) (writers w xs) a rest (in_writers last.writer)));
  }

  latest_from : (value : ℕ) → IsLastValue w xs value
      → ((has_writer w xs || (eqb value 0)) ≡ true) × (list_all (λ a. not (is_last w xs a) || is_value value (w.wrote a)) (writers w xs) ≡ true)
  latest_from value latest = (
    ⊎_elim
        (λ (written : has_writer w xs ≡ true). or_left (has_writer w xs) (eqb value 0) written)
        (λ (unwritten : has_writer w xs ≡ false).
        or_right (has_writer w xs) (eqb value 0) (eq-eqb value 0 (latest.none (λ a v h.
        false≢true (sym unwritten ∙ any_from (λ b. is_some (w.wrote b)) xs a h.member (some_from (w.wrote a) v h.wrote))))))
        (cases_Bool (has_writer w xs)),
    all_from (λ a. not (is_last w xs a) || is_value value (w.wrote a)) (writers w xs)
        (λ a a_in.
        let g = from_writers a a_in in
        ⊎_elim
        (λ (is : is_last w xs a ≡ true).
        let same : value ≡ g.0 = latest.last a g.0 (last_true a g.0 g.1 is) in
        or_right (not (is_last w xs a)) (is_value value (w.wrote a)) (is_value-from value (w.wrote a) (g.1.wrote ∙ ap Some (sym same))))
        (λ (is_not : is_last w xs a ≡ false). or_left (not (is_last w xs a)) (is_value value (w.wrote a)) (ap not is_not))
        (cases_Bool (is_last w xs a))),
  )

  pub fits_true : (value : ℕ) → fits_list w value xs ≡ true → Fits w value xs
  fits_true value holds =
      let parts = and_parts ((eqb value 0) || list_any (λ a. is_value value (w.wrote a)) xs) _ holds in record {
        weak = ⊎_elim
            (λ (zero : eqb value 0 ≡ true). inl (eqb-true value 0 zero))
            (λ (some : list_any (λ a. is_value value (w.wrote a)) xs ≡ true).
            let found = any_some (λ a. is_value value (w.wrote a)) xs some in
            inr (found.0, record { member = found.1; wrote = is_value-true value (w.wrote found.0) found.2 }))
            (or_cases (eqb value 0) (list_any (λ a. is_value value (w.wrote a)) xs) parts.0);
        strong = λ ordered. ⊎_elim
            (λ (unordered : not (are_ordered w xs) ≡ true).
            absurd (false≢true (sym (not-true (are_ordered w xs) unordered) ∙ ordered_from ordered)))
            (λ latest.
            let halves = and_parts (has_writer w xs || (eqb value 0)) _ latest in
            latest_true value halves.0 halves.1)
            (or_cases (not (are_ordered w xs)) _ parts.1);
      }

  pub fits_from : (value : ℕ) → Fits w value xs → fits_list w value xs ≡ true
  fits_from value h =
      and_from _ _
      (⊎_elim
      (λ (zero : value ≡ 0). or_left (eqb value 0) _ (eq-eqb value 0 zero))
      (λ (some : (a : ℕ) × IsWriter w xs a value).
      or_right (eqb value 0) (list_any (λ a. is_value value (w.wrote a)) xs)
      (any_from (λ a. is_value value (w.wrote a)) xs some.0 some.1.member (is_value-from value (w.wrote some.0) some.1.wrote)))
      h.weak)
      (⊎_elim
      (λ (ordered : are_ordered w xs ≡ true).
      let halves = latest_from value (h.strong (ordered_true ordered)) in
      or_right (not (are_ordered w xs)) _ (and_from _ _ halves.0 halves.1))
      (λ (unordered : are_ordered w xs ≡ false). or_left (not (are_ordered w xs)) _ (ap not unordered))
      (cases_Bool (are_ordered w xs)))

pub decided : (w : WordHistory ℕ) (value : ℕ) (xs : List ℕ) → IsTrue (fits_list w value xs) ↔ Fits w value xs
decided w value xs = (fits_true w xs value, fits_from w xs value)
