-- Adding an interval after all others, as closing does, keeps a list sound.
use Rattle.std.proofs.Common.{◌≡◌, ℕ, ◌<◌, ◌∙◌, IsTrue, List, [], ◌∷◌, ◌++◌, Some, None, ap, sym, subst, refl, ⊎_elim, arith}
use Rattle.std.specs.Prelude.{Contains, unwrap_or}
use Rattle.std.proofs.lemmas.Bool.{cases_eq, eq-eqb, ne_eqb}
use Rattle.std.proofs.lemmas.List.Elements.{Contains-append_left, Contains-push_cases}
use Rattle.lrc_copies.specs.Word.{WordHistory, Fits, AgreeOn}
use Rattle.lrc_copies.specs.Sound.{those_below, IsLighterBelow, IsSoundList, IsAddedLast, difference, IsClosedFrom}
use Rattle.lrc_copies.proofs.Members.{Contains-filter, Contains-from_filter}
use Rattle.lrc_copies.proofs.Fitting.{option_cases, same_members, fits_writers, fits_agreed}

module _ {A : Type 0} (w : WordHistory A) (all : List A) (x : A) (added : IsAddedLast w.weight w.below all x) where
  -- what was below a member still is, and the new one is below none
  below_before : (a : A) → Contains (all ++ x ∷ []) a → (u : ℕ) → Fits w u (those_below w all a)
      → Fits w u (those_below w (all ++ x ∷ []) a)
  below_before a member u fits =
      fits_writers w u (those_below w all a) (those_below w (all ++ x ∷ []) a)
      (same_members w _ _
      (λ b h.
      let parts = Contains-from_filter (λ c. w.below c a) all b h in
      Contains-filter (λ c. w.below c a) (all ++ x ∷ []) b (Contains-append_left all (x ∷ []) b parts.0) parts.1)
      (λ b h.
      let parts = Contains-from_filter (λ c. w.below c a) (all ++ x ∷ []) b h in
      ⊎_elim
      (λ (old : Contains all b). Contains-filter (λ c. w.below c a) all b old parts.1)
      (λ (same : x ≡ b).
      let under : IsTrue (w.below x a) = ap (λ c. w.below c a) same ∙ parts.1 in
      absurd (added.newest a member under))
      (Contains-push_cases all x b parts.0))) fits

  lighter : IsLighterBelow w all → IsLighterBelow w (all ++ x ∷ [])
  lighter old a b a_in b_in under =
      ⊎_elim
      (λ (a_old : Contains all a). ⊎_elim
      (λ (b_old : Contains all b). old a b a_old b_old under)
      (λ (same : x ≡ b).
      let less : w.weight a < w.weight x = added.lighter a a_old (ap (λ c. w.below a c) same ∙ under) in
      let e : w.weight x ≡ w.weight b = ap w.weight same in
      omega arith)
      (Contains-push_cases all x b b_in))
      (λ (same : x ≡ a).
      let above : IsTrue (w.below x b) = ap (λ c. w.below c b) same ∙ under in
      absurd (added.newest b b_in above))
      (Contains-push_cases all x a a_in)

  pub sound_added : IsSoundList w all → ((v : ℕ) → w.change x ≡ Some v → w.wrote x ≡ Some v)
      → ((v : ℕ) → w.wrote x ≡ Some v → w.change x ≡ None → Fits w v (those_below w all x)) → IsSoundList w (all ++ x ∷ [])
  sound_added sound new_change new_silent = record {
    lighter = lighter sound.lighter;
    change = λ a v a_in given. ⊎_elim
        (λ (old : Contains all a). sound.change a v old given)
        (λ (same : x ≡ a). subst (λ c. w.wrote c ≡ Some v) same (new_change v (ap w.change same ∙ given)))
        (Contains-push_cases all x a a_in);
    silent = λ a v a_in wrote none. below_before a a_in v (⊎_elim
        (λ (old : Contains all a). sound.silent a v old wrote none)
        (λ (same : x ≡ a).
        subst (λ c. Fits w v (those_below w all c)) same (new_silent v (ap w.wrote same ∙ wrote) (ap w.change same ∙ none)))
        (Contains-push_cases all x a a_in));
  }

  pub sound_unwritten : IsSoundList w all → w.wrote x ≡ None → w.change x ≡ None → IsSoundList w (all ++ x ∷ [])
  sound_unwritten sound unwritten unchanged = sound_added sound (λ v given. absurd (cc)) (λ v wrote none. absurd (cc))

-- ---- closing

-- what the difference says
pub difference-same : (twin value : ℕ) → twin ≡ value → difference twin value ≡ None
difference-same twin value same = rw (eq-eqb twin value same) refl

pub difference-differs : (twin value : ℕ) → (twin ≡ value → ⊥) → difference twin value ≡ Some value
difference-differs twin value differ = rw (ne_eqb twin value differ) refl

module _ {A : Type 0} (w : WordHistory A) (all : List A) (x : A) (twin value : ℕ) (closed : IsClosedFrom w all x twin value) where
  -- the new one's change is what it wrote last
  new_change : (v : ℕ) → w.change x ≡ Some v → w.wrote x ≡ Some v
  new_change v given =
      let stated : difference twin value ≡ Some v = sym closed.change ∙ given in
      ⊎_elim
      (λ (same : twin ≡ value). let e = difference-same twin value same in absurd (cc))
      (λ (differ : twin ≡ value → ⊥).
      let e = difference-differs twin value differ in
      ⊎_elim
      (λ (unwritten : w.wrote x ≡ None).
      let kept : value ≡ twin = closed.copy ∙ ap (λ o. unwrap_or o twin) unwritten in
      absurd (differ (sym kept)))
      (λ (wrote : (u : ℕ) × (w.wrote x ≡ Some u)).
      let last : value ≡ wrote.0 = closed.copy ∙ ap (λ o. unwrap_or o twin) wrote.1 in
      let is : w.wrote x ≡ Some wrote.0 = wrote.1 in
      cc)
      (option_cases (w.wrote x)))
      (cases_eq twin value)

  -- where it wrote and has no change, it wrote what the twin had
  new_silent : (v : ℕ) → w.wrote x ≡ Some v → w.change x ≡ None → twin ≡ v
  new_silent v wrote none =
      let last : value ≡ v = closed.copy ∙ ap (λ o. unwrap_or o twin) wrote in
      ⊎_elim
      (λ (same : twin ≡ value). same ∙ last)
      (λ (differ : twin ≡ value → ⊥).
      let e = difference-differs twin value differ in
      let d = closed.change in
      absurd (cc))
      (cases_eq twin value)

  pub sound_closed : IsAddedLast w.weight w.below all x → IsSoundList w all → IsSoundList w (all ++ x ∷ [])
  sound_closed added sound =
      sound_added w all x added sound new_change
      (λ v wrote none. subst (λ u. Fits w u (those_below w all x)) (new_silent v wrote none) closed.fits)

-- ---- only what the members did counts

module _ {A : Type 0} (w w' : WordHistory A) (all : List A) (agree : AgreeOn all w w')
    (change : (a : A) → Contains all a → w.change a ≡ w'.change a) (weight : (a : A) → Contains all a → w.weight a ≡ w'.weight a) where
  -- what is below a member is the same
  those_below_there : (a b : A) → Contains all a → Contains (those_below w all a) b → Contains (those_below w' all a) b
  those_below_there a b a_in there =
      let parts = Contains-from_filter (λ c. w.below c a) all b there in
      Contains-filter (λ c. w'.below c a) all b parts.0 (sym (agree.below b a parts.0 a_in) ∙ parts.1)

  those_below_back : (a b : A) → Contains all a → Contains (those_below w' all a) b → Contains (those_below w all a) b
  those_below_back a b a_in there =
      let parts = Contains-from_filter (λ c. w'.below c a) all b there in
      Contains-filter (λ c. w.below c a) all b parts.0 (agree.below b a parts.0 a_in ∙ parts.1)

  agree_below : (a : A) → AgreeOn (those_below w all a) w w'
  agree_below a = record {
    wrote = λ b b_in. agree.wrote b (Contains-from_filter (λ c. w.below c a) all b b_in).0;
    below = λ b c b_in c_in. agree.below b c (Contains-from_filter (λ d. w.below d a) all b b_in).0 (Contains-from_filter (λ d. w.below d a) all c c_in).0;
  }

  pub sound_agreed : IsSoundList w all → IsSoundList w' all
  sound_agreed sound = record {
    lighter = λ a b a_in b_in under.
        let less = sound.lighter a b a_in b_in (agree.below a b a_in b_in ∙ under) in
        let first = weight a a_in in
        let second = weight b b_in in
        omega arith;
    change = λ a v a_in given. sym (agree.wrote a a_in) ∙ sound.change a v a_in (change a a_in ∙ given);
    silent = λ a v a_in wrote none.
        fits_writers w' v (those_below w all a) (those_below w' all a)
        (same_members w' _ _ (λ b there. those_below_there a b a_in there) (λ b there. those_below_back a b a_in there))
        (fits_agreed w w' (those_below w all a) (agree_below a) v
        (sound.silent a v a_in (agree.wrote a a_in ∙ wrote) (change a a_in ∙ none)));
  }
