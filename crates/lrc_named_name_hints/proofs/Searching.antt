-- What a loop over a list finds.
use Rattle.std.proofs.Common.{◌≡◌, ◌<◌, ◌≤◌, ◌+◌, ℕ, Bool, true, false, cond, List, [], ◌∷◌, ◌++◌, map, length, take, drop, get_or, Some, None, sym, ap, ap₂, ◌∙◌}
use Rattle.std.specs.Prelude.{◌&&◌, ◌||◌}
use Rattle.std.specs.List.{find, flat_map, list_all, list_any}
use Rattle.std.specs.Option.{option_or}
use Rattle.std.proofs.lemmas.List.{map-append, take_all, take_more, drop_more, take-append-drop}
use Rattle.std.proofs.lemmas.List.Concat.{flat_map-append}
use Rattle.std.proofs.lemmas.List.Folds.{find-append, list_all-append, list_any-append}
use Rattle.std.proofs.Common.{append-nil}

module _ {A B : Type 0} (view : A → B) (p : B → Bool) (xs : List A) (i : ℕ) where
  abbrev front : List B
  front = map view (take i xs)

  module _ (d : A) (lt : i < length xs) where
    abbrev x : A
    x = get_or xs i d

    cut : map view (take (i + 1) xs) ≡ front ++ view x ∷ []
    cut = ap (map view) (take_more xs i d lt) ∙ map-append view (take i xs) (x ∷ [])

    whole : map view xs ≡ front ++ view x ∷ map view (drop (i + 1) xs)
    whole =
        ap (map view) (sym (take-append-drop i xs) ∙ ap (λ ys. take i xs ++ ys) (drop_more xs i d lt))
        ∙ map-append view (take i xs) (x ∷ drop (i + 1) xs)

    pub none_more : find p front ≡ None → p (view x) ≡ false → find p (map view (take (i + 1) xs)) ≡ None
    none_more before fails =
        ap (find p) cut ∙ find-append p front (view x ∷ []) ∙ ap₂ option_or before (ap (λ b. cond b (Some (view x)) None) fails)

    pub found_there : find p front ≡ None → p (view x) ≡ true → find p (map view xs) ≡ Some (view x)
    found_there before passes =
        ap (find p) whole ∙ find-append p front (view x ∷ map view (drop (i + 1) xs))
        ∙ ap₂ option_or before (ap (λ b. cond b (Some (view x)) (find p (map view (drop (i + 1) xs)))) passes)

    pub any_more : list_any p front ≡ false → p (view x) ≡ false → list_any p (map view (take (i + 1) xs)) ≡ false
    any_more before fails =
        ap (list_any p) cut ∙ list_any-append p front (view x ∷ []) ∙ ap₂ (λ one other. one || other) before (ap (λ b. b || false) fails)

    pub any_there : list_any p front ≡ false → p (view x) ≡ true → list_any p (map view xs) ≡ true
    any_there before passes =
        ap (list_any p) whole ∙ list_any-append p front (view x ∷ map view (drop (i + 1) xs))
        ∙ ap₂ (λ one other. one || other) before (ap (λ b. b || list_any p (map view (drop (i + 1) xs))) passes)

    pub all_more : list_all p front ≡ true → p (view x) ≡ true → list_all p (map view (take (i + 1) xs)) ≡ true
    all_more before passes =
        ap (list_all p) cut ∙ list_all-append p front (view x ∷ []) ∙ ap₂ (λ one other. one && other) before (ap (λ b. b && true) passes)

    pub all_fails : list_all p front ≡ true → p (view x) ≡ false → list_all p (map view xs) ≡ false
    all_fails before fails =
        ap (list_all p) whole ∙ list_all-append p front (view x ∷ map view (drop (i + 1) xs))
        ∙ ap₂ (λ one other. one && other) before (ap (λ b. b && list_all p (map view (drop (i + 1) xs))) fails)

  pub at_end : length xs ≤ i → front ≡ map view xs
  at_end past = ap (map view) (take_all i xs past)

-- a list with some for each item
pub pieces_more : {A B Y : Type 0} (of : B → List Y) (view : A → B) (xs : List A) (i : ℕ) (d : A) (old new : List Y) → i < length xs
    → old ≡ flat_map of (map view (take i xs)) → new ≡ old ++ of (view (get_or xs i d)) → new ≡ flat_map of (map view (take (i + 1) xs))
pieces_more of view xs i d old new lt before grown =
    let x = get_or xs i d in
    let step = ap (λ l. flat_map of (map view l)) (take_more xs i d lt) ∙ ap (flat_map of) (map-append view (take i xs) (x ∷ []))
    ∙ flat_map-append of (map view (take i xs)) (view x ∷ []) ∙ ap (λ l. flat_map of (map view (take i xs)) ++ l) (append-nil (of (view x))) in
    grown ∙ ap (λ l. l ++ of (view x)) before ∙ sym step

-- a list that has grown by some for a value, which is another one
pub grown_by : {V Y : Type 0} (of : V → List Y) (old new : List Y) (value other : V) → value ≡ other → new ≡ old ++ of value → new ≡ old ++ of other
grown_by of old new value other same grown = grown ∙ ap (λ v. old ++ of v) same
