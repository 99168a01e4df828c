-- The key of a claim, by the numbers of its names.
use Rattle.std.proofs.Common.{◌≡◌, ℕ, List, refl, sym, subst, ap, ◌∙◌}
use Rattle.std.specs.Prelude.{◌↔◌, Option, Some, None, MatchOption}
use Rattle.std.proofs.lemmas.Option.{same_Some}
use Rattle.lrc_races_score.specs.Claims.{event, pair, locations, variable, first}
use Rattle.lrc_races_claims.specs.Known.{IsOnlyNumber, IsUnknown}
use Rattle.lrc_races_claims.specs.declared.places.TwoPlaces.{TwoPlaces}
use Rattle.lrc_races_missed.specs.declared.key.Key.{Key}
use Rattle.lrc_races_missed.specs.declared.key.Key.TheVariants.{Event, Pair, Places, Variable, First}
use Rattle.lrc_races_missed.specs.Keys.{AreTwoNumbers, IsKeyFound, IsKeyOf, event_key, pair_key, places_key, variable_key, first_key}

not_some : {X : Type 0} (x : X) → None ≡ Some x → ⊥
not_some x e = let never : ⊥ = cc in never

-- ---- two places

module _ (names : List (List ℕ)) (place other : List ℕ) where
  two_of : (earlier later : ℕ) → IsOnlyNumber names place earlier → IsOnlyNumber names other later → (both : TwoPlaces)
      → AreTwoNumbers names place other both ↔ (Some (record { earlier = earlier; later = later }) ≡ Some both)
  two_of earlier later only only' both = (
    λ are.
        let e = only.only both.earlier are.earlier in
        let f = only'.only both.later are.later in
        ap (λ n. Some (record { earlier = n; later = later })) (sym e) ∙ ap (λ n. Some (record { earlier = both.earlier; later = n })) (sym f),
    λ is.
        subst (λ (b : TwoPlaces). AreTwoNumbers names place other b) (same_Some (record { earlier = earlier; later = later }) both is)
        (record { earlier = only.is; later = only'.is }),
  )

  pub both_found : (found found' : Option ℕ) → MatchOption found (IsUnknown names place) (IsOnlyNumber names place)
      → MatchOption found' (IsUnknown names other) (IsOnlyNumber names other) → (earlier later : ℕ) → found ≡ Some earlier → found' ≡ Some later
      → (both : TwoPlaces) → AreTwoNumbers names place other both ↔ (Some (record { earlier = earlier; later = later }) ≡ Some both)
  both_found found found' known known' earlier later e f both =
      two_of earlier later (subst (λ (o : Option ℕ). MatchOption o (IsUnknown names place) (IsOnlyNumber names place)) e known)
      (subst (λ (o : Option ℕ). MatchOption o (IsUnknown names other) (IsOnlyNumber names other)) f known') both

  pub first_unknown : (found : Option ℕ) → MatchOption found (IsUnknown names place) (IsOnlyNumber names place) → found ≡ None → (both : TwoPlaces)
      → AreTwoNumbers names place other both ↔ (None ≡ Some both)
  first_unknown found known e both =
      let none = subst (λ (o : Option ℕ). MatchOption o (IsUnknown names place) (IsOnlyNumber names place)) e known in
      (λ are. absurd (none both.earlier are.earlier), λ is. absurd (not_some both is))

  pub second_unknown : (found : Option ℕ) → MatchOption found (IsUnknown names other) (IsOnlyNumber names other) → found ≡ None → (both : TwoPlaces)
      → AreTwoNumbers names place other both ↔ (None ≡ Some both)
  second_unknown found known e both =
      let none = subst (λ (o : Option ℕ). MatchOption o (IsUnknown names other) (IsOnlyNumber names other)) e known in
      (λ are. absurd (none both.later are.later), λ is. absurd (not_some both is))

-- ---- keys

module _ (variables places : List (List ℕ)) where
  pub of_event : (line : ℕ) → IsKeyFound variables places (event line) (Some (Event line))
  of_event line key = (λ is. to line key is, λ e. subst (λ (k : Key). IsKeyOf variables places (event line) k) (same_Some (Event line) key e) event_key)
    where
      to : (line : ℕ) (key : Key) → IsKeyOf variables places (event line) key → Some (Event line) ≡ Some key
      to line _ event_key = refl

  pub of_pair : (line other : ℕ) → IsKeyFound variables places (pair line other) (Some (Pair line other))
  of_pair line other key =
      (λ is. to line other key is, λ e. subst (λ (k : Key). IsKeyOf variables places (pair line other) k) (same_Some (Pair line other) key e) pair_key)
    where
      to : (line other : ℕ) (key : Key) → IsKeyOf variables places (pair line other) key → Some (Pair line other) ≡ Some key
      to line other _ pair_key = refl

  pub of_places : (place other : List ℕ) (both : TwoPlaces)
      → ((numbers : TwoPlaces) → AreTwoNumbers places place other numbers ↔ (Some both ≡ Some numbers))
      → IsKeyFound variables places (locations place other) (Some (Places both.earlier both.later))
  of_places place other both test key = (
    λ is. to place other both test key is,
    λ e. subst (λ (k : Key). IsKeyOf variables places (locations place other) k) (same_Some (Places both.earlier both.later) key e)
        (places_key ((test both).1 refl)),
  )
    where
      to : (place other : List ℕ) (both : TwoPlaces) → ((numbers : TwoPlaces) → AreTwoNumbers places place other numbers ↔ (Some both ≡ Some numbers))
          → (key : Key) → IsKeyOf variables places (locations place other) key → Some (Places both.earlier both.later) ≡ Some key
      to place other both test _ (places_key {both = two} are) =
          let same = same_Some both two ((test two).0 are) in
          ap (λ (b : TwoPlaces). Some (Places b.earlier b.later)) same

  pub of_no_places : (place other : List ℕ) → ((numbers : TwoPlaces) → AreTwoNumbers places place other numbers ↔ (None ≡ Some numbers))
      → IsKeyFound variables places (locations place other) None
  of_no_places place other test key = (λ is. absurd (none place other test key is), λ e. absurd (not_some key e))
    where
      none : (place other : List ℕ) → ((numbers : TwoPlaces) → AreTwoNumbers places place other numbers ↔ (None ≡ Some numbers))
          → (key : Key) → IsKeyOf variables places (locations place other) key → ⊥
      none place other test _ (places_key {both = two} are) = not_some two ((test two).0 are)

  pub of_variable : (name : List ℕ) (found : Option ℕ) (number : ℕ) → found ≡ Some number
      → MatchOption found (IsUnknown variables name) (IsOnlyNumber variables name) → IsKeyFound variables places (variable name) (Some (Variable number))
  of_variable name found number e known key =
      let only = subst (λ (o : Option ℕ). MatchOption o (IsUnknown variables name) (IsOnlyNumber variables name)) e known in (
        λ is. to name number only key is,
        λ f. subst (λ (k : Key). IsKeyOf variables places (variable name) k) (same_Some (Variable number) key f) (variable_key only.is),
      )
    where
      to : (name : List ℕ) (number : ℕ) → IsOnlyNumber variables name number → (key : Key) → IsKeyOf variables places (variable name) key
          → Some (Variable number) ≡ Some key
      to name number only _ (variable_key {number = n} numbers) = ap (λ m. Some (Variable m)) (sym (only.only n numbers))

  pub of_no_variable : (name : List ℕ) (found : Option ℕ) → found ≡ None → MatchOption found (IsUnknown variables name) (IsOnlyNumber variables name)
      → IsKeyFound variables places (variable name) None
  of_no_variable name found e known key =
      let none = subst (λ (o : Option ℕ). MatchOption o (IsUnknown variables name) (IsOnlyNumber variables name)) e known in
      (λ is. absurd (never name none key is), λ f. absurd (not_some key f))
    where
      never : (name : List ℕ) → IsUnknown variables name → (key : Key) → IsKeyOf variables places (variable name) key → ⊥
      never name none _ (variable_key {number = n} numbers) = none n numbers

  pub of_first : (name : List ℕ) (line : ℕ) (found : Option ℕ) (number : ℕ) → found ≡ Some number
      → MatchOption found (IsUnknown variables name) (IsOnlyNumber variables name) → IsKeyFound variables places (first name line) (Some (First number line))
  of_first name line found number e known key =
      let only = subst (λ (o : Option ℕ). MatchOption o (IsUnknown variables name) (IsOnlyNumber variables name)) e known in (
        λ is. to name line number only key is,
        λ f. subst (λ (k : Key). IsKeyOf variables places (first name line) k) (same_Some (First number line) key f) (first_key only.is),
      )
    where
      to : (name : List ℕ) (line number : ℕ) → IsOnlyNumber variables name number → (key : Key) → IsKeyOf variables places (first name line) key
          → Some (First number line) ≡ Some key
      to name line number only _ (first_key {number = n} numbers) = ap (λ m. Some (First m line)) (sym (only.only n numbers))

  pub of_no_first : (name : List ℕ) (line : ℕ) (found : Option ℕ) → found ≡ None
      → MatchOption found (IsUnknown variables name) (IsOnlyNumber variables name) → IsKeyFound variables places (first name line) None
  of_no_first name line found e known key =
      let none = subst (λ (o : Option ℕ). MatchOption o (IsUnknown variables name) (IsOnlyNumber variables name)) e known in
      (λ is. absurd (never name line none key is), λ f. absurd (not_some key f))
    where
      never : (name : List ℕ) (line : ℕ) → IsUnknown variables name → (key : Key) → IsKeyOf variables places (first name line) key → ⊥
      never name line none _ (first_key {number = n} numbers) = none n numbers
