-- The keys of claims, and what they say of claims.
use Rattle.std.proofs.Common.{◌≡◌, ◌+◌, ℕ, ◌<◌, List, [], ◌∷◌, ◌++◌, Bool, true, false, cond, length, get_or, inl, inr, refl, sym, subst, ap, ◌∙◌, arith}
use Rattle.std.specs.Prelude.{◌⊎◌, ◌↔◌, Option, Some, Contains, nat_eq, slice_get}
use Rattle.std.specs.List.{list_any}
use Rattle.std.proofs.lemmas.Bool.{cases_eq, true≢false, and_parts, and_from, eqb-true, eq-eqb}
use Rattle.std.proofs.lemmas.List.Folds.{list_any_at}
use Rattle.std.proofs.lemmas.Map.Views.{Contains-from_any}
use Rattle.std.proofs.lemmas.List.Elements.{Contains-push, Contains-push_cases, Contains-append_left}
use Rattle.std.proofs.lemmas.Option.{slice_get_within, slice_get-get_or, get_or_from_slice_get, same_Some}
use Rattle.lrc_races_text.specs.Naming.{Numbers}
use Rattle.lrc_races_score.specs.Claims.{Statement, event, pair, locations, variable, first, statement_of}
use Rattle.lrc_races_score.specs.declared.report.LinedClaim.{LinedClaim}
use Rattle.lrc_races_claims.specs.declared.places.TwoPlaces.{TwoPlaces}
use Rattle.lrc_races_missed.specs.contracts.key.KeyPartialEq.TheImpl.{eq-value}
use Rattle.lrc_races_missed.specs.declared.key.Key.{Key}
use Rattle.lrc_races_missed.specs.declared.key.Key.TheVariants.{Event, Pair, Places, Variable, First}
use Rattle.lrc_races_missed.specs.Keys.{AreKeys, AreTwoNumbers, IsKeyFound, IsKeyOf, SomeHasKey, event_key, pair_key, places_key, variable_key, first_key}
use Rattle.lrc_races_missed.specs.Missed.{Claims}

-- ---- keys in a set

key_same : (s t : Key) → eq-value.it s t ≡ true → s ≡ t
key_same (Event a) (Event b) e = ap Event (eqb-true a b e)
key_same (Pair a c) (Pair b d) e =
    let p = and_parts (nat_eq a b) (nat_eq c d) e in
    ap (λ n. Pair n c) (eqb-true a b p.0) ∙ ap (λ n. Pair b n) (eqb-true c d p.1)
key_same (Places a c) (Places b d) e =
    let p = and_parts (nat_eq a b) (nat_eq c d) e in
    ap (λ n. Places n c) (eqb-true a b p.0) ∙ ap (λ n. Places b n) (eqb-true c d p.1)
key_same (Variable a) (Variable b) e = ap Variable (eqb-true a b e)
key_same (First a c) (First b d) e =
    let p = and_parts (nat_eq a b) (nat_eq c d) e in
    ap (λ n. First n c) (eqb-true a b p.0) ∙ ap (λ n. First b n) (eqb-true c d p.1)
key_same _ _ e = absurd (true≢false (sym e))

key_self : (s : Key) → eq-value.it s s ≡ true
key_self (Event a) = eq-eqb a a refl
key_self (Pair a b) = and_from (nat_eq a a) (nat_eq b b) (eq-eqb a a refl) (eq-eqb b b refl)
key_self (Places a b) = and_from (nat_eq a a) (nat_eq b b) (eq-eqb a a refl) (eq-eqb b b refl)
key_self (Variable a) = eq-eqb a a refl
key_self (First a b) = and_from (nat_eq a a) (nat_eq b b) (eq-eqb a a refl) (eq-eqb b b refl)

pub met_key : (keys : List Key) (s : Key) → list_any (λ (t : Key). eq-value.it s t) keys ≡ true → Contains keys s
met_key keys s any = Contains-from_any key_same s keys any

pub new_key : (keys : List Key) (s : Key) → list_any (λ (t : Key). eq-value.it s t) keys ≡ false → Contains keys s → ⊥
new_key keys s none (i, lt, is) =
    let there : list_any (λ (t : Key). eq-value.it s t) keys ≡ true =
    list_any_at (λ (t : Key). eq-value.it s t) keys i s lt (subst (λ (t : Key). eq-value.it s t ≡ true) (sym is) (key_self s)) in
    true≢false (sym there ∙ none)

pub key_added : (keys after : List Key) (s : Key) → after ≡ cond (list_any (λ (t : Key). eq-value.it s t) keys) keys (keys ++ s ∷ [])
    → (t : Key) → Contains after t ↔ (Contains keys t ⊎ (t ≡ s))
key_added keys after s e t = added (list_any (λ (x : Key). eq-value.it s x) keys) refl
  where
    added : (any : Bool) → list_any (λ (x : Key). eq-value.it s x) keys ≡ any → Contains after t ↔ (Contains keys t ⊎ (t ≡ s))
    added true is =
        let same : after ≡ keys = e ∙ ap (λ b. cond b keys (keys ++ s ∷ [])) is in (
          λ has. inl (subst (λ (l : List Key). Contains l t) same has),
          λ either. elim either [
            | inl has ↦ subst (λ (l : List Key). Contains l t) (sym same) has
            | inr this ↦ subst (λ (l : List Key). Contains l t) (sym same) (subst (λ x. Contains keys x) (sym this) (met_key keys s is))
          ],
        )
    added false is =
        let more : after ≡ keys ++ s ∷ [] = e ∙ ap (λ b. cond b keys (keys ++ s ∷ [])) is in (
          λ has. elim (Contains-push_cases keys s t (subst (λ (l : List Key). Contains l t) more has)) [
            | inl was ↦ inl was
            | inr this ↦ inr (sym this)
          ],
          λ either. elim either [
            | inl has ↦ subst (λ (l : List Key). Contains l t) (sym more) (Contains-append_left keys (s ∷ []) t has)
            | inr this ↦ subst (λ (l : List Key). Contains l t) (sym more) (subst (λ x. Contains (keys ++ s ∷ []) x) (sym this) (Contains-push keys s))
          ],
        )

pub added_some : (before after : List Key) (found : Option Key) (key : Key) → found ≡ Some key
    → ((other : Key) → Contains after other ↔ (Contains before other ⊎ (other ≡ key)))
    → (other : Key) → Contains after other ↔ (Contains before other ⊎ (found ≡ Some other))
added_some before after found key e more other = (
  λ has. elim ((more other).0 has) [ inl was ↦ inl was | inr same ↦ inr (e ∙ ap Some (sym same)) ],
  λ either. (more other).1 (elim either [ inl was ↦ inl was | inr own ↦ inr (sym (same_Some key other (sym e ∙ own))) ]),
)

-- ---- the keys of the claims so far

module _ (variables places : List (List ℕ)) (claims : List LinedClaim) where
  pub keys_none : (keys : List Key) → keys ≡ [] → (key : Key) → Contains keys key ↔ SomeHasKey variables places claims 0 key
  keys_none keys e key = (λ (k, lt, is). let long = ap length e in absurd (omega arith), λ some. let lt = some.before in absurd (omega arith))

  pub keys_more : (n : ℕ) (claim : LinedClaim) → slice_get claims n ≡ Some claim → (found : Option Key)
      → IsKeyFound variables places (statement_of claim.claim) found → (before after : List Key)
      → ((key : Key) → Contains after key ↔ (Contains before key ⊎ (found ≡ Some key)))
      → ((key : Key) → Contains before key ↔ SomeHasKey variables places claims n key)
      → (key : Key) → Contains after key ↔ SomeHasKey variables places claims (n + 1) key
  keys_more n claim at found is before after more old key = (
    λ has. elim ((more key).0 has) [
      | inl was ↦
          let some = (old key).0 was in
          record { k = some.k; claim = some.claim; before = let lt = some.before in omega arith; at = some.at; is = some.is }
      | inr own ↦ record { k = n; claim = claim; before = omega arith; at = at; is = (is key).1 own }
    ],
    λ some. (more key).1 (elim (cases_eq some.k n) [
      | inl same ↦
          let e : some.claim ≡ claim = same_Some some.claim claim (sym some.at ∙ ap (slice_get claims) same ∙ at) in
          inr ((is key).0 (subst (λ (c : LinedClaim). IsKeyOf variables places (statement_of c.claim) key) e some.is))
      | inr other ↦
          let lt = some.before in
          inl ((old key).1 (record { k = some.k; claim = some.claim; before = omega arith; at = some.at; is = some.is }))
    ]),
  )

  -- ---- what a key says of the claims

  module _ (keys : List Key) (are : AreKeys variables places claims keys) where
    pub key_claimed : (claim : Statement) (key : Key) → IsKeyOf variables places claim key → Claims claims claim → Contains keys key
    key_claimed claim key is claimed =
        let (k, lt, same) = claimed.at in
        (are.exact key).1 (record {
          k = k;
          claim = claimed.lined;
          before = lt;
          at = slice_get-get_or claims k claimed.lined lt ∙ ap Some same;
          is = subst (λ (c : Statement). IsKeyOf variables places c key) (sym claimed.is) is;
        })

    pub claimed_key : (claim : Statement) (key : Key) → ((other : Statement) → IsKeyOf variables places other key → other ≡ claim) → Contains keys key
        → Claims claims claim
    claimed_key claim key only has =
        let some = (are.exact key).0 has in
        record {
          lined = some.claim;
          at = (some.k, slice_get_within claims some.k some.claim some.at, get_or_from_slice_get claims some.k some.claim some.claim some.at);
          is = only (statement_of some.claim.claim) some.is;
        }

-- ---- which claim has a key

pub one_name : (names : List (List ℕ)) (number : ℕ) (name other : List ℕ) → Numbers names name number → Numbers names other number → name ≡ other
one_name names number name other n m = same_Some name other (sym n.at ∙ m.at)

module _ (variables places : List (List ℕ)) where
  pub only_event : (line : ℕ) (claim : Statement) (key : Key) → key ≡ Event line → IsKeyOf variables places claim key → claim ≡ event line
  only_event line _ _ e (event_key {line = own}) = let same : own ≡ line = cc in ap event same
  only_event line _ _ e pair_key = let never : ⊥ = cc in absurd never
  only_event line _ _ e (places_key are) = let never : ⊥ = cc in absurd never
  only_event line _ _ e (variable_key numbers) = let never : ⊥ = cc in absurd never
  only_event line _ _ e (first_key numbers) = let never : ⊥ = cc in absurd never

  pub only_pair : (line other : ℕ) (claim : Statement) (key : Key) → key ≡ Pair line other → IsKeyOf variables places claim key
      → claim ≡ pair line other
  only_pair line other _ _ e event_key = let never : ⊥ = cc in absurd never
  only_pair line other _ _ e (pair_key {line = own} {other = own'}) =
      let same : own ≡ line = cc in
      let same' : own' ≡ other = cc in
      ap (λ n. pair n own') same ∙ ap (λ n. pair line n) same'
  only_pair line other _ _ e (places_key are) = let never : ⊥ = cc in absurd never
  only_pair line other _ _ e (variable_key numbers) = let never : ⊥ = cc in absurd never
  only_pair line other _ _ e (first_key numbers) = let never : ⊥ = cc in absurd never

  pub only_places : (place other : List ℕ) (both : TwoPlaces) → AreTwoNumbers places place other both → (claim : Statement) (key : Key)
      → key ≡ Places both.earlier both.later → IsKeyOf variables places claim key → claim ≡ locations place other
  only_places place other both are _ _ e event_key = let never : ⊥ = cc in absurd never
  only_places place other both are _ _ e pair_key = let never : ⊥ = cc in absurd never
  only_places place other both are _ _ e (places_key {place = own} {other = own'} {both = two} are') =
      let same : two.earlier ≡ both.earlier = cc in
      let same' : two.later ≡ both.later = cc in
      ap (λ n. locations n own') (one_name places both.earlier own place (subst (λ n. Numbers places own n) same are'.earlier) are.earlier)
      ∙ ap (λ n. locations place n) (one_name places both.later own' other (subst (λ n. Numbers places own' n) same' are'.later) are.later)
  only_places place other both are _ _ e (variable_key numbers) = let never : ⊥ = cc in absurd never
  only_places place other both are _ _ e (first_key numbers) = let never : ⊥ = cc in absurd never

  pub only_variable : (name : List ℕ) (number : ℕ) → Numbers variables name number → (claim : Statement) (key : Key) → key ≡ Variable number
      → IsKeyOf variables places claim key → claim ≡ variable name
  only_variable name number is _ _ e event_key = let never : ⊥ = cc in absurd never
  only_variable name number is _ _ e pair_key = let never : ⊥ = cc in absurd never
  only_variable name number is _ _ e (places_key are) = let never : ⊥ = cc in absurd never
  only_variable name number is _ _ e (variable_key {name = own} {number = n} numbers) =
      let same : n ≡ number = cc in
      ap variable (one_name variables number own name (subst (λ m. Numbers variables own m) same numbers) is)
  only_variable name number is _ _ e (first_key numbers) = let never : ⊥ = cc in absurd never

  pub only_first : (name : List ℕ) (number line : ℕ) → Numbers variables name number → (claim : Statement) (key : Key) → key ≡ First number line
      → IsKeyOf variables places claim key → claim ≡ first name line
  only_first name number line is _ _ e event_key = let never : ⊥ = cc in absurd never
  only_first name number line is _ _ e pair_key = let never : ⊥ = cc in absurd never
  only_first name number line is _ _ e (places_key are) = let never : ⊥ = cc in absurd never
  only_first name number line is _ _ e (variable_key numbers) = let never : ⊥ = cc in absurd never
  only_first name number line is _ _ e (first_key {name = own} {number = n} {line = l} numbers) =
      let same : n ≡ number = cc in
      let same' : l ≡ line = cc in
      ap (λ m. first m l) (one_name variables number own name (subst (λ m. Numbers variables own m) same numbers) is) ∙ ap (λ m. first name m) same'

-- one claim more, whose names are looked for among the same
pub keys_noted : (variables places variables' places' : List (List ℕ)) → variables' ≡ variables → places' ≡ places → (claims : List LinedClaim) (n : ℕ) (d : LinedClaim)
    → n < length claims → (found : Option Key) → IsKeyFound variables' places' (statement_of (get_or claims n d).claim) found → (before after : List Key)
    → ((key : Key) → Contains after key ↔ (Contains before key ⊎ (found ≡ Some key)))
    → ((key : Key) → Contains before key ↔ SomeHasKey variables places claims n key)
    → (key : Key) → Contains after key ↔ SomeHasKey variables places claims (n + 1) key
keys_noted variables places variables' places' e f claims n d lt found is before after more old =
    keys_more variables places claims n (get_or claims n d) (slice_get-get_or claims n d lt) found
    (subst (λ (l : List (List ℕ)). IsKeyFound l places (statement_of (get_or claims n d).claim) found) e
    (subst (λ (l : List (List ℕ)). IsKeyFound variables' l (statement_of (get_or claims n d).claim) found) f is)) before after more old
