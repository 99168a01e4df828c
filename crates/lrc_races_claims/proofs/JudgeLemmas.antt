-- A judge stays one, whatever it finds out.
use Rattle.std.proofs.Common.{◌≡◌, ℕ, zero, suc, List, [], ◌∷◌, ◌++◌, length, inl, inr, refl, sym, subst, ap, ◌∙◌}
use Rattle.std.specs.Prelude.{◌⊎◌, IfOk, Option, Some, None, Result, set, slice_get}
use Rattle.std.proofs.lemmas.Option.{same_Some}
use Rattle.lrc_races_trace.specs.declared.event.Event.{Event}
use Rattle.lrc_races_text.specs.declared.asked.Sought.{Sought}
use Rattle.lrc_races_text.specs.Naming.{Naming}
use Rattle.lrc_races_score.specs.Claims.{statement_of, event, pair, first}
use Rattle.lrc_races_score.specs.declared.claim.Claim.{Claim}
use Rattle.lrc_races_score.specs.declared.report.LinedClaim.{LinedClaim}
use Rattle.lrc_races_text.specs.Tables.{naming_of}
use Rattle.lrc_races_claims.specs.declared.asking.Asker.{Asker}
use Rattle.lrc_races_claims.specs.declared.judge.Judge.{Judge}
use Rattle.lrc_races_claims.specs.declared.judging.Facts.{Facts}
use Rattle.lrc_races_claims.specs.declared.judging.FirstRacing.{FirstRacing}
use Rattle.lrc_races_claims.specs.declared.known.KnownNames.{KnownNames}
use Rattle.lrc_races_claims.specs.declared.places.Places.{Places}
use Rattle.lrc_races_claims.specs.Asking.{IsAsking}
use Rattle.lrc_races_claims.specs.Judge.{AreEmpty, AreSlots, IsJudge}
use Rattle.lrc_races_claims.specs.Judging.{AreFacts, IsFirstFound}
use Rattle.lrc_races_claims.specs.Known.{known_names}
use Rattle.lrc_races_claims.specs.Placed.{ArePlaces, HasSamePlaces}
use Rattle.lrc_races_claims.proofs.Renaming.{kept_places, same_places}
use Rattle.lrc_races_claims.specs.Truth.{IsJudged}
use Rattle.lrc_races_claims.specs.declared.verdict.Verdict.{Verdict}
use Rattle.lrc_races_claims.proofs.Marking.{push_cases}

-- no slot is filled
pub empty_none : (slots : List (Option Verdict)) → slots ≡ [] → AreEmpty slots
empty_none slots e = subst (λ (l : List (Option Verdict)). AreEmpty l) (sym e) (λ k slot at. let never : ⊥ = cc in absurd never)

pub empty_more : (slots after : List (Option Verdict)) → after ≡ slots ++ None ∷ [] → AreEmpty slots → AreEmpty after
empty_more slots after e empty = subst (λ (l : List (Option Verdict)). AreEmpty l) (sym e) more
  where
    more : AreEmpty (slots ++ None ∷ [])
    more k slot at =
        elim (push_cases slots None slot k at) [
          | inl old ↦ empty k slot old
          | inr (same, is) ↦ sym is
        ]

pub slots_none : (sought : Sought) (naming : Naming) (events : List Event) (last : ℕ) (claims : List LinedClaim) (slots : List (Option Verdict))
    → AreEmpty slots → AreSlots sought naming events last claims slots
slots_none sought naming events last claims slots none = record {
  each = λ k claim verdict at here. let e = none k (Some verdict) here in let never : ⊥ = cc in absurd never;
}

pub set_cases : {X : Type 0} (xs : List X) (i : ℕ) (x : X) (k : ℕ) (y : X) → slice_get (set xs i x) k ≡ Some y
    → ((k ≡ i) × (y ≡ x)) ⊎ (slice_get xs k ≡ Some y)
set_cases [] i x k y e = inr e
set_cases (z ∷ xs) zero x zero y e = inl (refl, let is : y ≡ x = cc in is)
set_cases (z ∷ xs) zero x (suc k) y e = inr e
set_cases (z ∷ xs) (suc i) x zero y e = inr e
set_cases (z ∷ xs) (suc i) x (suc k) y e =
    elim (set_cases xs i x k y e) [
      | inl (same, is) ↦ inl (ap suc same, is)
      | inr old ↦ inr old
    ]

-- one slot more is filled
pub slot_filled : (sought : Sought) (naming : Naming) (events : List Event) (last : ℕ) (claims : List LinedClaim) (slots after : List (Option Verdict))
    (place : ℕ) (claim : LinedClaim) (verdict : Verdict) → slice_get claims place ≡ Some claim
    → ((k : ℕ) (slot : Option Verdict) → slice_get after k ≡ Some slot → ((k ≡ place) × (slot ≡ Some verdict)) ⊎ (slice_get slots k ≡ Some slot))
    → IsJudged sought naming events last (statement_of claim.claim) verdict → AreSlots sought naming events last claims slots
    → AreSlots sought naming events last claims after
slot_filled sought naming events last claims slots after place claim verdict at cases judged are = record {
  each = λ k other said here slot.
      elim (cases k (Some said) slot) [
        | inl (same, e) ↦
            let c : claim ≡ other = same_Some claim other (sym at ∙ ap (slice_get claims) (sym same) ∙ here) in
            let v : verdict ≡ said = same_Some verdict said (sym e) in
            subst (λ (x : LinedClaim). IsJudged sought naming events last (statement_of x.claim) said) c
            (subst (λ (x : Verdict). IsJudged sought naming events last (statement_of claim.claim) x) v judged)
        | inr old ↦ are.each k other said here old
      ];
}

-- what is said of the first claims is so
abbrev pub AreSaid : Sought → Naming → List Event → ℕ → List LinedClaim → List Verdict → Type 0
AreSaid sought naming events last claims verdicts = (k : ℕ) (claim : LinedClaim) (said : Verdict) → slice_get claims k ≡ Some claim
    → slice_get verdicts k ≡ Some said → IsJudged sought naming events last (statement_of claim.claim) said

pub verdict_none : (sought : Sought) (naming : Naming) (events : List Event) (last : ℕ) (claims : List LinedClaim) (verdicts : List Verdict) → verdicts ≡ []
    → AreSaid sought naming events last claims verdicts
verdict_none sought naming events last claims verdicts e k claim said at here =
    let none : slice_get [] k ≡ Some said = subst (λ (l : List Verdict). slice_get l k ≡ Some said) e here in
    let never : ⊥ = cc in absurd never

-- one verdict more
pub verdict_more : (sought : Sought) (naming : Naming) (events : List Event) (last : ℕ) (claims : List LinedClaim) (verdicts after : List Verdict)
    (verdict : Verdict) → after ≡ verdicts ++ verdict ∷ []
    → ((claim : LinedClaim) → slice_get claims (length verdicts) ≡ Some claim → IsJudged sought naming events last (statement_of claim.claim) verdict)
    → AreSaid sought naming events last claims verdicts → AreSaid sought naming events last claims after
verdict_more sought naming events last claims verdicts after verdict e own each k claim said at here =
    elim (push_cases verdicts verdict said k (subst (λ (l : List Verdict). slice_get l k ≡ Some said) e here)) [
      | inl old ↦ each k claim said at old
      | inr (same, is) ↦
          subst (λ (v : Verdict). IsJudged sought naming events last (statement_of claim.claim) v) is
          (own claim (subst (λ m. slice_get claims m ≡ Some claim) same at))
    ]

-- ---- what a judge finds out

module _ (sought : Sought) (naming : Naming) (events : List Event) (last : ℕ) (judge : Judge) (is : IsJudge sought naming events last judge) where
  -- names that were looked for change nothing
  pub with_variables : (variables : KnownNames) → known_names variables ≡ known_names judge.variables
      → IsJudge sought naming events last (record judge { variables = variables })
  with_variables variables e = record {
    lines = is.lines;
    seeks = is.seeks;
    asks = is.asks;
    asking = is.asking;
    variables = is.variables ∙ sym e;
    threads = is.threads;
    locations = is.locations;
    facts = is.facts;
    places = is.places;
  }

  pub with_facts : (facts : Facts) → AreFacts judge.sought events facts → IsJudge sought naming events last (record judge { facts = Some facts })
  with_facts facts are = record {
    lines = is.lines;
    seeks = is.seeks;
    asks = is.asks;
    asking = is.asking;
    variables = is.variables;
    threads = is.threads;
    locations = is.locations;
    facts = λ other e.
        subst (λ (f : Facts). AreFacts sought events f) (same_Some facts other e) (subst (λ (s : Sought). AreFacts s events facts) is.seeks are);
    places = is.places;
  }

  pub with_places : (places : Places) → ArePlaces judge.sought (naming_of judge.names) events places
      → IsJudge sought naming events last (record judge { places = Some places })
  with_places places are = record {
    lines = is.lines;
    seeks = is.seeks;
    asks = is.asks;
    asking = is.asking;
    variables = is.variables;
    threads = is.threads;
    locations = is.locations;
    facts = is.facts;
    places = λ other e.
        subst (λ (p : Places). ArePlaces sought naming events p) (same_Some places other e)
        (same_places sought (naming_of judge.names) naming events places (sym is.locations)
        (subst (λ (s : Sought). ArePlaces s (naming_of judge.names) events places) is.seeks are));
  }

  -- and places that were looked for
  pub with_same_places : (places after : Places) → judge.places ≡ Some places → HasSamePlaces places after
      → IsJudge sought naming events last (record judge { places = Some after })
  with_same_places places after has same = record {
    lines = is.lines;
    seeks = is.seeks;
    asks = is.asks;
    asking = is.asking;
    variables = is.variables;
    threads = is.threads;
    locations = is.locations;
    facts = is.facts;
    places = λ other e.
        subst (λ (p : Places). ArePlaces sought naming events p) (same_Some after other e)
        (kept_places sought naming events places after same (is.places places has));
  }

  pub with_asker : (asker : Asker) → asker.sought ≡ judge.asker.sought → IsAsking events asker
      → IsJudge sought naming events last (record judge { asker = asker })
  with_asker asker e asking = record {
    lines = is.lines;
    seeks = is.seeks;
    asks = e ∙ is.asks;
    asking = asking;
    variables = is.variables;
    threads = is.threads;
    locations = is.locations;
    facts = is.facts;
    places = is.places;
  }

  -- ---- what it says of claims

  pub event_judged : (facts : Facts) → judge.facts ≡ Some facts → (line : ℕ) (verdict : Verdict)
      → ((s : Sought) (n : Naming) → AreFacts s events facts → IsJudged s n events judge.last (event line) verdict)
      → IsJudged sought naming events last (event line) verdict
  event_judged facts e line verdict says =
      subst (λ l. IsJudged sought naming events l (event line) verdict) is.lines (says sought naming (is.facts facts e))

  pub pair_judged : (line other : ℕ) (verdict : Verdict)
      → ((n : Naming) → IsJudged judge.asker.sought n events judge.last (pair line other) verdict)
      → IsJudged sought naming events last (pair line other) verdict
  pair_judged line other verdict says =
      subst (λ l. IsJudged sought naming events l (pair line other) verdict) is.lines
      (subst (λ (s : Sought). IsJudged s naming events judge.last (pair line other) verdict) is.asks (says naming))

  pub first_judged : (name : List ℕ) (line : ℕ) (found : FirstRacing) (verdict : Verdict) → IsFirstFound sought naming events name found
      → ((s : Sought) (n : Naming) (name : List ℕ) → IsFirstFound s n events name found → IsJudged s n events judge.last (first name line) verdict)
      → IsJudged sought naming events last (first name line) verdict
  first_judged name line found verdict is_found says =
      subst (λ l. IsJudged sought naming events l (first name line) verdict) is.lines (says sought naming name is_found)

-- what is said of a claim, by what it is
pub of_claim : {E : Type 0} (events : List Event) (judge : Judge) (claim other : Claim) (result : Result Verdict E) → claim ≡ other
    → IfOk result (λ verdict. (sought : Sought) (naming : Naming) (last : ℕ) → IsJudge sought naming events last judge
    → IsJudged sought naming events last (statement_of other) verdict)
    → IfOk result (λ verdict. (sought : Sought) (naming : Naming) (last : ℕ) → IsJudge sought naming events last judge
    → IsJudged sought naming events last (statement_of claim) verdict)
of_claim events judge claim other result same says =
    subst (λ (c : Claim). IfOk result (λ verdict. (sought : Sought) (naming : Naming) (last : ℕ) → IsJudge sought naming events last judge
    → IsJudged sought naming events last (statement_of c) verdict)) (sym same) says
