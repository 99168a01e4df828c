-- The racing events that no claim has, with one event more, and all.
use Rattle.std.proofs.Common.{◌≡◌, ◌+◌, ℕ, ◌<◌, List, [], ◌∷◌, ◌++◌, Bool, true, length, get_or, refl, sym, subst, ap, ◌∙◌, arith}
use Rattle.std.specs.Prelude.{◌↔◌, IsTrue, Contains, Some, slice_get}
use Rattle.std.proofs.lemmas.Option.{slice_get-get_or, same_Some}
use Rattle.lrc_races_trace.specs.declared.event.Event.{Event}
use Rattle.lrc_races_trace.specs.Trace.{Accesses, At}
use Rattle.lrc_races_trace.proofs.Positions.{At-one, At-within}
use Rattle.lrc_races_text.specs.declared.asked.Sought.{Sought}
use Rattle.lrc_races_text.specs.declared.asked.Sought.TheVariants.{AllRaces, SureRaces}
use Rattle.lrc_races_locations.specs.Rivals.{Rivals}
use Rattle.lrc_races_witness.specs.Relations.{AreByLine}
use Rattle.lrc_races_score.specs.Claims.{event}
use Rattle.lrc_races_score.specs.declared.report.LinedClaim.{LinedClaim}
use Rattle.lrc_races_claims.specs.Racing.{AreMarked}
use Rattle.lrc_races_missed.specs.declared.key.Key.{Key}
use Rattle.lrc_races_missed.specs.declared.key.Key.TheVariants as keyed
use Rattle.lrc_races_missed.specs.Keys.{AreKeys, event_key}
use Rattle.lrc_races_missed.specs.Missed.{AreMissedEvents}
use Rattle.lrc_races_missed.proofs.Given.{AreGiven, given_more, given_none, given_same}
use Rattle.lrc_races_missed.proofs.KeyLemmas.{claimed_key, key_claimed, only_event}

-- a marked event whose key is not there gives its line
pub record GivesLine (marks : List Bool) (keys : List Key) (position : ℕ) (is : Event) (line : ℕ) : Type 0 where
  pub on : is.line ≡ line
  pub mark : slice_get marks position ≡ Some true
  pub free : ¬ Contains keys (keyed.Event line)

abbrev pub GivenLines : List Event → List Bool → List Key → ℕ → List ℕ → Type 0
GivenLines events marks keys n lines = AreGiven events (GivesLine marks keys) (λ one other. one < other) n lines

module _ (events : List Event) (marks : List Bool) (keys : List Key) (by_line : AreByLine events) where
  carries : (k l : ℕ) (a b : Event) (x w : ℕ) → GivesLine marks keys k a x → GivesLine marks keys l b w → a.line < b.line → x < w
  carries k l a b x w g h lt = let e = g.on in let f = h.on in omega arith

  pub line_missed : (n : ℕ) (is : Event) (mark missed : Bool) → slice_get events n ≡ Some is → slice_get marks n ≡ Some mark
      → (IsTrue missed ↔ (IsTrue mark × ¬ Contains keys (keyed.Event is.line))) → missed ≡ true → (lines : List ℕ)
      → GivenLines events marks keys n lines → GivenLines events marks keys (n + 1) (lines ++ is.line ∷ [])
  line_missed n is mark missed here marked test set lines given =
      let (holds, free) = test.0 set in
      given_more events (λ a b. a.line < b.line) (λ one other. one < other) (GivesLine marks keys) by_line carries n is here is.line
      (record { on = refl; mark = marked ∙ ap Some holds; free = free }) (λ w gives. sym gives.on) lines given

  pub line_passed : (n : ℕ) (is : Event) (mark missed : Bool) → slice_get events n ≡ Some is → slice_get marks n ≡ Some mark
      → (IsTrue missed ↔ (IsTrue mark × ¬ Contains keys (keyed.Event is.line))) → (missed ≡ true → ⊥) → (lines : List ℕ)
      → GivenLines events marks keys n lines → GivenLines events marks keys (n + 1) lines
  line_passed n is mark missed here marked test unset lines given =
      given_same events (λ a b. a.line < b.line) (λ one other. one < other) (GivesLine marks keys) by_line carries n is here
      (λ line gives.
      unset (test.1 (same_Some mark true (sym marked ∙ gives.mark), subst (λ l. ¬ Contains keys (keyed.Event l)) (sym gives.on) gives.free)))
      lines given

pub lines_none : (events : List Event) (marks : List Bool) (keys : List Key) (lines : List ℕ) → lines ≡ [] → GivenLines events marks keys 0 lines
lines_none events marks keys lines e =
    subst (λ (l : List ℕ). GivenLines events marks keys 0 l) (sym e) (given_none events (GivesLine marks keys) (λ one other. one < other))

-- an event that races is an access
racing_access : (sought : Sought) (events : List Event) (i j : ℕ) (b : Event) → Rivals sought events i j → At events j b → (v : ℕ) × Accesses b v
racing_access AllRaces events i j b race at =
    (race.conflict.variable, subst (λ (x : Event). Accesses x race.conflict.variable) (At-one race.second at) race.conflict.second)
racing_access SureRaces events i j b race at =
    (race.conflict.variable, subst (λ (x : Event). Accesses x race.conflict.variable) (At-one race.second at) race.conflict.second)

pub lines_are : (sought : Sought) (events : List Event) (marks : List Bool) (keys : List Key) (claims : List LinedClaim) (variables places : List (List ℕ))
    (n : ℕ) (lines : List ℕ) → n ≡ length events → AreMarked sought events (length events) marks → AreKeys variables places claims keys
    → GivenLines events marks keys n lines → AreMissedEvents sought events claims lines
lines_are sought events marks keys claims variables places n lines end marked are given = record {
  ascending = given.in_order;
  exact = λ line. (
    λ has.
        let some = (given.exact line).0 has in
        let races = (marked.exact some.k true some.gives.mark).0 refl in
        let at : At events some.k some.y = record { is = some.at } in
        let (v, accesses) = racing_access sought events races.i some.k some.y races.rivals at in (
          some.k,
          v,
          some.y,
          record { at = at; on = some.gives.on; accesses = accesses },
          races,
          λ claimed. some.gives.free (key_claimed variables places claims keys are (event line) (keyed.Event line) event_key claimed),
        ),
    λ (j, v, b, is, races, free).
        let within = At-within is.at in
        let long = marked.long in
        let here = slice_get-get_or marks j true (omega arith) in
        (given.exact line).1 (record {
          k = j;
          y = b;
          before = omega arith;
          at = is.at.is;
          gives = record {
            on = is.on;
            mark = subst (λ (m : Bool). slice_get marks j ≡ Some m) ((marked.exact j (get_or marks j true) here).1 races) here;
            free = λ has. free (claimed_key variables places claims keys are (event line) (keyed.Event line) (λ other is. only_event variables places line other (keyed.Event line) refl is) has);
          };
        }),
  );
}
