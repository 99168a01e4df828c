-- What is missed of a sort that is scored, and of one that is not.
use Rattle.std.proofs.Common.{◌≡◌, ◌∙◌, List, [], Bool, true, false, sym, subst}
use Rattle.std.specs.Prelude.{MatchBool, OnOk, Result, Ok, Err, Some}
use Rattle.lrc_races_trace.specs.declared.event.Event.{Event}
use Rattle.lrc_races_claims.specs.Judge.{StaysJudge}
use Rattle.lrc_races_claims.specs.Known.{known_names}
use Rattle.lrc_races_claims.specs.Placed.{HasSamePlaces}
use Rattle.lrc_races_claims.specs.declared.judge.Judge.{Judge}
use Rattle.lrc_races_claims.specs.declared.known.KnownNames.{KnownNames}
use Rattle.lrc_races_claims.specs.declared.places.Places.{Places}
use Rattle.lrc_races_claims.proofs.JudgeLemmas.{with_same_places, with_variables}

pub unscored : (A : Type 0) {X : Type 0} (is_scored says : Bool) (items : List X) → says ≡ is_scored → says ≡ false → items ≡ [] → MatchBool is_scored A (items ≡ [])
unscored A is_scored says items same unset none = subst (λ (b : Bool). MatchBool b A (items ≡ [])) (sym unset ∙ same) none

pub scored_so : {A : Type 0} (B : Type 0) (is_scored says : Bool) → says ≡ is_scored → says ≡ true → A → MatchBool is_scored A B
scored_so {A = A} B is_scored says same set is = subst (λ (b : Bool). MatchBool b A B) (sym set ∙ same) is

-- what is so holds where there is a value
pub on_any : {T E P : Type 0} (result : Result T E) → P → OnOk result P
on_any (Ok x) p = p
on_any (Err e) p = tt

-- the places and the names of variables that were looked for change nothing
pub located_stays : {T E : Type 0} (result : Result T E) (events : List Event) (before judge : Judge) → StaysJudge events before judge
    → (places after : Places) (variables : KnownNames) → judge.places ≡ Some places → OnOk result (known_names variables ≡ known_names judge.variables)
    → OnOk result (HasSamePlaces places after) → OnOk result (StaysJudge events before (record judge { variables = variables; places = Some after }))
located_stays (Ok x) events before judge stays places after variables is same kept = λ sought naming last was.
    with_variables sought naming events last (record judge { places = Some after })
    (with_same_places sought naming events last judge (stays sought naming last was) places after is kept) variables same
located_stays (Err e) events before judge stays places after variables is same kept = same
