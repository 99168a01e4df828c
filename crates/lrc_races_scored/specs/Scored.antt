-- What is printed of a report about a trace, and the status.
use Rattle.std.specs.Prelude.{◌≡◌, ℕ, ◌==◌, ◌&&◌, not, if◌then◌else◌, Bool, List, ◌++◌, length}
use Rattle.std.specs.List.{list_any}
use Rattle.lrc_races_trace.specs.declared.event.Event.{Event}
use Rattle.lrc_races_text.specs.declared.asked.Sought.{Sought}
use Rattle.lrc_races_text.specs.declared.form.Form.{Form}
use Rattle.lrc_races_text.specs.Naming.{Naming}
use Rattle.lrc_races_score.specs.declared.report.LinedClaim.{LinedClaim}
use Rattle.lrc_races_claims.specs.declared.verdict.Verdict.{Verdict}
use Rattle.lrc_races_claims.specs.Judge.{AreVerdicts}
use Rattle.lrc_races_scored.specs.declared.missed.Missed.{Missed}
use Rattle.lrc_races_scored.specs.Missing.{AreMissed}
use Rattle.lrc_races_scored.specs.Sorts.{is_true}
use Rattle.lrc_races_scored.specs.Spelled.{judged_lines, missed_lines, score_lines}
use Rattle.lrc_races_scored.specs.Traced.{IsTraceOf}

-- something that was claimed is false
abbrev pub some_false : List Verdict → Bool
some_false verdicts = list_any (λ (verdict : Verdict). not (is_true verdict)) verdicts

-- nothing is missed
abbrev pub is_complete : Missed → Bool
is_complete missed = length missed.events.items == 0 && length missed.pairs.items == 0 && length missed.locations.items == 0
    && length missed.variables.items == 0 && length missed.firsts.items == 0

-- 3 where something is false, else 4 where something is missed, else 0
abbrev pub status_of : List Verdict → Missed → ℕ
status_of verdicts missed = if some_false verdicts then 3 else (if is_complete missed then 0 else 4)

-- Of a trace of so many lines, of which these races are sought, this is printed of the claims: what is said of each, what they missed,
-- and how many there are of each sort; and this is the status.
pub record IsScore (sought : Sought) (naming : Naming) (events : List Event) (last : ℕ) (claims : List LinedClaim) (status : ℕ) (printed : List ℕ)
    : Type 0 where
  pub verdicts : List Verdict
  pub missed : Missed
  pub judged : AreVerdicts sought naming events last claims verdicts
  pub are_missed : AreMissed sought naming events claims missed
  pub text : printed ≡ judged_lines sought naming.threads claims verdicts ++ (missed_lines naming missed ++ score_lines claims verdicts missed)
  pub answer : status ≡ status_of verdicts missed

-- it is added
abbrev pub HasScored : Sought → Naming → List Event → ℕ → List LinedClaim → List ℕ → ℕ → List ℕ → Type 0
HasScored sought naming events last claims old status new = (printed : List ℕ) × (new ≡ old ++ printed) × IsScore sought naming events last claims status printed

-- These are all lines of a trace, and this is printed of the claims about it.
pub record IsScoreOf (sought : Sought) (form : Form) (lines : List (List ℕ)) (claims : List LinedClaim) (status : ℕ) (printed : List ℕ) : Type 0 where
  pub naming : Naming
  pub events : List Event
  pub trace : IsTraceOf form lines naming events
  pub score : IsScore sought naming events (length lines) claims status printed
