-- The judge of claims, and what is said of all.
use Rattle.std.specs.Prelude.{◌≡◌, ℕ, List, Option, None, Some, length, slice_get}
use Rattle.lrc_races_trace.specs.declared.event.Event.{Event}
use Rattle.lrc_races_lines.specs.Table.{names_of}
use Rattle.lrc_races_text.specs.declared.asked.Sought.{Sought}
use Rattle.lrc_races_text.specs.Naming.{Naming}
use Rattle.lrc_races_score.specs.Claims.{statement_of}
use Rattle.lrc_races_score.specs.declared.report.LinedClaim.{LinedClaim}
use Rattle.lrc_races_claims.specs.declared.judge.Judge.{Judge}
use Rattle.lrc_races_claims.specs.declared.judging.Facts.{Facts}
use Rattle.lrc_races_claims.specs.declared.places.Places.{Places}
use Rattle.lrc_races_claims.specs.declared.verdict.Verdict.{Verdict}
use Rattle.lrc_races_claims.specs.Asking.{IsAsking}
use Rattle.lrc_races_claims.specs.Judging.{AreFacts}
use Rattle.lrc_races_claims.specs.Known.{known_names}
use Rattle.lrc_races_claims.specs.Placed.{ArePlaces}
use Rattle.lrc_races_claims.specs.Truth.{IsJudged}

-- it judges claims about this trace: what it has found out so far is so
pub record IsJudge (sought : Sought) (naming : Naming) (events : List Event) (last : ℕ) (judge : Judge) : Type 0 where
  pub lines : judge.last ≡ last
  pub seeks : judge.sought ≡ sought
  pub asks : judge.asker.sought ≡ sought
  pub asking : IsAsking events judge.asker
  pub variables : naming.variables ≡ known_names judge.variables
  pub threads : naming.threads ≡ names_of judge.names.threads
  pub locations : naming.locations ≡ names_of judge.names.locations
  pub facts : (facts : Facts) → judge.facts ≡ Some facts → AreFacts sought events facts
  pub places : (places : Places) → judge.places ≡ Some places → ArePlaces sought naming events places

pub record IsSomeJudge (events : List Event) (judge : Judge) : Type 0 where
  pub sought : Sought
  pub naming : Naming
  pub last : ℕ
  pub is : IsJudge sought naming events last judge

-- it still judges claims about the trace
abbrev pub StaysJudge : List Event → Judge → Judge → Type 0
StaysJudge events before after = (sought : Sought) (naming : Naming) (last : ℕ) → IsJudge sought naming events last before
    → IsJudge sought naming events last after

-- no verdict is kept
abbrev pub AreEmpty : List (Option Verdict) → Type 0
AreEmpty slots = (k : ℕ) (slot : Option Verdict) → slice_get slots k ≡ Some slot → slot ≡ None

-- each verdict that is kept is what is said of the claim at its place
pub record AreSlots (sought : Sought) (naming : Naming) (events : List Event) (last : ℕ) (claims : List LinedClaim) (slots : List (Option Verdict))
    : Type 0 where
  pub each : (k : ℕ) (claim : LinedClaim) (verdict : Verdict) → slice_get claims k ≡ Some claim → slice_get slots k ≡ Some (Some verdict)
      → IsJudged sought naming events last (statement_of claim.claim) verdict

-- each verdict is what is said of the claim at its place
pub record AreVerdicts (sought : Sought) (naming : Naming) (events : List Event) (last : ℕ) (claims : List LinedClaim) (verdicts : List Verdict)
    : Type 0 where
  pub long : length verdicts ≡ length claims
  pub each : (k : ℕ) (claim : LinedClaim) (verdict : Verdict) → slice_get claims k ≡ Some claim → slice_get verdicts k ≡ Some verdict
      → IsJudged sought naming events last (statement_of claim.claim) verdict
