-- What is said of the claims about a trace: that they are true, or the first reason why they are not.
use Rattle.std.specs.Prelude.{◌≡◌, ◌≢◌, ℕ, ◌<◌, ◌≤◌, ◌⊎◌, List, max, min}
use Rattle.lrc_races_trace.specs.declared.event.Event.{Event}
use Rattle.lrc_races_trace.specs.declared.event.Operation.TheVariants.{Read}
use Rattle.lrc_races_trace.specs.Trace.{At, Accesses}
use Rattle.lrc_races_trace.specs.Races.{Conflict}
use Rattle.lrc_races_text.specs.declared.asked.Sought.{Sought}
use Rattle.lrc_races_text.specs.Naming.{Naming, Numbers}
use Rattle.lrc_races_text.specs.Spelled.{side_place}
use Rattle.lrc_races_locations.specs.Rivals.{Rivals, Separates}
use Rattle.lrc_races_witness.specs.Relations.{IsAccessOn, HasAccess, HasNoAccess}
use Rattle.lrc_races_score.specs.Claims.{Statement, event, pair, locations, variable, first}
use Rattle.lrc_races_claims.specs.declared.verdict.Reason.{Reason}
use Rattle.lrc_races_claims.specs.declared.verdict.Reason.TheVariants.{TraceEnds, NoAccess, NoEarlier, OneThread, TwoVariables, BothRead, Separated}
use Rattle.lrc_races_claims.specs.declared.verdict.Reason.TheVariants.{NoneAtFirst, NoneAtSecond, PlacesApart, NoneOfVariable, VariableApart, FirstIs}
use Rattle.lrc_races_claims.specs.declared.verdict.Verdict.{Verdict}
use Rattle.lrc_races_claims.specs.declared.verdict.Verdict.TheVariants.{True, False}
use Rattle.lrc_races_claims.specs.Racing.{RacesBefore, AccessAt, RacingAt, IsFirstRacing}

-- A line that is named has no access, in a trace of so many lines: it is behind the last, or has none.
pub data Lacks (events : List Event) (last line : ℕ) : Reason → Type 0 where
  behind : last < line → Lacks events last line (TraceEnds last)
  idle : line ≤ last → HasNoAccess events line → Lacks events last line (NoAccess line)

-- What is said of two accesses at positions i and j, the one on the lesser line named first. They are
pub data AreJudged (sought : Sought) (events : List Event) (i j v w : ℕ) (a b : Event) : Verdict → Type 0 where
  -- of one thread,
  one_thread : a.thread ≡ b.thread → AreJudged sought events i j v w a b (False (OneThread a.thread))
  -- or of two and of different variables,
  two_variables : a.thread ≢ b.thread → v ≢ w → AreJudged sought events i j v w a b (False TwoVariables)
  -- or of one variable, which both read,
  both_read : a.thread ≢ b.thread → v ≡ w → a.operation ≡ Read v → b.operation ≡ Read w → AreJudged sought events i j v w a b (False BothRead)
  -- or they conflict, and the first happens before the second, or (of sure races) the second was reached by way of it,
  separated : Conflict a b → Separates sought events i j → AreJudged sought events i j v w a b (False (Separated a.line b.line))
  -- or they race.
  rivals : Rivals sought events i j → AreJudged sought events i j v w a b True

-- What is said of two lines, the lesser named first:
pub data LinesAreJudged (sought : Sought) (events : List Event) (last lesser greater : ℕ) : Verdict → Type 0 where
  -- the trace ends before the greater,
  behind : last < greater → LinesAreJudged sought events last lesser greater (False (TraceEnds last))
  -- or the lesser is no access,
  first_idle : greater ≤ last → HasNoAccess events lesser → LinesAreJudged sought events last lesser greater (False (NoAccess lesser))
  -- or it is one, but the greater is none,
  second_idle : greater ≤ last → HasAccess events lesser → HasNoAccess events greater
      → LinesAreJudged sought events last lesser greater (False (NoAccess greater))
  -- or both are, and this is said of them.
  both : {i j v w : ℕ} {a b : Event} {verdict : Verdict} → IsAccessOn events lesser i v a → IsAccessOn events greater j w b
      → AreJudged sought events i j v w a b verdict → LinesAreJudged sought events last lesser greater verdict

-- some access is of the variable of this name
pub record SomeIsOf (naming : Naming) (events : List Event) (name : List ℕ) : Type 0 where
  pub number : ℕ
  pub named : Numbers naming.variables name number
  pub position : ℕ
  pub is : Event
  pub access : AccessAt events number position is

-- some access of it races with an earlier one, which is of it then, too
pub record SomeRacesOf (sought : Sought) (naming : Naming) (events : List Event) (name : List ℕ) : Type 0 where
  pub number : ℕ
  pub named : Numbers naming.variables name number
  pub position : ℕ
  pub is : Event
  pub racing : RacingAt sought events number position is

-- the first such access is on this line
pub record IsFirstOf (sought : Sought) (naming : Naming) (events : List Event) (name : List ℕ) (line : ℕ) : Type 0 where
  pub number : ℕ
  pub named : Numbers naming.variables name number
  pub position : ℕ
  pub is : Event
  pub racing : IsFirstRacing sought events number position is
  pub on : is.line ≡ line

-- the event accesses something at the place: its location, or `-` where it has none
pub record AccessesAt (naming : Naming) (place : List ℕ) (is : Event) : Type 0 where
  pub number : ℕ
  pub accesses : Accesses is number
  pub at : side_place naming is.location ≡ place

pub record SomeIsAt (naming : Naming) (events : List Event) (place : List ℕ) : Type 0 where
  pub position : ℕ
  pub is : Event
  pub at : At events position is
  pub accesses : AccessesAt naming place is

-- some two accesses race, one at the first place and the other at the second
pub record PlacesRace (sought : Sought) (naming : Naming) (events : List Event) (place other : List ℕ) : Type 0 where
  pub i : ℕ
  pub j : ℕ
  pub a : Event
  pub b : Event
  pub at_i : At events i a
  pub at_j : At events j b
  pub places : (AccessesAt naming place a × AccessesAt naming other b) ⊎ (AccessesAt naming other a × AccessesAt naming place b)
  pub race : Rivals sought events i j

-- What is said of a claim about a trace of so many lines, whose names these are.
pub data IsJudged (sought : Sought) (naming : Naming) (events : List Event) (last : ℕ) : Statement → Verdict → Type 0 where
  -- The access on a line races with an earlier one, or not.
  event_lacks : {line : ℕ} {reason : Reason} → Lacks events last line reason → IsJudged sought naming events last (event line) (False reason)
  event_true : {line j v : ℕ} {b : Event} → IsAccessOn events line j v b → RacesBefore sought events j → IsJudged sought naming events last (event line) True
  event_false : {line j v : ℕ} {b : Event} → IsAccessOn events line j v b → ¬ RacesBefore sought events j
      → IsJudged sought naming events last (event line) (False NoEarlier)
  -- The accesses on two lines, in either order.
  pair_judged : {line other : ℕ} {verdict : Verdict} → LinesAreJudged sought events last (min line other) (max line other) verdict
      → IsJudged sought naming events last (pair line other) verdict
  -- Some accesses at two places race, or none is at the first, or at the second, or they do not.
  none_at_first : {place other : List ℕ} → ¬ SomeIsAt naming events place → IsJudged sought naming events last (locations place other) (False NoneAtFirst)
  none_at_second : {place other : List ℕ} → SomeIsAt naming events place → ¬ SomeIsAt naming events other
      → IsJudged sought naming events last (locations place other) (False NoneAtSecond)
  places_apart : {place other : List ℕ} → SomeIsAt naming events place → SomeIsAt naming events other → ¬ PlacesRace sought naming events place other
      → IsJudged sought naming events last (locations place other) (False PlacesApart)
  places_race : {place other : List ℕ} → PlacesRace sought naming events place other → IsJudged sought naming events last (locations place other) True
  -- Some accesses of a variable race, or none is of it, or they do not.
  variable_none : {name : List ℕ} → ¬ SomeIsOf naming events name → IsJudged sought naming events last (variable name) (False NoneOfVariable)
  variable_apart : {name : List ℕ} → SomeIsOf naming events name → ¬ SomeRacesOf sought naming events name
      → IsJudged sought naming events last (variable name) (False VariableApart)
  variable_race : {name : List ℕ} → SomeRacesOf sought naming events name → IsJudged sought naming events last (variable name) True
  -- On a line is the first access of a variable that races with an earlier one: the line has no access, or none is of the variable,
  -- or none of these races, or the first is on another line, or on this.
  first_lacks : {name : List ℕ} {line : ℕ} {reason : Reason} → Lacks events last line reason
      → IsJudged sought naming events last (first name line) (False reason)
  first_none : {name : List ℕ} {line : ℕ} → HasAccess events line → ¬ SomeIsOf naming events name
      → IsJudged sought naming events last (first name line) (False NoneOfVariable)
  first_apart : {name : List ℕ} {line : ℕ} → HasAccess events line → SomeIsOf naming events name → ¬ SomeRacesOf sought naming events name
      → IsJudged sought naming events last (first name line) (False VariableApart)
  first_other : {name : List ℕ} {line other : ℕ} → HasAccess events line → IsFirstOf sought naming events name other → other ≢ line
      → IsJudged sought naming events last (first name line) (False (FirstIs other))
  first_true : {name : List ℕ} {line : ℕ} → IsFirstOf sought naming events name line → IsJudged sought naming events last (first name line) True
