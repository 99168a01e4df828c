-- What a report missed, of each sort of claims that is scored.
use Rattle.std.specs.Prelude.{◌≡◌, ℕ, List, [], MatchBool, map}
use Rattle.lrc_races_trace.specs.declared.event.Event.{Event}
use Rattle.lrc_races_trace.specs.declared.event.Pair.{Pair}
use Rattle.lrc_races_text.specs.declared.asked.Sought.{Sought}
use Rattle.lrc_races_text.specs.Naming.{Naming}
use Rattle.lrc_races_score.specs.declared.report.LinedClaim.{LinedClaim}
use Rattle.lrc_races_missed.specs.declared.pairs.TwoLines.{TwoLines}
use Rattle.lrc_races_missed.specs.declared.variables.Racing.{Racing}
use Rattle.lrc_races_missed.specs.Missed.{AreMissedEvents, AreMissedFirsts, AreMissedLocations, AreMissedPairs, AreMissedVariables, lines_of}
use Rattle.lrc_races_scored.specs.declared.missed.Missed.{Missed}
use Rattle.lrc_races_scored.specs.declared.sort.Sort.TheVariants.{Events, Pairs, Locations, Variables, Firsts}
use Rattle.lrc_races_scored.specs.Sorts.{is_scored}

-- the lines of pairs that are missed
abbrev pub AreMissedLines : Sought → List Event → List LinedClaim → List TwoLines → Type 0
AreMissedLines sought events claims lines = (pairs : List Pair) × AreMissedPairs sought events claims pairs × (lines ≡ map lines_of pairs)

-- What is missed of each sort, and nothing of one that is not scored.
abbrev pub ScoresEvents : Sought → List Event → List LinedClaim → List ℕ → Type 0
ScoresEvents sought events claims lines = MatchBool (is_scored Events claims) (AreMissedEvents sought events claims lines) (lines ≡ [])

abbrev pub ScoresPairs : Sought → List Event → List LinedClaim → List TwoLines → Type 0
ScoresPairs sought events claims lines = MatchBool (is_scored Pairs claims) (AreMissedLines sought events claims lines) (lines ≡ [])

abbrev pub ScoresLocations : Sought → Naming → List Event → List LinedClaim → List Pair → Type 0
ScoresLocations sought naming events claims pairs =
    MatchBool (is_scored Locations claims) (AreMissedLocations sought naming events claims pairs) (pairs ≡ [])

abbrev pub ScoresVariables : Sought → Naming → List Event → List LinedClaim → List Racing → Type 0
ScoresVariables sought naming events claims missed =
    MatchBool (is_scored Variables claims) (AreMissedVariables sought naming events claims missed) (missed ≡ [])

abbrev pub ScoresFirsts : Sought → Naming → List Event → List LinedClaim → List Racing → Type 0
ScoresFirsts sought naming events claims missed =
    MatchBool (is_scored Firsts claims) (AreMissedFirsts sought naming events claims missed) (missed ≡ [])

pub record AreMissed (sought : Sought) (naming : Naming) (trace : List Event) (claims : List LinedClaim) (missed : Missed) : Type 0 where
  pub events : ScoresEvents sought trace claims missed.events.items
  pub pairs : ScoresPairs sought trace claims missed.pairs.items
  pub locations : ScoresLocations sought naming trace claims missed.locations.items
  pub variables : ScoresVariables sought naming trace claims missed.variables.items
  pub firsts : ScoresFirsts sought naming trace claims missed.firsts.items
