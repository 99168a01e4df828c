-- What is printed of a report: what is said of each claim, what it missed, as its claim would be written, and how many claims of each sort
-- there are.
use Rattle.std.specs.Prelude.{ℕ, if◌then◌else◌, List, [], ◌∷◌, codes, decimal, flat_map, length, zip}
use Rattle.lrc_races_trace.specs.declared.event.Pair.{Pair}
use Rattle.lrc_races_text.specs.declared.asked.Sought.{Sought}
use Rattle.lrc_races_text.specs.Naming.{Naming}
use Rattle.lrc_races_text.specs.Spelled.{name_at, side_place, together}
use Rattle.lrc_races_score.specs.Claims.{statement_of}
use Rattle.lrc_races_score.specs.declared.report.LinedClaim.{LinedClaim}
use Rattle.lrc_races_claims.specs.declared.verdict.Verdict.{Verdict}
use Rattle.lrc_races_claims.specs.Spelled.{verdict_line}
use Rattle.lrc_races_missed.specs.declared.pairs.TwoLines.{TwoLines}
use Rattle.lrc_races_missed.specs.declared.variables.Racing.{Racing}
use Rattle.lrc_races_scored.specs.declared.missed.Missed.{Missed}
use Rattle.lrc_races_scored.specs.declared.sort.Sort.{Sort}
use Rattle.lrc_races_scored.specs.declared.sort.Sort.TheVariants.{Events, Pairs, Locations, Variables, Firsts}
use Rattle.lrc_races_scored.specs.declared.tally.Tally.{Tally}
use Rattle.lrc_races_scored.specs.Sorts.{Judged, claims_of, false_of, is_scored, sort_word, true_of}

-- the line of each claim
abbrev pub judged_line : Sought → List (List ℕ) → Judged → List ℕ
judged_line sought threads judged = verdict_line sought threads judged.0.line (statement_of judged.0.claim) judged.1

abbrev pub judged_lines : Sought → List (List ℕ) → List LinedClaim → List Verdict → List ℕ
judged_lines sought threads claims verdicts = flat_map (judged_line sought threads) (zip claims verdicts)

-- `missed event J`, `missed pair I J`, `missed locations A|B`, `missed variable V`, `missed first V J`
abbrev pub event_line : ℕ → List ℕ
event_line line = together (codes "missed event " ∷ decimal line ∷ codes "\n" ∷ [])

abbrev pub pair_line : TwoLines → List ℕ
pair_line pair = together (codes "missed pair " ∷ decimal pair.earlier ∷ codes " " ∷ decimal pair.later ∷ codes "\n" ∷ [])

abbrev pub locations_line : Naming → Pair → List ℕ
locations_line naming pair = together (codes "missed locations " ∷ side_place naming pair.earlier.event.location ∷ codes "|"
    ∷ side_place naming pair.later.event.location ∷ codes "\n" ∷ [])

abbrev pub variable_line : List (List ℕ) → Racing → List ℕ
variable_line variables racing = together (codes "missed variable " ∷ name_at variables racing.variable ∷ codes "\n" ∷ [])

abbrev pub first_line : List (List ℕ) → Racing → List ℕ
first_line variables racing = together (codes "missed first " ∷ name_at variables racing.variable ∷ codes " " ∷ decimal racing.line ∷ codes "\n" ∷ [])

abbrev pub missed_lines : Naming → Missed → List ℕ
missed_lines naming missed = together (flat_map event_line missed.events.items ∷ flat_map pair_line missed.pairs.items
    ∷ flat_map (locations_line naming) missed.locations.items ∷ flat_map (variable_line naming.variables) missed.variables.items
    ∷ flat_map (first_line naming.variables) missed.firsts.items ∷ [])

-- `score SORT: C claims, T true, F false, M missed`
abbrev pub tally_line : Sort → Tally → ℕ → List ℕ
tally_line sort tally missed = together (codes "score " ∷ sort_word sort ∷ codes ": " ∷ decimal tally.claims ∷ codes " claims, " ∷ decimal tally.right
    ∷ codes " true, " ∷ decimal tally.wrong ∷ codes " false, " ∷ decimal missed ∷ codes " missed\n" ∷ [])

-- of a sort that is scored
abbrev pub score_line : List LinedClaim → List Verdict → Sort → ℕ → List ℕ
score_line claims verdicts sort missed =
    if is_scored sort claims
    then tally_line sort (record { claims = claims_of sort claims; right = true_of sort claims verdicts; wrong = false_of sort claims verdicts }) missed
    else []

abbrev pub score_lines : List LinedClaim → List Verdict → Missed → List ℕ
score_lines claims verdicts missed = together (score_line claims verdicts Events (length missed.events.items)
    ∷ score_line claims verdicts Pairs (length missed.pairs.items) ∷ score_line claims verdicts Locations (length missed.locations.items)
    ∷ score_line claims verdicts Variables (length missed.variables.items) ∷ score_line claims verdicts Firsts (length missed.firsts.items) ∷ [])
