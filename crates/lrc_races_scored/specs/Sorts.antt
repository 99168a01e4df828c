-- The sorts of claims, and how many claims there are of each.
use Rattle.std.specs.Prelude.{ℕ, ◌&&◌, not, nat_lt, Bool, true, false, List, [], codes, count_by, zip}
use Rattle.lrc_races_score.specs.Claims.{Statement, event, pair, locations, variable, first, statement_of}
use Rattle.lrc_races_score.specs.declared.report.LinedClaim.{LinedClaim}
use Rattle.lrc_races_claims.specs.declared.verdict.Verdict.{Verdict}
use Rattle.lrc_races_claims.specs.declared.verdict.Verdict.TheVariants.{True, False}
use Rattle.lrc_races_scored.specs.declared.sort.Sort.{Sort}
use Rattle.lrc_races_scored.specs.declared.sort.Sort.TheVariants.{Events, Pairs, Locations, Variables, Firsts}

-- the word of its claims
abbrev pub sort_word : Sort → List ℕ
sort_word Events = codes "event"
sort_word Pairs = codes "pair"
sort_word Locations = codes "locations"
sort_word Variables = codes "variable"
sort_word Firsts = codes "first"

-- the claim is of the sort
abbrev pub is_of : Sort → Statement → Bool
is_of Events (event line) = true
is_of Pairs (pair line other) = true
is_of Locations (locations place other) = true
is_of Variables (variable name) = true
is_of Firsts (first name line) = true
is_of _ _ = false

abbrev pub is_claim_of : Sort → LinedClaim → Bool
is_claim_of sort claim = is_of sort (statement_of claim.claim)

-- the claim is true
abbrev pub is_true : Verdict → Bool
is_true True = true
is_true (False reason) = false

-- a claim, and what is said of it
abbrev pub Judged : Type 0
Judged = LinedClaim × Verdict

abbrev pub is_true_of : Sort → Judged → Bool
is_true_of sort judged = is_claim_of sort judged.0 && is_true judged.1

abbrev pub is_false_of : Sort → Judged → Bool
is_false_of sort judged = is_claim_of sort judged.0 && not (is_true judged.1)

-- how many claims are of the sort, and how many of them are true, and false
abbrev pub claims_of : Sort → List LinedClaim → ℕ
claims_of sort claims = count_by (is_claim_of sort) claims

abbrev pub true_of : Sort → List LinedClaim → List Verdict → ℕ
true_of sort claims verdicts = count_by (is_true_of sort) (zip claims verdicts)

abbrev pub false_of : Sort → List LinedClaim → List Verdict → ℕ
false_of sort claims verdicts = count_by (is_false_of sort) (zip claims verdicts)

-- The sort is scored: some claim is of it. A report without claims counts as one of events.
abbrev pub is_scored : Sort → List LinedClaim → Bool
is_scored Events [] = true
is_scored sort claims = nat_lt 0 (claims_of sort claims)
