-- What is printed of a claim: `report line L: true`, or `report line L: false: REASON`.
use Rattle.std.specs.Prelude.{ℕ, List, [], ◌∷◌, codes, decimal}
use Rattle.lrc_races_text.specs.declared.asked.Sought.{Sought}
use Rattle.lrc_races_text.specs.declared.asked.Sought.TheVariants.{AllRaces, SureRaces}
use Rattle.lrc_races_text.specs.Spelled.{name_at, together}
use Rattle.lrc_races_score.specs.Claims.{Statement, locations, variable, first}
use Rattle.lrc_races_claims.specs.declared.verdict.Reason.{Reason}
use Rattle.lrc_races_claims.specs.declared.verdict.Reason.TheVariants.{TraceEnds, NoAccess, NoEarlier, OneThread, TwoVariables, BothRead, Separated}
use Rattle.lrc_races_claims.specs.declared.verdict.Reason.TheVariants.{NoneAtFirst, NoneAtSecond, PlacesApart, NoneOfVariable, VariableApart, FirstIs}
use Rattle.lrc_races_claims.specs.declared.verdict.Verdict.{Verdict}
use Rattle.lrc_races_claims.specs.declared.verdict.Verdict.TheVariants.{True, False}

-- the locations that a claim names, and the variable
abbrev pub first_place : Statement → List ℕ
first_place (locations place other) = place
first_place _ = []

abbrev pub second_place : Statement → List ℕ
second_place (locations place other) = other
second_place _ = []

abbrev pub variable_named : Statement → List ℕ
variable_named (variable name) = name
variable_named (first name line) = name
variable_named _ = []

-- that the access on the lesser line is separated from that on the greater
abbrev pub separated_parts : Sought → ℕ → ℕ → List (List ℕ)
separated_parts AllRaces lesser greater = codes "line " ∷ decimal lesser ∷ codes " happens before line " ∷ decimal greater ∷ []
separated_parts SureRaces lesser greater = codes "line " ∷ decimal greater ∷ codes " was reached by way of line " ∷ decimal lesser ∷ []

-- why a claim is false, in parts
abbrev pub reason_parts : Sought → List (List ℕ) → Statement → Reason → List (List ℕ)
reason_parts sought threads claim (TraceEnds line) = codes "the trace ends at line " ∷ decimal line ∷ []
reason_parts sought threads claim (NoAccess line) = codes "line " ∷ decimal line ∷ codes " is no access" ∷ []
reason_parts sought threads claim NoEarlier = codes "it races with no earlier access" ∷ []
reason_parts sought threads claim (OneThread thread) = codes "both are of thread " ∷ name_at threads thread ∷ []
reason_parts sought threads claim TwoVariables = codes "they are of different variables" ∷ []
reason_parts sought threads claim BothRead = codes "both read" ∷ []
reason_parts sought threads claim (Separated lesser greater) = separated_parts sought lesser greater
reason_parts sought threads claim NoneAtFirst = codes "no access is at " ∷ first_place claim ∷ []
reason_parts sought threads claim NoneAtSecond = codes "no access is at " ∷ second_place claim ∷ []
reason_parts sought threads claim PlacesApart = codes "no two accesses of them race" ∷ []
reason_parts sought threads claim NoneOfVariable = codes "no access is of " ∷ variable_named claim ∷ []
reason_parts sought threads claim VariableApart = codes "no access of " ∷ variable_named claim ∷ codes " races" ∷ []
reason_parts sought threads claim (FirstIs line) = codes "the first is line " ∷ decimal line ∷ []

abbrev pub verdict_parts : Sought → List (List ℕ) → Statement → Verdict → List (List ℕ)
verdict_parts sought threads claim True = codes "true" ∷ []
verdict_parts sought threads claim (False reason) = codes "false: " ∷ together (reason_parts sought threads claim reason) ∷ []

-- the line of a claim that stands on this line of the report
abbrev pub verdict_line : Sought → List (List ℕ) → ℕ → Statement → Verdict → List ℕ
verdict_line sought threads line claim verdict = together (codes "report line " ∷ decimal line ∷ codes ": "
    ∷ together (verdict_parts sought threads claim verdict) ∷ codes "\n" ∷ [])
