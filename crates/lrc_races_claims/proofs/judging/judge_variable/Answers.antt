-- What is said follows from the first access that races.
use Rattle.std.proofs.Common.{subst}
use Rattle.lrc_races_claims.specs.Judging.{IsFirstFound}
use Rattle.lrc_races_claims.specs.Truth.{variable_none, variable_apart, variable_race}
use Rattle.lrc_races_claims.proofs.Judged.{some_races}
use Rattle.lrc_races_claims.proofs.judging.judge_variable.Goals as goal

pub returns-in-NoAccess : goal.returns-in-NoAccess
returns-in-NoAccess c = λ sought naming events last name found.
    variable_none (subst (λ f. IsFirstFound sought naming events name f) c.in-NoAccess.is found)

pub returns-in-NoRace : goal.returns-in-NoRace
returns-in-NoRace c = λ sought naming events last name found.
    let (some, none) = subst (λ f. IsFirstFound sought naming events name f) c.in-NoRace.is found in
    variable_apart some none

pub returns-in-On : goal.returns-in-On
returns-in-On c = λ sought naming events last name found.
    variable_race (some_races sought naming events name _ (subst (λ f. IsFirstFound sought naming events name f) c.in-On.is found))
