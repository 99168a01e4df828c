-- What is said follows from the first access that races.
use Rattle.std.proofs.Common.{subst}
use Rattle.lrc_races_claims.specs.Judging.{IsFirstFound}
use Rattle.lrc_races_claims.specs.Truth.{IsFirstOf, first_none, first_apart, first_other, first_true}
use Rattle.lrc_races_claims.proofs.judging.judge_found.Goals as goal

pub returns-in-NoAccess : goal.returns-in-NoAccess
returns-in-NoAccess c = λ sought naming events last name has found.
    first_none has (subst (λ f. IsFirstFound sought naming events name f) c.in-NoAccess.is found)

pub returns-in-NoRace : goal.returns-in-NoRace
returns-in-NoRace c = λ sought naming events last name has found.
    let (some, none) = subst (λ f. IsFirstFound sought naming events name f) c.in-NoRace.is found in
    first_apart has some none

pub returns-then-other-line : goal.returns-then-other-line
returns-then-other-line c = λ sought naming events last name has found.
    first_other has (subst (λ f. IsFirstFound sought naming events name f) c.in-On.is found) c.if-other-line.true

pub returns-else-other-line : goal.returns-else-other-line
returns-else-other-line c = λ sought naming events last name has found.
    first_true (subst (λ line. IsFirstOf sought naming events name line) c.if-other-line.false
    (subst (λ f. IsFirstFound sought naming events name f) c.in-On.is found))
