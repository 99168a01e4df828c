-- The number of the name says which is the first.
use Rattle.std.proofs.Common.{List, ℕ, sym, subst}
use Rattle.std.specs.Prelude.{MatchOption}
use Rattle.lrc_races_claims.specs.Known.{IsOnlyNumber, IsUnknown}
use Rattle.lrc_races_claims.proofs.judging.first_racing.Goals as goal

pub returns-clause-found : goal.returns-clause-found
returns-clause-found c = λ sought naming events same are.
    c.first_of.ensures sought naming events c.args.name.now are
    (subst (λ (names : List (List ℕ)). MatchOption c.in_ok-number.number (IsUnknown names c.args.name.now) (IsOnlyNumber names c.args.name.now)) (sym same)
    c.in_ok-number.ensures.found)
