-- The numbers of both are looked for.
use Rattle.std.proofs.Common.{List, ℕ, subst}
use Rattle.std.specs.Prelude.{MatchOption}
use Rattle.lrc_races_claims.specs.Known.{IsOnlyNumber, IsUnknown, known_names}
use Rattle.lrc_races_missed.proofs.keys.two_places.Goals as goal

pub returns-clause-found : goal.returns-clause-found
returns-clause-found c =
    c.both_of.ensures (known_names c.args.places.now) c.args.place.now c.args.other.now c.in_ok-earlier.ensures.found
    (subst (λ (names : List (List ℕ)). MatchOption c.in_ok-later.later (IsUnknown names c.args.other.now) (IsOnlyNumber names c.args.other.now))
    c.in_ok-earlier.ensures.kept c.in_ok-later.ensures.found)
