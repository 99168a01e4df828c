-- The numbers of the places are looked for.
use Rattle.std.proofs.Common.{List, ℕ, refl, subst, ◌∙◌}
use Rattle.std.specs.Prelude.{MatchOption}
use Rattle.lrc_races_claims.specs.Known.{IsOnlyNumber, IsUnknown}
use Rattle.lrc_races_claims.proofs.places.judge_locations.Goals as goal

pub returns-clause-judged : goal.returns-clause-judged
returns-clause-judged c = λ sought naming events last are.
    c.judge_places.ensures sought naming events last c.args.places.now c.args.place.now c.args.other.now are refl c.in_ok-first.ensures.found
    (subst (λ (names : List (List ℕ)). MatchOption c.in_ok-second.second (IsUnknown names c.args.other.now) (IsOnlyNumber names c.args.other.now))
    c.in_ok-first.ensures.kept c.in_ok-second.ensures.found)

pub returns-clause-kept : goal.returns-clause-kept
returns-clause-kept c = record { names = c.in_ok-second.ensures.kept ∙ c.in_ok-first.ensures.kept; pairs = refl; shown = refl }
