-- Lines are their own numbers.
use Rattle.std.proofs.Common.{sym, subst}
use Rattle.std.specs.Prelude.{Some}
use Rattle.lrc_races_score.specs.Claims.{statement_of}
use Rattle.lrc_races_score.specs.declared.claim.Claim.{Claim}
use Rattle.lrc_races_claims.specs.Known.{known_names}
use Rattle.lrc_races_missed.specs.Keys.{IsKeyFound}
use Rattle.lrc_races_missed.specs.declared.key.Key.TheVariants.{Event, Pair}
use Rattle.lrc_races_missed.proofs.KeyFinding.{of_event, of_pair}
use Rattle.lrc_races_missed.proofs.keys.key_of.Goals as goal

pub returns-in-Event-clause-key : goal.returns-in-Event-clause-key
returns-in-Event-clause-key c =
    let variables = known_names c.args.variables.now in
    let places = known_names c.args.places.now in
    subst (λ (claim : Claim). IsKeyFound variables places (statement_of claim) (Some (Event c.in-Event.line))) (sym c.in-Event.is)
    (of_event variables places c.in-Event.line)

pub returns-in-Pair-clause-key : goal.returns-in-Pair-clause-key
returns-in-Pair-clause-key c =
    let variables = known_names c.args.variables.now in
    let places = known_names c.args.places.now in
    subst (λ (claim : Claim). IsKeyFound variables places (statement_of claim) (Some (Pair c.in-Pair.line c.in-Pair.other))) (sym c.in-Pair.is)
    (of_pair variables places c.in-Pair.line c.in-Pair.other)
