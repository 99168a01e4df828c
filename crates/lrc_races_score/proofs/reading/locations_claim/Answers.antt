-- What is claimed, or why nothing is.
use Rattle.lrc_races_score.proofs.Spelling.{no_places_without, no_places, places_spelled, is_true, is_false}
use Rattle.lrc_races_score.proofs.reading.locations_claim.Goals as goal

pub returns-in_default : goal.returns-in_default
returns-in_default c = no_places_without c.args.rest.now c.in_default.ensures

pub returns-then-not-is_place : goal.returns-then-not-is_place
returns-then-not-is_place c =
    no_places c.args.rest.now c.in-Some.place.now c.in-Some.other.now c.in-Some.ensures.0 c.in-Some.ensures.1
    (λ h g. is_false c.is_place.result _ c.is_place.ensures c.if-not-is_place.true h)

pub returns-then-not-is_place-2 : goal.returns-then-not-is_place-2
returns-then-not-is_place-2 c =
    no_places c.args.rest.now c.in-Some.place.now c.in-Some.other.now c.in-Some.ensures.0 c.in-Some.ensures.1
    (λ h g. is_false c.is_place-2.result _ c.is_place-2.ensures c.if-not-is_place-2.true g)

pub returns : goal.returns
returns c = places_spelled c.args.rest.now c.in-Some.place.now c.in-Some.other.now c.in-Some.ensures.0
    (is_true c.is_place.result _ c.is_place.ensures c.if-not-is_place.false)
    (is_true c.is_place-2.result _ c.is_place-2.ensures c.if-not-is_place-2.false)
