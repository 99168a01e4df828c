-- The event at the line's place is the one, or none is.
use Rattle.std.proofs.Common.{◌<◌, length, arith}
use Rattle.std.proofs.lemmas.Option.{slice_get-get_or}
use Rattle.lrc_races_witness.proofs.Lines.{found}
use Rattle.lrc_races_claims.proofs.Placing.{none_past, none_there}
use Rattle.lrc_races_claims.proofs.access.found_on.Goals as goal

pub returns-then-place-events : goal.returns-then-place-events
returns-then-place-events c =
    none_past c.args.events.now c.args.line c.place_of-place.result (c.place_of-place.ensures.place c.requires) c.requires c.if-place-events.true

pub returns-then-event-line : goal.returns-then-event-line
returns-then-event-line c =
    let events = c.args.events.now in
    let place = c.place_of-place.result in
    let bound = c.place_of-place.ensures.within in
    let other = c.if-place-events.false in
    let within : place < length events = omega (arith, bound, other) in
    none_there events c.args.line place _ (c.place_of-place.ensures.place c.requires) c.requires within c.if-event-line.true

pub returns : goal.returns
returns c =
    let events = c.args.events.now in
    let place = c.place_of-place.result in
    let bound = c.place_of-place.ensures.within in
    let other = c.if-place-events.false in
    let within : place < length events = omega (arith, bound, other) in
    found events c.requires place c.args.line _ (record { is = slice_get-get_or events place _ within }) c.if-event-line.false c.access_of.result c.access_of.ensures
