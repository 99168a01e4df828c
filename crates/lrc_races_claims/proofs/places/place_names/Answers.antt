-- One event more.
use Rattle.std.proofs.Common.{◌≡◌, length, subst, arith}
use Rattle.std.proofs.lemmas.Option.{slice_get-get_or}
use Rattle.lrc_races_lines.specs.Table.{names_of}
use Rattle.lrc_races_text.specs.Tables.{naming_of}
use Rattle.lrc_races_claims.specs.Placed.{ArePlaceNames}
use Rattle.lrc_races_claims.proofs.Placements.{places_none}
use Rattle.lrc_races_claims.proofs.places.place_names.Goals as goal

pub loop-event-init : goal.loop-event-init
loop-event-init c = places_none (naming_of c.args.names.now) c.args.events.now (names_of c.new-table.result) c.new-table.ensures

pub loop-event-preserved : goal.loop-event-preserved
loop-event-preserved c =
    let events = c.args.events.now in
    let n = c.loop-event.event-index in
    c.in_ok-note_place.ensures events n (record { is = slice_get-get_or events n _ c.loop-event-test.true }) c.loop-event.invariant

pub returns : goal.returns
returns c =
    let done : c.loop-event.event-index ≡ length c.args.events.now = omega arith in
    subst (λ n. ArePlaceNames (naming_of c.args.names.now) c.args.events.now n (names_of c.loop-event.table)) done c.loop-event.invariant
