-- The places of the events so far are named.
use Rattle.lrc_races_lines.specs.Table.{names_of}
use Rattle.lrc_races_text.specs.Tables.{naming_of}
use Rattle.lrc_races_claims.specs.Placed.{ArePlaceNames}
use Rattle.lrc_races_claims.proofs.places.place_names.Given as goal

abbrev pub invariant-loop-event : goal.invariant-loop-event
invariant-loop-event l = ArePlaceNames (naming_of l.names) l.events l.event-index (names_of l.table)
