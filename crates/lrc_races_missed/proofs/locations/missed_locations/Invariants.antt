-- The pairs so far are noted.
use Rattle.std.proofs.Common.{◌≡◌, List, ℕ, length}
use Rattle.lrc_races_trace.specs.declared.event.Event.{Event}
use Rattle.lrc_races_lines.specs.Table.{names_of}
use Rattle.lrc_races_text.specs.declared.asked.Sought.{Sought}
use Rattle.lrc_races_text.specs.Naming.{Naming}
use Rattle.lrc_races_locations.specs.Located.{AreShown}
use Rattle.lrc_races_score.specs.declared.report.LinedClaim.{LinedClaim}
use Rattle.lrc_races_claims.specs.Known.{known_names}
use Rattle.lrc_races_claims.specs.Placed.{ArePlaceNames}
use Rattle.lrc_races_missed.specs.Keys.{AreKeys}
use Rattle.lrc_races_missed.proofs.LocationLemmas.{AreNoted}
use Rattle.lrc_races_missed.proofs.locations.missed_locations.Given as goal

abbrev pub invariant-loop-pair : goal.invariant-loop-pair
invariant-loop-pair l = record {
  kept : known_names l.places ≡ known_names l.initial.places;
  noted : (sought : Sought) (naming : Naming) (events : List Event) (claims : List LinedClaim) (variables : List (List ℕ))
      → naming.locations ≡ names_of l.names.locations → ArePlaceNames naming events (length events) (known_names l.initial.places)
      → AreShown sought events l.shown → AreKeys variables (known_names l.initial.places) claims l.keys.keys
      → AreNoted naming (known_names l.initial.places) claims l.shown l.pair-index l.met.keys l.missed.items;
}
