-- The pairs that are told, of the races that are asked for.
use Rattle.std.specs.Prelude.{ℕ, List}
use Rattle.lrc_races_trace.specs.declared.event.Event.{Event}
use Rattle.lrc_races_trace.specs.declared.event.Pair.{Pair}
use Rattle.lrc_races_trace.specs.Races.{AreTold, AreToldAt}
use Rattle.lrc_races_sure.specs.Sure.{AreSureTold, AreSureToldAt}
use Rattle.lrc_races_text.specs.declared.asked.Sought.{Sought}
use Rattle.lrc_races_text.specs.declared.asked.Sought.TheVariants.{AllRaces, SureRaces}

-- the pairs are exactly those that are told of the trace
abbrev pub AreSought : Sought → List Event → List Pair → Type 0
AreSought AllRaces events pairs = AreTold events pairs
AreSought SureRaces events pairs = AreSureTold events pairs

-- the pairs are exactly those that are told of the event at this position
abbrev pub AreSoughtAt : Sought → List Event → ℕ → List Pair → Type 0
AreSoughtAt AllRaces events position pairs = AreToldAt events position pairs
AreSoughtAt SureRaces events position pairs = AreSureToldAt events position pairs
