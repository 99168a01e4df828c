-- The reordering that shows a sure race.
use Rattle.std.specs.Prelude.{ℕ, List}
use Rattle.lrc_races_trace.specs.declared.event.Event.{Event}
use Rattle.lrc_races_trace.specs.Formed.{IsWellFormed}
use Rattle.lrc_races_sure.specs.Sure.{IsSureRace}
use Rattle.lrc_races_sure.specs.Reordering.{AreOnTheWay, IsReordering}

-- The positions are those of all events by way of which i or j was reached, then i, then j. Where i and j are a sure race, the
-- events there are a reordering of the trace that shows it, and they are well formed where the trace is.
pub record Shows (events : List Event) (i j : ℕ) (positions : List ℕ) : Type 0 where
  pub way : AreOnTheWay events i j positions
  pub shows : IsSureRace events i j → (list : List Event) × IsReordering events i j positions list × (IsWellFormed events → IsWellFormed list)
