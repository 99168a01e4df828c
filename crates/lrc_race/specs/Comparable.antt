-- What the search for races rests on.
use Rattle.std.specs.Prelude.{ℕ, ◌<◌, List, Contains, IsTrue, length}
use Rattle.lrc_trace.specs.Trace.{TraceRecord}
use Rattle.lrc_race.specs.declared.places.TouchedPlace.{TouchedPlace}
use Rattle.lrc_race.specs.declared.detector.Survey.{Survey}
use Rattle.lrc_race.specs.declared.detector.TracePair.{TracePair}
use Rattle.lrc_race.specs.Places.{AreInOrder}
use Rattle.lrc_race.specs.Races.{AreTracesOf, RisesAlong}
use Rattle.lrc_race.specs.Pairs.{AreLanes, AreWithin, HaveEntries}

-- the place is of a segment of the trace
abbrev pub IsWithin : TraceRecord → TouchedPlace → Type 0
IsWithin trace place = place.segment < length trace.segments

-- the places are of segments of the trace, and in order
pub record AreListed (trace : TraceRecord) (places : List TouchedPlace) : Type 0 where
  pub within : AreWithin trace places
  pub in_order : AreInOrder places

-- the times of each have an entry for the other's node, and they rise where the pair says so
pub record AreComparable (pair : TracePair) : Type 0 where
  pub entries : HaveEntries pair.a.now pair.b.now
  pub rising : IsTrue pair.rise → RisesAlong pair.a.now × RisesAlong pair.b.now

-- the lanes are those of the traces, whose times have one number of entries, and rise where the survey says so
pub record IsSurvey (survey : Survey) : Type 0 where
  pub lanes : AreLanes survey.traces.now survey.lanes.now
  pub entries : (nodes : ℕ) × AreTracesOf nodes survey.traces.now
  pub rising : IsTrue survey.rise → (a : TraceRecord) → Contains survey.traces.now a → RisesAlong a
