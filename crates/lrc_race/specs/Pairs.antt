-- Races by the places of words.
use Rattle.std.specs.Prelude.{◌≡◌, ◌≢◌, ℕ, ◌<◌, ◌≤◌, ◌⊎◌, Bool, true, false, List, Some, All, Contains, IsTrue, length, slice_get}
use Rattle.lrc_time.specs.Time.{Knows}
use Rattle.lrc_trace.specs.declared.race.Race.{Race}
use Rattle.lrc_trace.specs.declared.trace.Segment.{Segment}
use Rattle.lrc_trace.specs.Trace.{TraceRecord}
use Rattle.lrc_race.specs.declared.places.TouchedPlace.{TouchedPlace}
use Rattle.lrc_race.specs.declared.detector.Lane.{Lane}
use Rattle.lrc_judge.specs.Adding.{IsOfSome}
use Rattle.lrc_race.specs.Places.{AreInOrder, ArePlaces, IsPlace}
use Rattle.lrc_race.specs.Races.{AreConflicting, AreUnordered, race_named}

-- The lane has the words that the trace writes, and in order words that it reads, among them each that it does not write.
pub record IsLane (trace : TraceRecord) (lane : Lane) : Type 0 where
  pub writes : ArePlaces trace true lane.writes.items
  pub reads_sorted : AreInOrder lane.reads.items
  pub reads_sound : (place : TouchedPlace) → Contains lane.reads.items place → IsPlace trace false place
  pub reads_cover : (place : TouchedPlace) → IsPlace trace false place → Contains lane.reads.items place ⊎ Contains lane.writes.items place

-- there is a lane for each trace
pub record AreLanes (traces : List TraceRecord) (lanes : List Lane) : Type 0 where
  pub long : length lanes ≡ length traces
  pub each : (i : ℕ) (trace : TraceRecord) (lane : Lane) → slice_get traces i ≡ Some trace → slice_get lanes i ≡ Some lane
      → IsLane trace lane

-- each place is of a segment of the trace
abbrev pub AreWithin : TraceRecord → List TouchedPlace → Type 0
AreWithin trace places = All (λ place. place.segment < length trace.segments) places

-- the times of each have an entry for the other's node
pub record HaveEntries (a b : TraceRecord) : Type 0 where
  pub first : (s : Segment) → Contains a.segments s → b.node < length s.time
  pub second : (t : Segment) → Contains b.segments t → a.node < length t.time

-- the time of the segment of the one place knows the interval of the other's
pub record KnowsAt (a : TraceRecord) (x : TouchedPlace) (b : TraceRecord) (y : TouchedPlace) : Type 0 where
  pub s : Segment
  pub t : Segment
  pub first : slice_get a.segments x.segment ≡ Some s
  pub second : slice_get b.segments y.segment ≡ Some t
  pub knows : Knows s.time b.node t.interval

-- In order by words, and by what is known where times rise, the second place is before the first.
abbrev pub IsBehind : Bool → TraceRecord → TouchedPlace → TraceRecord → TouchedPlace → Type 0
IsBehind rise a x b y = (y.word < x.word) ⊎ (IsTrue rise × (y.word ≡ x.word) × KnowsAt a x b y)

-- the places are of one word, and their segments race
pub record IsRaceOfPlaces (a : TraceRecord) (x : TouchedPlace) (b : TraceRecord) (y : TouchedPlace) (race : Race) : Type 0 where
  pub s : Segment
  pub t : Segment
  pub first : slice_get a.segments x.segment ≡ Some s
  pub second : slice_get b.segments y.segment ≡ Some t
  pub word : x.word ≡ y.word
  pub unordered : AreUnordered a s b t
  pub named : race ≡ race_named x.word a s b t

-- the race is one of the place with that at number k, or at a later number
abbrev pub IsRaceAt : TraceRecord → TouchedPlace → TraceRecord → List TouchedPlace → ℕ → Race → Type 0
IsRaceAt a x b ys k race = (y : TouchedPlace) × (slice_get ys k ≡ Some y) × IsRaceOfPlaces a x b y race

abbrev pub IsRaceFrom : TraceRecord → TouchedPlace → TraceRecord → List TouchedPlace → ℕ → Race → Type 0
IsRaceFrom a x b ys from race = (k : ℕ) × (from ≤ k) × IsRaceAt a x b ys k race

-- the race is of two places of these lists
abbrev pub IsRaceOfLists : TraceRecord → List TouchedPlace → TraceRecord → List TouchedPlace → Race → Type 0
IsRaceOfLists a xs b ys = IsOfSome xs (λ x. IsOfSome ys (IsRaceOfPlaces a x b))

-- both write the word, or the one writes what the other reads
abbrev pub IsRaceOfLanes : TraceRecord → Lane → TraceRecord → Lane → Race → Type 0
IsRaceOfLanes a first b second race = IsRaceOfLists a first.writes.items b second.writes.items race
    ⊎ (IsRaceOfLists a first.reads.items b second.writes.items race ⊎ IsRaceOfLists a first.writes.items b second.reads.items race)

-- the race is of the i-th trace and the j-th, a later one, of another node
pub record IsRaceOfTraces (traces : List TraceRecord) (i j : ℕ) (race : Race) : Type 0 where
  pub later : i < j
  pub a : TraceRecord
  pub b : TraceRecord
  pub s : Segment
  pub t : Segment
  pub a_there : slice_get traces i ≡ Some a
  pub b_there : slice_get traces j ≡ Some b
  pub s_there : Contains a.segments s
  pub t_there : Contains b.segments t
  pub apart : a.node ≢ b.node
  pub word : ℕ
  pub conflicting : AreConflicting a s b t word
  pub unordered : AreUnordered a s b t
  pub named : race ≡ race_named word a s b t
