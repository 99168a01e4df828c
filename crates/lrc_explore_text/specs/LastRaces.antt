-- The races of one act with earlier ones.
use Rattle.std.specs.Prelude.{ℕ, ◌==◌, ◌↔◌, ◌⊎◌, List, [], ◌∷◌, Contains, if◌then◌else◌}
use Rattle.std.specs.List.Sorted.{IsStrictlySortedBy}
use Rattle.lrc_trace.specs.declared.act.Act.{Act}
use Rattle.lrc_trace.specs.declared.race.Race.{Race}
use Rattle.lrc_trace.specs.Conflict.{Races}
use Rattle.lrc_trace.specs.Interval.{Names, interval_at}
use Rattle.lrc_judge.specs.declared.lanes.Pair.{Pair}
use Rattle.lrc_judge.specs.Races.{race_cmp, race_of_places, word_of}
use Rattle.lrc_acts_text.specs.Acts.{act_at}

-- the race is that of an earlier act and the one at the position
pub record IsRaceEndingAt (run : List Act) (position : ℕ) (race : Race) : Type 0 where
  pub earlier : ℕ
  pub races : Races run earlier position
  pub names : Names run race earlier position ⊎ Names run race position earlier

-- the list has exactly these, ascending, each once
pub record AreRacesAt (run : List Act) (position : ℕ) (races : List Race) : Type 0 where
  pub ascending : IsStrictlySortedBy race_cmp races
  pub exact : (race : Race) → Contains races race ↔ IsRaceEndingAt run position race

-- the race of the accesses at two positions
abbrev pub race_of_pair : List Act → Pair → Race
race_of_pair run pair =
    let first = act_at run pair.earlier in
    let second = act_at run pair.later in
    race_of_places (word_of second.deed) first.node (interval_at run first.node pair.earlier) second.node (interval_at run second.node pair.later)

-- the same, if the later position is this one
abbrev pub race_ending_at : List Act → (position : ℕ) → Pair → List Race
race_ending_at run position pair = if pair.later == position then race_of_pair run pair ∷ [] else []
