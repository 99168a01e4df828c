-- Of the pairs that are told of an event those whose keys are not there.
use Rattle.std.specs.Prelude.{◌≡◌, ◌↔◌, List, ◌++◌, AllPairs, Contains, map}
use Rattle.lrc_races_trace.specs.declared.event.Pair.{Pair}
use Rattle.lrc_races_trace.specs.Races.{ComesFirst}
use Rattle.lrc_races_missed.specs.declared.key.Key.{Key}
use Rattle.lrc_races_missed.specs.declared.key.Key.TheVariants as keyed
use Rattle.lrc_races_missed.specs.declared.pairs.TwoLines.{TwoLines}
use Rattle.lrc_races_missed.specs.Missed.{lines_of}

-- the key of the pair is not there, in either order
abbrev pub IsKeyless : List Key → TwoLines → Type 0
IsKeyless keys both = ¬ Contains keys (keyed.Pair both.earlier both.later) × ¬ Contains keys (keyed.Pair both.later both.earlier)

pub record AreKeyless (keys : List Key) (told pairs : List Pair) : Type 0 where
  pub in_order : AllPairs ComesFirst pairs
  pub exact : (pair : Pair) → Contains pairs pair ↔ (Contains told pair × IsKeyless keys (lines_of pair))

-- the lines of those are added
abbrev pub AreLinesAdded : List Key → List Pair → List TwoLines → List TwoLines → Type 0
AreLinesAdded keys told old new = (pairs : List Pair) × AreKeyless keys told pairs × (new ≡ old ++ map lines_of pairs)
