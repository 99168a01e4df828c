use Rattle.std.proofs.Common.{◌≡◌, take}
use Rattle.std.specs.List.{flat_map}
use Rattle.lrc_explore_text.specs.LastRaces.{race_ending_at}
use Rattle.lrc_explore_text.proofs.last_races.races_between.Given as goal

-- the races of the pairs so far
abbrev pub invariant-loop-pair : goal.invariant-loop-pair
invariant-loop-pair l = l.races.items ≡ flat_map (race_ending_at l.acts l.position) (take l.pair-index l.pairs)
