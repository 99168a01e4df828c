use Rattle.std.proofs.Common.{◌≡◌, ◌+◌, map, take}
use Rattle.lrc_text.specs.Each.{each}
use Rattle.lrc_chart_build.specs.Races.{race_at}
use Rattle.lrc_chart_build.specs.Seen.{seen_race}
use Rattle.lrc_chart_build.proofs.races.races_between.Given as goal

-- the races of the pairs so far
abbrev pub invariant-loop-before : goal.invariant-loop-before
invariant-loop-before l =
    map seen_race l.races.items ≡ each (λ before pair. race_at l.known l.places (before + 1) pair) (take l.before l.found)
