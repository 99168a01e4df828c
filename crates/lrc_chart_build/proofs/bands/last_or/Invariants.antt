use Rattle.std.proofs.Common.{◌≡◌, take}
use Rattle.lrc_chart_build.specs.Bands.{last_or}
use Rattle.lrc_chart_build.proofs.bands.last_or.Given as goal

-- the last of the numbers so far
abbrev pub invariant-loop-number : goal.invariant-loop-number
invariant-loop-number l = l.last ≡ last_or l.other (take l.number-index l.numbers)
