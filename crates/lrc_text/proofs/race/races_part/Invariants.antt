use Rattle.std.proofs.Common.{◌≡◌, take}
use Rattle.std.specs.List.{flat_map}
use Rattle.lrc_text.specs.RaceText.{race_line}
use Rattle.lrc_text.proofs.race.races_part.Given as goal

-- the lines of the races so far
abbrev pub invariant-loop-race : goal.invariant-loop-race
invariant-loop-race l = l.text.items ≡ flat_map race_line (take l.race-index l.races)
