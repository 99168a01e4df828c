use Rattle.std.proofs.Common.{◌≡◌, take}
use Rattle.std.specs.List.{flat_map}
use Rattle.lrc_explore_text.specs.Outcomes.{spaced}
use Rattle.lrc_explore_text.proofs.outcomes.on_one_line.Given as goal

-- the bytes so far
abbrev pub invariant-loop-byte : goal.invariant-loop-byte
invariant-loop-byte l = l.line.items ≡ flat_map spaced (take l.byte-index l.front)
