use Rattle.std.proofs.Common.{◌≡◌, ◌++◌, take}
use Rattle.lrc_json.specs.Spelling.{spelled}
use Rattle.lrc_json.proofs.spelling.push_spelled.Given as goal

-- the bytes so far
abbrev pub invariant-loop-byte : goal.invariant-loop-byte
invariant-loop-byte l = l.text.items ≡ l.initial.text.items ++ spelled (take l.byte-index l.of)
