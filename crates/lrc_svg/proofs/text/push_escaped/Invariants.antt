use Rattle.std.proofs.Common.{◌≡◌, ◌++◌, take}
use Rattle.lrc_svg.specs.Texts.{escaped}
use Rattle.lrc_svg.proofs.text.push_escaped.Given as goal

abbrev pub invariant-loop-byte : goal.invariant-loop-byte
invariant-loop-byte l = l.text.items ≡ l.initial.text.items ++ escaped (take l.byte-index l.words)
