use Rattle.std.proofs.Common.{◌≡◌, ◌++◌, take}
use Rattle.lrc_chart_text.specs.Lines.{plain_signs}
use Rattle.lrc_chart_text.proofs.lines.push_plain.Given as goal

abbrev pub invariant-loop-sign : goal.invariant-loop-sign
invariant-loop-sign l = l.text.items ≡ l.initial.text.items ++ plain_signs (take l.sign-index l.words)
