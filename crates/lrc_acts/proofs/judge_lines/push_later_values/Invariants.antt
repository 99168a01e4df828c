use Rattle.std.proofs.Common.{◌≡◌, ◌++◌, take}
use Rattle.lrc_acts.specs.JudgeLines.{later_values_text}
use Rattle.lrc_acts.proofs.judge_lines.push_later_values.Given as goal

-- the values so far
abbrev pub invariant-loop-value : goal.invariant-loop-value
invariant-loop-value l = l.text.items ≡ l.initial.text.items ++ later_values_text (take l.value-index l.values)
