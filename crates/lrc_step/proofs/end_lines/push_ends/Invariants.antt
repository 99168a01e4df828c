use Rattle.std.proofs.Common.{◌≡◌, ◌++◌, take}
use Rattle.lrc_step.specs.EndLines.{ends_text}
use Rattle.lrc_step.proofs.end_lines.push_ends.Given as goal

-- those of the nodes so far
abbrev pub invariant-loop-node : goal.invariant-loop-node
invariant-loop-node l = l.text.items ≡ l.initial.text.items ++ ends_text (take l.node l.ends)
