use Rattle.std.proofs.Common.{◌≡◌, ◌++◌, take}
use Rattle.lrc_step.specs.Lines.{rivals_text}
use Rattle.lrc_step.proofs.lines.push_rivals.Given as goal

-- those of the nodes so far
abbrev pub invariant-loop-node : goal.invariant-loop-node
invariant-loop-node l = l.text.items ≡ l.initial.text.items ++ rivals_text (take l.node l.rivals)
