-- What was added so far.
use Rattle.std.proofs.Common.{◌≡◌, ◌++◌, take}
use Rattle.lrc_why_text.specs.Learning.{learners_text}
use Rattle.lrc_why_text.proofs.forward.push_learners.Given as goal

abbrev pub invariant-loop-node : goal.invariant-loop-node
invariant-loop-node l = l.text.items ≡ l.fn.text.items ++ learners_text l.shown (take l.node l.learners)
