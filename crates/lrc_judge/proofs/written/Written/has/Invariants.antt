-- No node so far writes the value.

use Rattle.lrc_judge.specs.Written.{IsValueBelow}
use Rattle.lrc_judge.proofs.written.Written.has.Given as goal

abbrev pub invariant-loop-node : goal.invariant-loop-node
invariant-loop-node l = IsValueBelow l.self l.word l.value l.node l.position → ⊥
