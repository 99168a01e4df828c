-- What was added so far.
use Rattle.std.proofs.Common.{◌≡◌, ◌++◌, take}
use Rattle.std.specs.Prelude.{slice_index}
use Rattle.lrc_text.specs.Each.{each}
use Rattle.lrc_why_lines.specs.Ordered.{step_line}
use Rattle.lrc_why_lines.proofs.relation.push_steps.Given as goal

abbrev pub invariant-loop-k : goal.invariant-loop-k
invariant-loop-k l = l.text.items ≡ l.fn.text.items ++ each (λ k to. step_line l.shown (slice_index l.chain k) to) (take l.k l.steps)
