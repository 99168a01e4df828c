use Rattle.std.proofs.Common.{◌≡◌, ◌++◌, take}
use Rattle.std.specs.List.{flat_map}
use Rattle.lrc_explain_waits.specs.Circles.{waits_text}
use Rattle.lrc_explain_waits.proofs.circles.push_way.Given as goal

abbrev pub invariant-loop-node : goal.invariant-loop-node
invariant-loop-node l = l.text.items ≡ l.initial.text.items ++ flat_map waits_text (take l.node-index l.way)
