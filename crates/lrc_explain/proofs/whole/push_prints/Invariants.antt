use Rattle.std.proofs.Common.{◌≡◌, ◌++◌, take}
use Rattle.lrc_explain.specs.Explain.{prints_text}
use Rattle.lrc_explain.proofs.whole.push_prints.Given as goal

abbrev pub invariant-loop-act : goal.invariant-loop-act
invariant-loop-act l = l.text.items ≡ l.initial.text.items ++ prints_text l.node (take l.act-index l.acts)
