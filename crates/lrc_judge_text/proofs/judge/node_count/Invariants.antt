use Rattle.std.proofs.Common.{take}
use Rattle.lrc_judge_text.specs.Judgement.{IsNodeCount}
use Rattle.lrc_judge_text.proofs.judge.node_count.Given as goal

abbrev pub invariant-loop-act : goal.invariant-loop-act
invariant-loop-act l = IsNodeCount (take l.act-index l.acts) l.count
