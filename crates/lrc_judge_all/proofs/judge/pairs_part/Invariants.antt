use Rattle.std.proofs.Common.{◌≡◌, take}
use Rattle.lrc_judge_text.specs.Judgement.{pair_lines}
use Rattle.lrc_judge_all.proofs.judge.pairs_part.Given as goal

-- the lines of the pairs so far
abbrev pub invariant-loop-pair : goal.invariant-loop-pair
invariant-loop-pair l = l.text.items ≡ pair_lines l.acts (take l.pair-index l.pairs)
