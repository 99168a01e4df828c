use Rattle.std.proofs.Common.{◌≡◌, take}
use Rattle.lrc_text.specs.Parts.{whole_text}
use Rattle.lrc_explore_text.proofs.outcomes.whole_of.Given as goal

-- the parts so far
abbrev pub invariant-loop-part : goal.invariant-loop-part
invariant-loop-part l = l.whole.items ≡ whole_text (take l.part-index l.parts)
