use Rattle.std.proofs.Common.{◌≡◌, take}
use Rattle.std.specs.Prelude.{slice_index}
use Rattle.lrc_text.specs.ActText.{act_line}
use Rattle.lrc_text.specs.Each.{each}
use Rattle.lrc_acts_text.proofs.acts.acts_part.Given as goal

-- the lines of the acts so far
abbrev pub invariant-loop-position : goal.invariant-loop-position
invariant-loop-position l = l.text.items ≡ each (λ position act. act_line act (slice_index l.lines position)) (take l.position l.acts)
