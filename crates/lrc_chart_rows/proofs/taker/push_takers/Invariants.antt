use Rattle.std.proofs.Common.{◌≡◌, take}
use Rattle.lrc_text.specs.Each.{each}
use Rattle.lrc_chart_rows.proofs.Finding.{position_if}
use Rattle.lrc_chart_rows.proofs.taker.push_takers.Given as goal

-- the positions among those of the turns so far
abbrev pub invariant-loop-position : goal.invariant-loop-position
invariant-loop-position l = l.positions.items ≡ each (position_if l.envelope) (take l.position l.turns)
