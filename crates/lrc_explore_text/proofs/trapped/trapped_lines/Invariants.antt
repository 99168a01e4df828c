use Rattle.std.proofs.Common.{◌≡◌, map, take}
use Rattle.lrc_text.specs.Each.{each}
use Rattle.lrc_labels.specs.Reading.{label_seen}
use Rattle.lrc_explain_waits.specs.Traps.{trap_at}
use Rattle.lrc_named_core.specs.View.{trap_of}
use Rattle.lrc_explore_text.specs.Trapped.{trapped_line}
use Rattle.lrc_explore_text.proofs.trapped.trapped_lines.Given as goal

abbrev pub invariant-loop-me : goal.invariant-loop-me
invariant-loop-me l = l.text.items ≡ each (λ me stand. trapped_line (map label_seen l.labels) (trap_at (map trap_of l.traps) me) l.stands me stand) (take l.me l.stands)
