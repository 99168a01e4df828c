use Rattle.std.proofs.Common.{◌≡◌, ◌++◌, map, take}
use Rattle.lrc_text.specs.Each.{each}
use Rattle.lrc_labels.specs.Reading.{label_seen}
use Rattle.lrc_explain_waits.specs.Stuck.{end_text}
use Rattle.lrc_explain_waits.specs.Traps.{trap_at}
use Rattle.lrc_named_core.specs.View.{trap_of}
use Rattle.lrc_explain.specs.Explain.{prints_text}
use Rattle.lrc_explain.proofs.whole.nodes_part.Given as goal

abbrev pub invariant-loop-node : goal.invariant-loop-node
invariant-loop-node l = l.text.items ≡ each (λ node stand. prints_text node l.acts ++ end_text (map label_seen l.labels) (trap_at (map trap_of l.traps) node) l.stands node stand) (take l.node l.stands)
