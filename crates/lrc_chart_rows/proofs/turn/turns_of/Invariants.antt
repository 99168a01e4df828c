use Rattle.std.proofs.Common.{◌≡◌, map, take}
use Rattle.lrc_turns_text.specs.Turns.{turns_told}
use Rattle.lrc_chart_rows.specs.Counts.{Counts}
use Rattle.lrc_chart_rows.proofs.turn.turns_of.Given as goal

-- the turns of the nodes so far, and how many each of them made
abbrev pub invariant-loop-node : goal.invariant-loop-node
invariant-loop-node l = record {
  turns : l.turns.items ≡ turns_told (map (λ log. log.items) l.logs) (take l.node-index l.order);
  counts : Counts l.turns.items l.made.counts;
}
