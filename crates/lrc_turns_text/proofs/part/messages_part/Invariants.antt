use Rattle.std.proofs.Common.{◌≡◌, ◌≤◌, [], map, take}
use Rattle.lrc_turns_text.specs.Told.{Tells}
use Rattle.lrc_turns_text.specs.Turns.{turns_told}
use Rattle.lrc_turns_text.specs.TurnsText.{texts_behind}
use Rattle.lrc_turns_text.proofs.part.messages_part.Given as goal

-- the turns of the nodes so far are told, and known
abbrev pub invariant-loop-node : goal.invariant-loop-node
invariant-loop-node l = record {
  text : l.text.items ≡ texts_behind l.lines [] (turns_told (map (λ log. log.items) l.logs) (take l.node-index l.order));
  told : Tells (turns_told (map (λ log. log.items) l.logs) (take l.node-index l.order)) l.told;
  acts : l.told.acts ≤ l.node-index;
}
