use Rattle.std.proofs.Common.{◌≡◌, take, map}
use Rattle.lrc_node.specs.Requests.{part_in}
use Rattle.lrc_node.proofs.pages.requests.parts_of.Given as goal

abbrev pub invariant-loop-index : goal.invariant-loop-index
invariant-loop-index l = record {
  parts : l.parts.items ≡ map (part_in l.initial.memory l.page) (take l.index-index l.asked);
  kept : l.memory ≡ l.initial.memory;
}
