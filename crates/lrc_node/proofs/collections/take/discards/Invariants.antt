use Rattle.std.proofs.Common.{◌≡◌}
use Rattle.std.specs.List.{range_with_len}
use Rattle.lrc_protocol.specs.Turn.{discards_to}
use Rattle.lrc_node.specs.State.{AreFor}
use Rattle.lrc_node.proofs.collections.take.discards.Given as goal

abbrev pub invariant-loop-to : goal.invariant-loop-to
invariant-loop-to l = record {
  letters : l.letters.items ≡ discards_to (range_with_len 0 l.to) l.episode;
  are_for : AreFor l.nodes l.letters.items;
}
