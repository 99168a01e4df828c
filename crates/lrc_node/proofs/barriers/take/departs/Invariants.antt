use Rattle.std.proofs.Common.{◌≡◌, map}
use Rattle.lrc_protocol.specs.Turn.{departure_of}
use Rattle.lrc_node.specs.State.{AreFor}
use Rattle.lrc_node.proofs.barriers.take.departs.Given as goal

abbrev pub invariant-loop-departure : goal.invariant-loop-departure
invariant-loop-departure l = record {
  letters : l.letters.items ≡ map departure_of l.yielded;
  are_for : AreFor l.nodes l.letters.items;
}
