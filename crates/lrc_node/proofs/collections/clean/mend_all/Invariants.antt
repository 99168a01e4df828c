use Rattle.std.proofs.Common.{◌≡◌, take}
use Rattle.std.specs.Prelude.{fold}
use Rattle.lrc_memory.specs.View.{SameMemory, with_known}
use Rattle.lrc_protocol.specs.Pages.{repaired}
use Rattle.lrc_node.proofs.collections.clean.mend_all.Given as goal

abbrev pub invariant-loop-need : goal.invariant-loop-need
invariant-loop-need l = record {
  so_far : l.memory ≡ with_known l.fn.memory (fold repaired l.fn.memory.memory (take l.need-index l.needs));
  same : SameMemory l.fn.memory l.memory;
}
