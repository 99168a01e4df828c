use Rattle.std.proofs.Common.{◌≡◌, take}
use Rattle.std.specs.Prelude.{fold}
use Rattle.lrc_memory.specs.View.{SameMemory, with_known}
use Rattle.lrc_protocol.specs.Barriers.{with_base}
use Rattle.lrc_node.proofs.collections.clean.keep_all.Given as goal

abbrev pub invariant-loop-page : goal.invariant-loop-page
invariant-loop-page l = record {
  so_far : l.memory ≡ with_known l.fn.memory (fold with_base l.fn.memory.memory (take l.page-index l.pages));
  same : SameMemory l.fn.memory l.memory;
}
