use Rattle.std.proofs.Common.{◌≡◌, take}
use Rattle.std.specs.Prelude.{fold}
use Rattle.lrc_protocol.specs.Pages.{with_part}
use Rattle.lrc_memory.specs.View.{SameMemory, with_known}
use Rattle.lrc_memory.proofs.memory.Memory.attach.Given as goal

abbrev pub invariant-loop-part : goal.invariant-loop-part
invariant-loop-part l = record {
  so_far : l.self ≡ with_known l.fn.self (record l.fn.self.memory {
    store = fold (with_part l.fn.maker l.fn.page) l.fn.self.memory.store (take l.part-index l.part-items);
  });
  same : SameMemory l.fn.self l.self;
}
