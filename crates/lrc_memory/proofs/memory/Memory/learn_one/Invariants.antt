use Rattle.std.proofs.Common.{◌≡◌, take}
use Rattle.std.specs.Prelude.{fold}
use Rattle.lrc_store.specs.Store.{added}
use Rattle.lrc_memory.specs.View.{SameMemory, with_known}
use Rattle.lrc_memory.specs.Steps.{invalidated_on}
use Rattle.lrc_memory.proofs.memory.Memory.learn_one.Given as goal

abbrev pub invariant-loop-page : goal.invariant-loop-page
invariant-loop-page l = record {
  so_far : l.self ≡ with_known l.fn.self (record l.fn.self.memory {
    store = added l.fn.self.memory.store l.fn.interval;
    copies = fold (invalidated_on l.fn.before) l.fn.self.memory.copies (take l.page-index l.page-items);
  });
  same : SameMemory l.fn.self l.self;
}
