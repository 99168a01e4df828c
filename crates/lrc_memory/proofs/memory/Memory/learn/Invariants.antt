use Rattle.std.proofs.Common.{◌≡◌, take, drop}
use Rattle.std.specs.Prelude.{IsTrue, fold}
use Rattle.lrc_memory.specs.View.{SameMemory, WasLast, with_known}
use Rattle.lrc_memory.specs.Steps.{learned_one}
use Rattle.lrc_memory.specs.Turns.{CanBeAdded}
use Rattle.lrc_memory.proofs.memory.Memory.learn.Given as goal

abbrev pub invariant-loop-interval : goal.invariant-loop-interval
invariant-loop-interval l = record {
  so_far : l.self ≡ with_known l.fn.self (fold (learned_one l.fn.before) l.fn.self.memory (take l.interval-index l.interval-items));
  rest : CanBeAdded l.self.memory.store (drop l.interval-index l.interval-items);
  same : SameMemory l.fn.self l.self;
  in_step : IsTrue l.in_step → WasLast l.self.memory.store l.fn.before;
}
