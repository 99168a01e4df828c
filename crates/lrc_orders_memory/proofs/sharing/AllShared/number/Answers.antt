use Rattle.std.proofs.Common.{◌≡◌, sym, subst}
use Rattle.std.specs.Prelude.{Some, slice_get}
use Rattle.lrc_orders_memory.specs.declared.parts.Memory.{Memory}
use Rattle.lrc_orders_memory.specs.declared.sharing.Shared.{Shared}
use Rattle.lrc_orders_memory.specs.Parts.{IsMemory}
use Rattle.lrc_orders_memory.proofs.Apart.{shared_same}
use Rattle.lrc_orders_memory.proofs.sharing.AllShared.number.Goals as goal

pub returns-clause-there : goal.returns-clause-there
returns-clause-there c words m =
    let s = c.in_ok-place.ensures.stored in
    let made : Shared = record { memory = c.args.memory; holders = c.args.holders } in
    let same = shared_same made s.0 s.2 in
    record {
      shared = s.0;
      there = subst (λ n. slice_get c.insert_full.new.self.keys n ≡ Some s.0) (sym c.in_ok-number.ensures) s.1;
      memory = subst (λ (x : Memory). IsMemory c.args.self.now.parts x words) same.0 m;
      holders_are = sym same.1;
    }
