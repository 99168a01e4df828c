use Rattle.std.proofs.Common.{◌<◌, ap, length, arith}
use Rattle.lrc_table.specs.PageCopy.{settled}
use Rattle.lrc_table.specs.Table.{Table}
use Rattle.lrc_table.proofs.Tables.{either, sound-settled}
use Rattle.lrc_table.proofs.table.PageTable.settle.Goals as goal

pub invariant_of-self : goal.invariant_of-self
invariant_of-self c =
    let table : Table = record { size = c.self.inside.size; copies = c.self.inside.slots.items } in
    let within : c.from.result < length table.copies =
    omega (arith, c.from.ensures, ap (λ (t : Table). length t.copies) c.self.view_is, c.requires) in
    sound-settled table c.self.inside.written c.from.result c.index_mut.result.now c.settle.new.self c.self.invariant within
    c.index_mut.ensures.value
    (either c.settle.result c.settle.new.self (settled c.index_mut.result.now) c.index_mut.result.now c.settle.ensures.ok c.settle.ensures.err)
