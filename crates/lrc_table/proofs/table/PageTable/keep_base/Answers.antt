use Rattle.std.proofs.Common.{◌<◌, ap, length, arith}
use Rattle.lrc_table.specs.PageCopy.{with_base}
use Rattle.lrc_table.specs.Table.{Table}
use Rattle.lrc_table.proofs.Tables.{either, sound-with_base, whole-read}
use Rattle.lrc_table.proofs.table.PageTable.keep_base.Goals as goal

pub keep_base-requires : goal.keep_base-requires
keep_base-requires c =
    let table : Table = record { size = c.self.inside.size; copies = c.self.inside.slots.items } in
    let within : c.from.result < length table.copies =
    omega (arith, c.from.ensures, ap (λ (t : Table). length t.copies) c.self.view_is, c.requires.in_range) in
    let whole = whole-read table c.self.inside.written c.from.result c.index_mut.result.now c.self.invariant within c.index_mut.ensures.value in
    whole.values

pub invariant_of-self : goal.invariant_of-self
invariant_of-self c =
    let table : Table = record { size = c.self.inside.size; copies = c.self.inside.slots.items } in
    let within : c.from.result < length table.copies =
    omega (arith, c.from.ensures, ap (λ (t : Table). length t.copies) c.self.view_is, c.requires.in_range) in
    sound-with_base table c.self.inside.written c.from.result c.index_mut.result.now c.keep_base.new.self c.self.invariant within
    c.index_mut.ensures.value
    (either c.keep_base.result c.keep_base.new.self (with_base c.index_mut.result.now) c.index_mut.result.now c.keep_base.ensures.ok c.keep_base.ensures.err)
