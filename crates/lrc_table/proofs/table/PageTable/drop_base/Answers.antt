use Rattle.std.proofs.Common.{◌<◌, ap, length, arith}
use Rattle.lrc_table.specs.PageCopy.{PageCopy, is_written}
use Rattle.lrc_table.specs.Table.{Table}
use Rattle.lrc_table.proofs.Tables.{sound-changed, whole-without_base}
use Rattle.lrc_table.proofs.table.PageTable.drop_base.Goals as goal

pub invariant_of-self : goal.invariant_of-self
invariant_of-self c =
    let table : Table = record { size = c.self.inside.size; copies = c.self.inside.slots.items } in
    let within : c.from.result < length table.copies =
    omega (arith, c.from.ensures, ap (λ (t : Table). length t.copies) c.self.view_is, c.requires) in
    sound-changed table c.self.inside.written c.from.result c.index_mut.result.now c.drop_base.new.self c.self.invariant within
    c.index_mut.ensures.value
    (λ whole. rw c.drop_base.ensures (whole-without_base table.size c.index_mut.result.now whole))
    (ap (λ (copy : PageCopy). is_written copy.state) c.drop_base.ensures)
