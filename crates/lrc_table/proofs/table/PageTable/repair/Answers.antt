use Rattle.std.proofs.Common.{◌<◌, ◌∙◌, ap, sym, length, arith}
use Rattle.lrc_table.specs.PageCopy.{PageCopy, is_written}
use Rattle.lrc_table.specs.Table.{Table, copy_at}
use Rattle.lrc_table.proofs.Tables.{sound-changed, invalid_read, whole-repaired}
use Rattle.lrc_table.proofs.table.PageTable.repair.Goals as goal

pub invariant_of-self : goal.invariant_of-self
invariant_of-self c =
    let table : Table = record { size = c.self.inside.size; copies = c.self.inside.slots.items } in
    let within : c.from.result < length table.copies =
    omega (arith, c.from.ensures, ap (λ (t : Table). length t.copies) c.self.view_is, c.requires.in_range) in
    sound-changed table c.self.inside.written c.from.result c.index_mut.result.now c.repair.new.self c.self.invariant within
    c.index_mut.ensures.value
    (λ whole. rw c.repair.ensures (whole-repaired table.size c.index_mut.result.now c.args.changes.now whole))
    (ap (λ (copy : PageCopy). is_written copy.state) c.repair.ensures
    ∙ sym (ap is_written (invalid_read table c.from.result c.args.page c.index_mut.result.now within c.from.ensures c.index_mut.ensures.value
    (ap (λ (t : Table). (copy_at t c.args.page).state) c.self.view_is ∙ c.requires.invalid))))
