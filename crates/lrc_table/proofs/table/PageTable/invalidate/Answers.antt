use Rattle.std.proofs.Common.{◌≡◌, ◌<◌, ◌∙◌, false, ap, length, arith}
use Rattle.lrc_table.specs.PageCopy.{PageCopy, is_pending, is_written}
use Rattle.lrc_table.specs.Table.{Table, copy_at}
use Rattle.lrc_table.proofs.Tables.{read_is, sound-changed, whole-invalidated, written-invalidated}
use Rattle.lrc_table.proofs.table.PageTable.invalidate.Goals as goal

pub invariant_of-self : goal.invariant_of-self
invariant_of-self c =
    let table : Table = record { size = c.self.inside.size; copies = c.self.inside.slots.items } in
    let within : c.from.result < length table.copies =
    omega (arith, c.from.ensures, ap (λ (t : Table). length t.copies) c.self.view_is, c.requires.in_range) in
    let unsettled : is_pending c.index_mut.result.now ≡ false =
    ap is_pending (read_is table c.from.result c.args.page c.index_mut.result.now within c.from.ensures c.index_mut.ensures.value)
    ∙ ap (λ (t : Table). is_pending (copy_at t c.args.page)) c.self.view_is
    ∙ c.requires.settled in
    sound-changed table c.self.inside.written c.from.result c.index_mut.result.now c.invalidate.new.self c.self.invariant within
    c.index_mut.ensures.value
    (λ whole. rw c.invalidate.ensures (whole-invalidated table.size c.index_mut.result.now unsettled whole))
    (ap (λ (copy : PageCopy). is_written copy.state) c.invalidate.ensures ∙ written-invalidated c.index_mut.result.now)
