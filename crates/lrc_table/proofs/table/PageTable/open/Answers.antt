use Rattle.std.proofs.Common.{◌≡◌, ◌<◌, ◌∙◌, ap, length, arith}
use Rattle.lrc_table.specs.PageCopy.{PageCopy, is_written}
use Rattle.lrc_table.specs.Table.{Table, copy_at}
use Rattle.lrc_table.proofs.Tables.{sound-opened, whole-opened, whole-read, unlisted}
use Rattle.lrc_table.proofs.table.PageTable.open.Goals as goal

pub insert-requires-clause-other : goal.insert-requires-clause-other
insert-requires-clause-other c =
    let table : Table = record { size = c.self.inside.size; copies = c.self.inside.slots.items } in
    unlisted table c.self.inside.written c.args.page c.self.invariant (ap (λ (t : Table). (copy_at t c.args.page).state) c.self.view_is ∙ c.requires.valid)

pub invariant_of-self-2 : goal.invariant_of-self-2
invariant_of-self-2 c =
    let table : Table = record { size = c.self.inside.size; copies = c.self.inside.slots.items } in
    let place : c.from-place.result ≡ c.args.page = c.from-place.ensures in
    let within : c.from-place.result < length table.copies =
    omega (arith, place, ap (λ (t : Table). length t.copies) c.self.view_is, c.requires.in_range) in
    let whole = whole-read table c.self.inside.written c.from-place.result c.index_mut.result.now c.self.invariant within c.index_mut.ensures.value in
    sound-opened table c.self.inside.written c.insert.new.self c.from-place.result c.open.new.self c.self.invariant
    (rw c.open.ensures (whole-opened table.size c.index_mut.result.now whole)) within
    (ap (λ (copy : PageCopy). is_written copy.state) c.open.ensures) c.in_ok-insert.ensures.rising
    (rw place c.in_ok-insert.ensures.members)
